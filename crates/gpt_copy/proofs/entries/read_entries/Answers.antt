use Rattle.std.proofs.Common.{◌≡◌, ℕ, ◌+◌, ◌-◌, ◌*◌, take, drop, ◌∙◌, ap, arith}
use Rattle.std.proofs.lemmas.List.{length-set}
use Rattle.gpt_copy.specs.Entries.{entry_of}
use Rattle.gpt_copy.proofs.Parts.{set_more, are_parts}
use Rattle.gpt_copy.proofs.entries.read_entries.Goals as goal

pub loop-place-preserved : goal.loop-place-preserved
loop-place-preserved c = record {
  long = length-set c.loop-place.entry-items c.loop-place.place _ ∙ c.loop-place.invariant.long;
  done = set_more _ _ _ (λ j. entry_of (take 128 (drop (128 * j) c.args.bytes.now))) (omega arith) c.loop-place.invariant.done
      (let size : 128 * c.loop-place.place + 128 - 128 * c.loop-place.place ≡ 128 = omega arith in c.read_entry.ensures ∙ ap (λ (n : ℕ). entry_of (take n (drop (128 * c.loop-place.place) c.args.bytes.now))) size);
}

pub returns : goal.returns
returns c = are_parts 128 entry_of 128 c.args.bytes.now c.loop-place.entry-items c.loop-place.invariant.long (λ k d lt. c.loop-place.invariant.done k d (omega arith))
