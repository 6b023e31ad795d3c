use Rattle.std.proofs.Common.{◌≡◌, ℕ, suc, ◌+◌, ◌-◌, List, length, take, drop, Option, Some, None, refl, ap, ◌∙◌, arith, add-one}
use Rattle.std.specs.Prelude.{◌↔◌, IsTrue, is_some}
use Rattle.std.specs.Option.{SomeIff}
use Rattle.std.proofs.lemmas.List.{take_rest}
use Rattle.tlvinfo.specs.declared.info.Entry.{Entry}
use Rattle.tlvinfo.specs.TlvInfo.{joined}
use Rattle.tlvinfo.specs.View.{fields_of}
use Rattle.tlvinfo.proofs.Joined.{length-joined-remove}
use Rattle.tlvinfo.proofs.editing.has_room.Goals as goal

is_some-SomeIff : (r : Option ℕ) (P : Type 0) (v : ℕ) → SomeIff r P v → IsTrue (is_some r) ↔ P
is_some-SomeIff None P v h = (λ t. absurd cc, λ p. absurd (h p))
is_some-SomeIff (Some x) P v h = (λ _. h.0, λ _. refl)

length-joined-after : (es : List Entry) (k : ℕ) → length (joined (fields_of (take (length es - (k + 1)) (drop (k + 1) es)))) ≡ length (joined (fields_of (drop (suc k) es)))
length-joined-after es k = ap (λ (l : List Entry). length (joined (fields_of l))) (take_rest es (k + 1) ∙ ap (λ (n : ℕ). drop n es) (add-one k))

pub returns-in-Some-total_with : goal.returns-in-Some-total_with
returns-in-Some-total_with c =
    let es = c.args.entries.now in
    let k = c.in-Some.place in
    let before = rw c.in-Some-total_with.is at c.total_with-2.ensures in
    let both = is_some-SomeIff _ _ _ c.total_with-in-Some-total_with.ensures in
    let all = length-joined-remove es k in
    let after = length-joined-after es k in
    rw (c.is_some-in-Some-total_with.ensures, c.in-Some.is) (λ t. omega (arith, both.0 t, before.1, all, after), λ le. both.1 (omega (arith, before.1, all, after)))

pub returns-in-None : goal.returns-in-None
returns-in-None c =
    let long = rw c.in-None.is at c.total_with-2.ensures in
    let all = length-joined-remove c.args.entries.now c.in-Some.place in
    rw c.in-Some.is (λ t. absurd cc, λ le. absurd (long (omega (arith, le, all))))
