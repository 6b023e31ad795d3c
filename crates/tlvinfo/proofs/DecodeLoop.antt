-- What the loop over the fields keeps.
use Rattle.std.proofs.Common.{◌≡◌, ℕ, suc, ◌+◌, ◌≤◌, List, [], ◌∷◌, ◌++◌, length, take, drop, Some, None, Ok, Err, refl, sym, ap, ◌∙◌, arith, length-take, length-drop}
use Rattle.std.proofs.lemmas.List.{drop-drop}
use Rattle.tlvinfo.specs.declared.fault.TlvKind.{TlvKind}
use Rattle.tlvinfo.specs.TlvInfo.{Field}
use Rattle.tlvinfo.specs.Reading.{total_at, field_at, fields_at, reading}
use Rattle.tlvinfo.proofs.Steps.{step-ends, step-fails, goes_on}

-- the cursor stands in the whole, and reading on from there gives what reading all gives
pub record Reads (bytes whole : List ℕ) (place : ℕ) (left : List ℕ) (before : List Field) : Type 0 where
  pub inside : place + length left ≡ length whole
  pub here : left ≡ drop place whole
  pub so_far : fields_at (suc (length left)) whole place before left ≡ reading bytes

pub Reads-first : (bytes whole : List ℕ) (total : ℕ) → total_at bytes ≡ Ok total → 11 + total ≤ length bytes → whole ≡ take (11 + total) bytes → Reads bytes whole 11 (drop 11 whole) []
unfolding reading
Reads-first bytes whole total e fits is =
    let len : length (drop 11 whole) ≡ total = omega (arith, length-drop 11 whole, ap length is, length-take (11 + total) bytes) in
    record {
      inside = omega (arith, len, ap length is, length-take (11 + total) bytes);
      here = refl;
      so_far = rw (e, len, is) refl;
    }

pub Reads-next : (bytes whole : List ℕ) (place : ℕ) (left : List ℕ) (before : List Field) (f : Field) (after : List ℕ) → Reads bytes whole place left before → 2 + length f.value ≤ length left → field_at whole place before left ≡ Ok (Some f)
    → after ≡ drop (2 + length f.value) left → Reads bytes whole (place + (2 + length f.value)) after (before ++ f ∷ [])
Reads-next bytes whole place left before f after r inside e is = record {
  inside = omega (arith, r.inside, ap length is, length-drop (2 + length f.value) left);
  here = is ∙ ap (drop (2 + length f.value)) r.here ∙ drop-drop (2 + length f.value) place whole;
  so_far = goes_on whole place before left f (place + (2 + length f.value)) after e refl is ∙ r.so_far;
}

pub Reads-last : (bytes whole : List ℕ) (place : ℕ) (left : List ℕ) (before : List Field) → Reads bytes whole place left before → field_at whole place before left ≡ Ok None → reading bytes ≡ Ok before
Reads-last bytes whole place left before r e = sym r.so_far ∙ step-ends (length left) whole place before left e

pub Reads-fails : (bytes whole : List ℕ) (place : ℕ) (left : List ℕ) (before : List Field) (kind : TlvKind) → Reads bytes whole place left before → field_at whole place before left ≡ Err kind → reading bytes ≡ Err kind
Reads-fails bytes whole place left before kind r e = sym r.so_far ∙ step-fails (length left) whole place before left kind e

-- a fault in the header
pub header_fails : (bytes : List ℕ) (kind : TlvKind) → total_at bytes ≡ Err kind → reading bytes ≡ Err kind
unfolding reading
header_fails bytes kind e = rw e refl
