-- The fields' bytes, and how many they are.
use Rattle.std.proofs.Common.{◌≡◌, ℕ, suc, ◌+◌, ◌<◌, ◌≤◌, List, [], ◌∷◌, ◌++◌, length, take, drop, get_or, sym, ap, ◌∙◌, length-append, take-append-drop, arith}
use Rattle.std.specs.Prelude.{remove}
use Rattle.std.proofs.lemmas.List.{append-nil, drop-map, map-append, take-map, take_more}
use Rattle.std.proofs.lemmas.List.Concat.{flat_map-append}
use Rattle.tlvinfo.specs.declared.info.Entry.{Entry}
use Rattle.byteorder.specs.Endian.{big_bytes}
use Rattle.bd_bytes.specs.Crc.{crc32_of}
use Rattle.tlvinfo.specs.TlvInfo.{Field, field_bytes, joined, header, total_of, before_checksum, spelling}
use Rattle.tlvinfo.specs.View.{entry_field, fields_of}

pub joined-append : (fs gs : List Field) → joined (fs ++ gs) ≡ joined fs ++ joined gs
joined-append fs gs = flat_map-append field_bytes fs gs

-- one field more, which the loop read
pub joined_more : (es : List Entry) (i : ℕ) (e : Entry) → i < length es → e ≡ get_or es i e → joined (fields_of (take (i + 1) es)) ≡ joined (fields_of (take i es)) ++ field_bytes (entry_field e)
joined_more es i e lt read =
    ap (λ (l : List Entry). joined (fields_of l)) (take_more es i e lt ∙ ap (λ (x : Entry). take i es ++ x ∷ []) (sym read))
    ∙ ap joined (map-append entry_field (take i es) (e ∷ []))
    ∙ joined-append (fields_of (take i es)) (entry_field e ∷ [])
    ∙ ap (λ (l : List ℕ). joined (fields_of (take i es)) ++ l) (append-nil (field_bytes (entry_field e)))

-- the first fields have no more bytes than all
pub length-joined-take-le : (n : ℕ) (es : List Entry) → length (joined (fields_of (take n es))) ≤ length (joined (fields_of es))
length-joined-take-le n es =
    let parts : joined (fields_of es) ≡ joined (fields_of (take n es)) ++ joined (fields_of (drop n es)) =
    ap (λ (l : List Entry). joined (fields_of l)) (sym (take-append-drop n es)) ∙ ap joined (map-append entry_field (take n es) (drop n es)) ∙ joined-append (fields_of (take n es)) (fields_of (drop n es)) in
    omega (arith, ap length parts, length-append (joined (fields_of (take n es))) (joined (fields_of (drop n es))))

-- one field more has room where all have
pub joined_more-le : (es : List Entry) (i : ℕ) (e : Entry) → i < length es → e ≡ get_or es i e → length (joined (fields_of (take i es))) + (2 + length e.value.items) ≤ length (joined (fields_of es))
joined_more-le es i e lt read =
    omega (arith, length-joined-take-le (i + 1) es, ap length (joined_more es i e lt read), length-append (joined (fields_of (take i es))) (field_bytes (entry_field e)))

-- the whole has the header and the checksum's field besides
pub length-spelling : (fs : List Field) → length (spelling fs) ≡ 17 + length (joined fs)
length-spelling fs = omega (arith, length-append (before_checksum fs) (big_bytes 4 (crc32_of (before_checksum fs))), length-append (header (total_of fs)) (joined fs ++ 0xfe ∷ 4 ∷ []), length-append (joined fs) (0xfe ∷ 4 ∷ []))

-- the fields' bytes without one field's
pub length-joined-remove : (es : List Entry) (k : ℕ) → length (joined (remove (fields_of es) k)) ≡ length (joined (fields_of (take k es))) + length (joined (fields_of (drop (suc k) es)))
length-joined-remove es k =
    ap (λ (l : List Field). length (joined (l ++ drop (suc k) (fields_of es)))) (take-map entry_field k es)
    ∙ ap (λ (l : List Field). length (joined (fields_of (take k es) ++ l))) (drop-map entry_field (suc k) es)
    ∙ ap length (joined-append (fields_of (take k es)) (fields_of (drop (suc k) es)))
    ∙ length-append (joined (fields_of (take k es))) (joined (fields_of (drop (suc k) es)))
