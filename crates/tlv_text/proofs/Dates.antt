-- How the test of a date's places goes along the text.
use Rattle.std.proofs.Common.{◌≡◌, ℕ, arith, IsTrue, List, [], ◌∷◌, length, refl}
use Rattle.std.specs.Bool.{Decides}
use Rattle.std.specs.List.{AllZip, list_all, zip}
use Rattle.std.proofs.lemmas.Bool.Decides.{Decides-and}
use Rattle.tlv_text.specs.Values.{stands_for}

pub Decides-stand : (text marks : List ℕ) → length text ≡ length marks
    → Decides (list_all (λ p. stands_for p.0 p.1) (zip text marks)) (AllZip (λ byte mark. IsTrue (stands_for byte mark)) text marks)
Decides-stand [] [] same = (λ _. tt, λ _. refl)
Decides-stand (byte ∷ text) [] same = absurd (omega arith)
Decides-stand [] (mark ∷ marks) same = absurd (omega arith)
Decides-stand (byte ∷ text) (mark ∷ marks) same = Decides-and _ _ (λ h. h, λ h. h) (Decides-stand text marks (omega arith))
