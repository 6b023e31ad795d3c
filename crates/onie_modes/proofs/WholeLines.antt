-- Texts of whole lines.
use Rattle.std.proofs.Common.{◌≡◌, inl, inr, ℕ, List, [], ◌∷◌, ◌++◌, length, take, drop, Option, refl, sym, ap, ◌∙◌, append_assoc, append-nil, take-append-drop}
use Rattle.std.specs.Prelude.{codes}
use Rattle.std.specs.Fmt.{decimal}
use Rattle.std.specs.List.{flat_map}
use Rattle.std.proofs.lemmas.Grind.{flat_map-append}
use Rattle.bd_dev.specs.Sink.{Appends}
use Rattle.bd_dev.proofs.Appending.{Appends-same}
use Rattle.fetch_text.specs.Lines.{cause_of, found_line_of, line_of, miss_line_of}
use Rattle.find_fetch.specs.declared.fetched.Fetched.{Fetched}
use Rattle.find_fetch.specs.declared.fetched.Fetched.TheVariants as fetched
use Rattle.find_fetch.specs.declared.fetched.Miss.{Miss}
use Rattle.onie_modes.specs.Console.{AppendsLines, AreLines}

-- the last line has its end
abbrev pub EndsLine : List ℕ → Type 0
EndsLine text = (front : List ℕ) × (text ≡ front ++ codes "\n")

-- so has it behind other bytes
ends_behind : (xs ys : List ℕ) → EndsLine ys → EndsLine (xs ++ ys)
ends_behind xs ys end = (xs ++ end.0, ap (λ (t : List ℕ). xs ++ t) end.1 ∙ sym (append_assoc xs end.0 (codes "\n")))

found_ends : (shown : List ℕ) (size : ℕ) → EndsLine (found_line_of shown size)
found_ends shown size = ends_behind (codes "found " ++ shown ++ codes ": " ++ decimal size) (codes " bytes\n") (codes " bytes", refl)

miss_ends : (shown : List ℕ) (miss : Miss) → EndsLine (miss_line_of shown miss)
miss_ends shown miss = (codes "miss " ++ shown ++ codes ": " ++ cause_of miss, refl)

-- a line of a candidate ends
pub candidate_ends : (shown : List ℕ) (found : Fetched) → EndsLine (line_of shown found)
unfolding line_of
candidate_ends shown (fetched.Body body) = found_ends shown (length body)
candidate_ends shown (fetched.Miss miss) = miss_ends shown miss

-- lines behind a line
more_lines : (xs ys : List ℕ) → EndsLine xs → AreLines ys → AreLines (xs ++ ys)
more_lines xs ys end (inl none) = inr (end.0, ap (λ (t : List ℕ). xs ++ t) none ∙ append-nil xs ∙ end.1)
more_lines xs ys end (inr last) = inr (ends_behind xs ys last)

all_lines : {X : Type 0} (line : X → List ℕ) → ((x : X) → EndsLine (line x)) → (list : List X) → AreLines (flat_map line list)
all_lines line ends [] = inl refl
all_lines line ends (x ∷ list) = more_lines (line x) (flat_map line list) (ends x) (all_lines line ends list)

-- the first of the lines, and nothing since
pub first_lines : {X : Type 0} (line : X → List ℕ) (old mid new : Option (List ℕ)) (list : List X) (i : ℕ) → ((x : X) → EndsLine (line x))
    → Appends old mid (flat_map line (take i list)) → new ≡ mid → AppendsLines old new (flat_map line list)
first_lines {X} line old mid new list i ends h same = record {
  lines = flat_map line (take i list);
  rest = flat_map line (drop i list);
  is = ap (flat_map line) (sym (take-append-drop i list)) ∙ flat_map-append line (take i list) (drop i list);
  whole = all_lines line ends (take i list);
  taken = same ∙ h;
}

-- none of the lines
pub no_lines : (old : Option (List ℕ)) (text : List ℕ) → AppendsLines old old text
no_lines old text = record { lines = []; rest = text; is = refl; whole = inl refl; taken = Appends-same old }
