-- A platform name has one split.
use Rattle.std.proofs.Common.{◌≡◌, ◌≢◌, ℕ, zero, suc, ◌+◌, ◌<◌, ◌≤◌, true, List, [], ◌∷◌, ◌++◌, length, take, drop, refl, sym, ap, ◌∙◌, append_assoc, length-append, length-drop, take-append-drop, drop-cons, arith, add-one}
use Rattle.std.specs.Prelude.{slice_index, EachIndex}
use Rattle.std.specs.List.{list_all}
use Rattle.std.proofs.lemmas.Bool.{and_parts}
use Rattle.std.proofs.lemmas.Bool.Decides.{nat_tests}
use Rattle.std.proofs.lemmas.List.Folds.{list_all-append}
use Rattle.std.proofs.lemmas.List.Sums.{list_all-from_AllPass}
use Rattle.std.proofs.lemmas.List.{get_or-drop, drop-drop}
use Rattle.memchr.specs.Find.{OccursAt, Nowhere}
use Rattle.tlvinfo.specs.Platform.{is_platform_byte, mark, HasNoDash, HasNoMark, Parts, IsSplit, IsPlatform}
use Rattle.tlvinfo.specs.PlatformView.{IsAroundDash, IsAroundMark}

-- ---- what the searches find

OccursAt-drop : (text : List ℕ) (n k : ℕ) → OccursAt (drop n text) mark k → OccursAt text mark (n + k)
OccursAt-drop text n k o = record {
  fits = omega (arith, o.fits, length-drop n text);
  reads = λ j lt. let e : n + k + j ≡ n + (k + j) = omega arith in ap (slice_index text) e ∙ sym (get_or-drop n text (k + j) 0) ∙ o.reads j lt;
}

pub OccursAt-fits : (text : List ℕ) (k : ℕ) → OccursAt text mark k → k + 2 ≤ length text
OccursAt-fits text k o = o.fits

pub mark_found : (text : List ℕ) (k : ℕ) → OccursAt text mark k → Nowhere (OccursAt text mark) (k + 1) (length text + 1) → IsAroundMark text (take k text) (drop 2 (drop k text))
mark_found text k o after =
    let fits = OccursAt-fits text k o in
    let first_is : slice_index text k ≡ 45 = let e : k + 0 ≡ k = omega arith in ap (slice_index text) (sym e) ∙ o.reads 0 (omega arith) in
    let first : drop k text ≡ 45 ∷ drop (k + 1) text = drop-cons text k 0 (omega arith) ∙ rw (first_is, add-one) refl in
    let second : drop (k + 1) text ≡ 114 ∷ drop (suc (k + 1)) text = drop-cons text (k + 1) 0 (omega arith) ∙ rw (o.reads 1 (omega arith)) refl in
    let two : suc (k + 1) ≡ k + 2 = omega arith in
    let behind : drop (suc (k + 1)) text ≡ drop 2 (drop k text) = ap (λ (n : ℕ). drop n text) two ∙ sym (drop-drop 2 k text) in
    record {
      spelled = sym (take-append-drop k text) ∙ ap (λ (l : List ℕ). take k text ++ l) (first ∙ ap (λ (l : List ℕ). 45 ∷ l) (second ∙ ap (λ (l : List ℕ). 114 ∷ l) behind));
      last = λ j later.
          let there = OccursAt-drop text (k + 2) j (rw (drop-drop 2 k text) at later) in
          after (k + 2 + j) (omega arith) (omega (arith, OccursAt-fits text (k + 2 + j) there)) there;
    }

-- ---- there is one such split

mark_reads : (behind : List ℕ) (j : ℕ) → j < 2 → slice_index (mark ++ behind) (0 + j) ≡ slice_index mark j
mark_reads behind zero lt = refl
mark_reads behind (suc zero) lt = refl
mark_reads behind (suc (suc j)) lt = absurd (omega arith)

OccursAt-append : (before behind : List ℕ) → OccursAt (before ++ (mark ++ behind)) mark (length before)
OccursAt-append [] behind = record { fits = omega arith; reads = mark_reads behind }
OccursAt-append (x ∷ before) behind =
    let o = OccursAt-append before behind in
    record { fits = omega (arith, o.fits); reads = λ j lt. let e : suc (length before) + j ≡ suc (length before + j) = omega arith in ap (slice_index (x ∷ (before ++ (mark ++ behind)))) e ∙ o.reads j lt }

HasNoDash-cons : (x : ℕ) (xs : List ℕ) → HasNoDash (x ∷ xs) → (x ≢ 45) × HasNoDash xs
HasNoDash-cons x xs h = (h 0 (omega arith), λ k lt. h (suc k) (omega arith))

dash_once : (a b c d : List ℕ) → HasNoDash a → HasNoDash c → a ++ 45 ∷ b ≡ c ++ 45 ∷ d → (a ≡ c) × (b ≡ d)
dash_once [] b [] d h k e = (refl, cc)
dash_once [] b (y ∷ c) d h k e = absurd ((HasNoDash-cons y c k).0 (let f : y ≡ 45 = cc in f))
dash_once (x ∷ a) b [] d h k e = absurd ((HasNoDash-cons x a h).0 (let f : x ≡ 45 = cc in f))
dash_once (x ∷ a) b (y ∷ c) d h k e =
    let first : x ≡ y = cc in
    let rest : a ++ 45 ∷ b ≡ c ++ 45 ∷ d = cc in
    let more = dash_once a b c d (HasNoDash-cons x a h).1 (HasNoDash-cons y c k).1 rest in
    (rw (first, more.0) refl, more.1)

mark_once : (a b c d : List ℕ) → HasNoMark b → HasNoMark d → a ++ (mark ++ b) ≡ c ++ (mark ++ d) → (a ≡ c) × (b ≡ d)
mark_once [] b [] d h k e = (refl, cc)
mark_once [] b (y ∷ []) d h k e = absurd (let f : ◌≡◌ {A = ℕ} 114 45 = cc in omega arith)
mark_once [] b (y ∷ z ∷ c) d h k e = absurd (h (length c) (let f : b ≡ c ++ (mark ++ d) = cc in rw f (OccursAt-append c d)))
mark_once (x ∷ []) b [] d h k e = absurd (let f : ◌≡◌ {A = ℕ} 45 114 = cc in omega arith)
mark_once (x ∷ z ∷ a) b [] d h k e = absurd (k (length a) (let f : d ≡ a ++ (mark ++ b) = cc in rw f (OccursAt-append a b)))
mark_once (x ∷ a) b (y ∷ c) d h k e =
    let first : x ≡ y = cc in
    let rest : a ++ (mark ++ b) ≡ c ++ (mark ++ d) = cc in
    let more = mark_once a b c d h k rest in
    (rw (first, more.0) refl, more.1)

-- a text with a dash, or a mark, has one
dash_there : (text a b : List ℕ) → text ≡ a ++ 45 ∷ b → ¬ HasNoDash text
dash_there text [] b e h = h 0 (rw e (omega arith)) (rw e refl)
dash_there text (x ∷ a) b e h = dash_there (a ++ 45 ∷ b) a b refl (HasNoDash-cons x (a ++ 45 ∷ b) (rw e at h)).1

mark_there : (text a b : List ℕ) → text ≡ a ++ (mark ++ b) → ¬ HasNoMark text
mark_there text a b e h = h (length a) (rw e (OccursAt-append a b))

-- ---- both together

regroup : (a m r : List ℕ) → a ++ 45 ∷ [] ++ m ++ mark ++ r ≡ a ++ 45 ∷ (m ++ (mark ++ r))
regroup a m r = append_assoc (a ++ 45 ∷ [] ++ m) mark r ∙ append_assoc (a ++ 45 ∷ []) m (mark ++ r) ∙ append_assoc a (45 ∷ []) (m ++ (mark ++ r))

pub around_dash : (text : List ℕ) (p : Parts) → IsSplit text p → text ≡ p.arch ++ 45 ∷ (p.machine ++ (mark ++ p.revision))
around_dash text p split = split.spelled ∙ regroup p.arch p.machine p.revision

pub split-is : (text arch behind machine revision : List ℕ) (p : Parts) → IsAroundDash text arch behind → IsAroundMark behind machine revision → IsSplit text p → record { arch = arch; machine = machine; revision = revision } ≡ p
split-is text arch behind machine revision p dash last split =
    let one = dash_once arch behind p.arch (p.machine ++ (mark ++ p.revision)) dash.first split.first_dash (sym dash.spelled ∙ around_dash text p split) in
    let two = mark_once machine revision p.machine p.revision last.last split.last_mark (sym last.spelled ∙ one.1) in
    rw (one.0, two.0, two.1) refl

pub split-dash : (text : List ℕ) (p : Parts) → IsSplit text p → ¬ HasNoDash text
split-dash text p split = dash_there text p.arch (p.machine ++ (mark ++ p.revision)) (around_dash text p split)

pub split-mark : (text arch behind : List ℕ) (p : Parts) → IsAroundDash text arch behind → IsSplit text p → ¬ HasNoMark behind
split-mark text arch behind p dash split =
    let one = dash_once arch behind p.arch (p.machine ++ (mark ++ p.revision)) dash.first split.first_dash (sym dash.spelled ∙ around_dash text p split) in
    mark_there behind p.machine p.revision one.1

-- ---- the alphabet

platform_byte-ascii : (b : ℕ) → is_platform_byte b ≡ true → b < 128
platform_byte-ascii b e = grind (arith, nat_tests)

list_all-ascii : (text : List ℕ) → list_all is_platform_byte text ≡ true → EachIndex text (λ i. slice_index text i < 128)
list_all-ascii [] e i lt = absurd (omega arith)
list_all-ascii (x ∷ xs) e zero lt = platform_byte-ascii x (and_parts (is_platform_byte x) (list_all is_platform_byte xs) e).0
list_all-ascii (x ∷ xs) e (suc i) lt = list_all-ascii xs (and_parts (is_platform_byte x) (list_all is_platform_byte xs) e).1 i (omega arith)

-- what is kept in place: at most 200 bytes, each of them ASCII
pub record IsShortAscii (text : List ℕ) : Type 0 where
  pub short : length text ≤ 200
  pub ascii : EachIndex text (λ i. slice_index text i < 128)

pub record AreShortAscii (text : List ℕ) (p : Parts) : Type 0 where
  pub whole : IsShortAscii text
  pub arch : IsShortAscii p.arch
  pub machine : IsShortAscii p.machine
  pub revision : IsShortAscii p.revision

pub platform-short : (text : List ℕ) (p : Parts) → IsPlatform text p → AreShortAscii text p
platform-short text p is =
    let all = list_all is_platform_byte in
    let rest = p.machine ++ (mark ++ p.revision) in
    let spelled = around_dash text p is.split in
    let whole : all text ≡ true = list_all-from_AllPass is_platform_byte text is.alphabet in
    let one = and_parts (all p.arch) (all (45 ∷ rest)) (sym (list_all-append is_platform_byte p.arch (45 ∷ rest)) ∙ ap all (sym spelled) ∙ whole) in
    let two = and_parts (is_platform_byte 45) (all rest) one.1 in
    let three = and_parts (all p.machine) (all (mark ++ p.revision)) (sym (list_all-append is_platform_byte p.machine (mark ++ p.revision)) ∙ two.1) in
    let four = and_parts (is_platform_byte 45) (all (114 ∷ p.revision)) three.1 in
    let five = and_parts (is_platform_byte 114) (all p.revision) four.1 in
    let sizes : length p.arch + (1 + (length p.machine + (2 + length p.revision))) ≤ 200 = omega (arith, is.short, ap length spelled, length-append p.arch (45 ∷ rest), length-append p.machine (mark ++ p.revision)) in
    record {
      whole = record { short = is.short; ascii = list_all-ascii text whole };
      arch = record { short = omega arith; ascii = list_all-ascii p.arch one.0 };
      machine = record { short = omega arith; ascii = list_all-ascii p.machine three.0 };
      revision = record { short = omega arith; ascii = list_all-ascii p.revision five.1 };
    }
