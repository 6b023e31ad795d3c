-- The text that std prints for an IPv6 address is the one of RFC 5952.
use Rattle.std.proofs.Common.{◌≡◌, inl, inr, ℕ, zero, suc, ◌+◌, ◌*◌, ◌/◌, ◌%◌, ◌^◌, ◌<◌, ◌≤◌, false, List, [], ◌∷◌, ◌++◌, length, take, drop, map, codes, refl, sym, ap, subst, ◌∙◌, append_assoc, arith, le-leb, le-ltb, lt-ltb, eq-eqb, ne_eqb}
use Rattle.std.specs.Prelude.{slice_index, nat_lt, ◌==◌, if◌then◌else◌}
use Rattle.std.specs.Char.{digit_char}
use Rattle.std.specs.Int.Digits.{digits_of}
use Rattle.std.specs.Net.Addr.{octets_of}
use Rattle.std.specs.Net.Text.{groups_text, hex, hex_groups_text, longest_zero_run, zero_run}
use Rattle.std.proofs.lemmas.Bool.{cases_lt, cases_eq, lt-leb}
use Rattle.std.proofs.lemmas.Int.Digits.{digits_of_step}
use Rattle.std.proofs.NetLemmas.Texts.{AllSegments, AllSegments-drop, AllSegments-take}
use Rattle.bd_text.specs.Digits.{shortest}
use Rattle.bd_text.specs.V6.{IsZeroRun, PrintsGroups, PrintsV6, groups_text as printed_text, v6_groups}
use Rattle.flow_labels.specs.Hosts.{IsHost}

-- ---- one group

abbrev digit : ℕ → ℕ
digit d = slice_index (codes "0123456789abcdef") d

-- one group, as it is printed
abbrev group : ℕ → List ℕ
group n = printed_text (n ∷ [])

digit_is : (d : ℕ) → d < 16 → digit d ≡ digit_char d
digit_is zero lt = refl
digit_is (suc zero) lt = refl
digit_is (suc (suc zero)) lt = refl
digit_is (suc (suc (suc zero))) lt = refl
digit_is (suc (suc (suc (suc zero)))) lt = refl
digit_is (suc (suc (suc (suc (suc zero))))) lt = refl
digit_is (suc (suc (suc (suc (suc (suc zero)))))) lt = refl
digit_is (suc (suc (suc (suc (suc (suc (suc zero))))))) lt = refl
digit_is (suc (suc (suc (suc (suc (suc (suc (suc zero)))))))) lt = refl
digit_is (suc (suc (suc (suc (suc (suc (suc (suc (suc zero))))))))) lt = refl
digit_is (suc (suc (suc (suc (suc (suc (suc (suc (suc (suc zero)))))))))) lt = refl
digit_is (suc (suc (suc (suc (suc (suc (suc (suc (suc (suc (suc zero))))))))))) lt = refl
digit_is (suc (suc (suc (suc (suc (suc (suc (suc (suc (suc (suc (suc zero)))))))))))) lt = refl
digit_is (suc (suc (suc (suc (suc (suc (suc (suc (suc (suc (suc (suc (suc zero))))))))))))) lt = refl
digit_is (suc (suc (suc (suc (suc (suc (suc (suc (suc (suc (suc (suc (suc (suc zero)))))))))))))) lt = refl
digit_is (suc (suc (suc (suc (suc (suc (suc (suc (suc (suc (suc (suc (suc (suc (suc zero))))))))))))))) lt = refl
digit_is (suc (suc (suc (suc (suc (suc (suc (suc (suc (suc (suc (suc (suc (suc (suc (suc d)))))))))))))))) lt = absurd (omega (arith, lt))

-- the digits of small numbers
one_digit : (n : ℕ) → 0 < n → n < 16 → digits_of 16 n ≡ n ∷ []
one_digit n some small =
    let none : n / 16 ≡ 0 = omega (arith, small) in
    let last : n % 16 ≡ n = omega (arith, small) in
    digits_of_step 16 n (omega arith) some ∙ (ap (λ k. digits_of 16 k ++ n % 16 ∷ []) none ∙ ap (λ k. k ∷ []) last)

two_digits : (n : ℕ) → 16 ≤ n → n < 256 → digits_of 16 n ≡ (n / 16) ∷ (n % 16) ∷ []
two_digits n some small =
    digits_of_step 16 n (omega arith) (omega (arith, some)) ∙ ap (λ (ds : List ℕ). ds ++ n % 16 ∷ []) (one_digit (n / 16) (omega (arith, some)) (omega (arith, small)))

three_digits : (n : ℕ) → 256 ≤ n → n < 4096 → digits_of 16 n ≡ (n / 16 / 16) ∷ (n / 16 % 16) ∷ (n % 16) ∷ []
three_digits n some small =
    digits_of_step 16 n (omega arith) (omega (arith, some)) ∙ ap (λ (ds : List ℕ). ds ++ n % 16 ∷ []) (two_digits (n / 16) (omega (arith, some)) (omega (arith, small)))

four_digits : (n : ℕ) → 4096 ≤ n → n < 65536 → digits_of 16 n ≡ (n / 16 / 16 / 16) ∷ (n / 16 / 16 % 16) ∷ (n / 16 % 16) ∷ (n % 16) ∷ []
four_digits n some small =
    digits_of_step 16 n (omega arith) (omega (arith, some)) ∙ ap (λ (ds : List ℕ). ds ++ n % 16 ∷ []) (three_digits (n / 16) (omega (arith, some)) (omega (arith, small)))

-- a number that is not 0 is printed by its digits
shortest_some : (n : ℕ) → 0 < n → group n ≡ map digit (digits_of 16 n)
unfolding shortest
shortest_some n some = let no : (n == 0) ≡ false = ne_eqb n 0 (λ e. absurd (omega (arith, e, some))) in rw no refl

small : (n : ℕ) → n < 16 → group n ≡ digit_char (n % 16) ∷ []
unfolding shortest
small n lt = elim (cases_eq n 0) [
  | inl none ↦ rw none refl
  | inr some ↦ (let a : n ≡ n % 16 = omega (arith, lt) in
      let p : digit n ≡ digit_char (n % 16) = ap digit a ∙ digit_is (n % 16) (omega arith) in
      shortest_some n (omega (arith, some)) ∙ (ap (map digit) (one_digit n (omega (arith, some)) lt) ∙ ap (λ k. k ∷ []) p))
]

pub hex_is : (n : ℕ) → n < 2 ^ 16 → hex n ≡ group n
unfolding hex
hex_is n fits = elim (cases_lt n 0x1000) [
  | inr four ↦ (
      let a : n / 16 / 16 / 16 ≡ n / 0x1000 = omega arith in
      let b : n / 16 / 16 % 16 ≡ n / 0x100 % 16 = omega arith in
      let p : digit (n / 16 / 16 / 16) ≡ digit_char (n / 0x1000) = ap digit a ∙ digit_is (n / 0x1000) (omega (arith, fits)) in
      let q : digit (n / 16 / 16 % 16) ≡ digit_char (n / 0x100 % 16) = ap digit b ∙ digit_is (n / 0x100 % 16) (omega arith) in
      let r : digit (n / 16 % 16) ≡ digit_char (n / 0x10 % 16) = digit_is (n / 0x10 % 16) (omega arith) in
      let s : digit (n % 16) ≡ digit_char (n % 16) = digit_is (n % 16) (omega arith) in
      let ds = ap (map digit) (four_digits n four (omega (arith, fits))) in
      rw (le-leb _ n four) (sym (shortest_some n (omega (arith, four)) ∙ (ds ∙ (λ i. p i ∷ q i ∷ r i ∷ s i ∷ [])))))
  | inl three' ↦ elim (cases_lt n 0x100) [
    | inr three ↦ (
        let a : n / 16 / 16 ≡ n / 0x100 % 16 = omega (arith, three') in
        let p : digit (n / 16 / 16) ≡ digit_char (n / 0x100 % 16) = ap digit a ∙ digit_is (n / 0x100 % 16) (omega arith) in
        let r : digit (n / 16 % 16) ≡ digit_char (n / 0x10 % 16) = digit_is (n / 0x10 % 16) (omega arith) in
        let s : digit (n % 16) ≡ digit_char (n % 16) = digit_is (n % 16) (omega arith) in
        let ds = ap (map digit) (three_digits n three three') in
        rw (lt-leb _ n three', le-leb _ n three) (sym (shortest_some n (omega (arith, three)) ∙ (ds ∙ (λ i. p i ∷ r i ∷ s i ∷ [])))))
    | inl two' ↦ elim (cases_lt n 0x10) [
      | inr two ↦ (
          let a : n / 16 ≡ n / 0x10 % 16 = omega (arith, two') in
          let p : digit (n / 16) ≡ digit_char (n / 0x10 % 16) = ap digit a ∙ digit_is (n / 0x10 % 16) (omega arith) in
          let s : digit (n % 16) ≡ digit_char (n % 16) = digit_is (n % 16) (omega arith) in
          let ds = ap (map digit) (two_digits n two two') in
          rw (lt-leb _ n three', lt-leb _ n two', le-leb _ n two) (sym (shortest_some n (omega (arith, two)) ∙ (ds ∙ (λ i. p i ∷ s i ∷ [])))))
      | inl one ↦ rw (lt-leb _ n three', lt-leb _ n two', lt-leb _ n one) (sym (small n one))
    ]
  ]
]

-- ---- groups

groups_are : (xs : List ℕ) → AllSegments xs → groups_text xs ≡ printed_text xs
groups_are [] fits = refl
groups_are (x ∷ []) fits = ap (λ (t : List ℕ). t ++ []) (hex_is x (fits 0)) ∙ last (group x)
  where
    last : (t : List ℕ) → t ++ [] ≡ t
    last [] = refl
    last (b ∷ t) = ap (λ (r : List ℕ). b ∷ r) (last t)
groups_are (x ∷ y ∷ xs) fits =
    let later = groups_are (y ∷ xs) (λ k. fits (suc k)) in
    ap (λ (t : List ℕ). t ++ (58 ∷ groups_text (y ∷ xs))) (hex_is x (fits 0)) ∙ ap (λ (r : List ℕ). group x ++ 58 ∷ r) later

-- ---- runs of zeros

run_none : (xs : List ℕ) (s : ℕ) → s ≤ length xs → IsZeroRun xs s 0
run_none xs s le = record { inside = omega (arith, le); zeros = λ k from to. absurd (omega (arith, from, to)) }

-- a run behind the first group
run_behind : (x : ℕ) (xs : List ℕ) (s n : ℕ) → IsZeroRun (x ∷ xs) (suc s) n → IsZeroRun xs s n
run_behind x xs s n run = record {
  inside = (let within = run.inside in omega (arith, within));
  zeros = λ k from to. run.zeros (suc k) (omega (arith, from)) (omega (arith, to));
}

run_more : (x : ℕ) (xs : List ℕ) (s n : ℕ) → IsZeroRun xs s n → IsZeroRun (x ∷ xs) (s + 1) n
run_more x xs s n run = record {
  inside = (let within = run.inside in omega (arith, within));
  zeros = λ k from to. at k from to;
}
  where
    at : (k : ℕ) → s + 1 ≤ k → k < s + 1 + n → slice_index (x ∷ xs) k ≡ 0
    at zero from to = absurd (omega (arith, from))
    at (suc k) from to = run.zeros k (omega (arith, from)) (omega (arith, to))

-- the zeros that groups begin with are such a run, and the longest one there
zero_run_is : (xs : List ℕ) → IsZeroRun xs 0 (zero_run xs)
zero_run_is [] = run_none [] 0 (omega arith)
zero_run_is (x ∷ xs) = elim (cases_eq x 0) [
  | inl none ↦ rw (eq-eqb x 0 none) (one (zero_run xs) (zero_run_is xs) none)
  | inr some ↦ rw (ne_eqb x 0 some) (run_none (x ∷ xs) 0 (omega arith))
]
  where
    one : (n : ℕ) → IsZeroRun xs 0 n → x ≡ 0 → IsZeroRun (x ∷ xs) 0 (1 + n)
    one n run none = record { inside = (let within = run.inside in omega (arith, within)); zeros = λ k from to. at k to }
      where
        at : (k : ℕ) → k < 0 + (1 + n) → slice_index (x ∷ xs) k ≡ 0
        at zero to = none
        at (suc k) to = run.zeros k (omega arith) (omega (arith, to))

zero_run_most : (xs : List ℕ) (n : ℕ) → IsZeroRun xs 0 n → n ≤ zero_run xs
zero_run_most [] n run = (let within = run.inside in omega (arith, within))
zero_run_most (x ∷ xs) zero run = omega arith
zero_run_most (x ∷ xs) (suc n) run =
    let none : x ≡ 0 = run.zeros 0 (omega arith) (omega arith) in
    let later = zero_run_most xs n (record {
      inside = (let within = run.inside in omega (arith, within));
      zeros = λ k from to. run.zeros (suc k) (omega arith) (omega (arith, to));
    }) in
    rw (eq-eqb x 0 none) (omega (arith, later))

-- the longest run of zeros, and of runs as long the first
record IsLongest (xs : List ℕ) (start count : ℕ) : Type 0 where
  run : IsZeroRun xs start count
  longest : (s n : ℕ) → IsZeroRun xs s n → n ≤ count
  first : (s : ℕ) → IsZeroRun xs s count → start ≤ s

longest_is : (xs : List ℕ) → IsLongest xs (longest_zero_run xs).0 (longest_zero_run xs).1
longest_is [] = record {
  run = run_none [] 0 (omega arith);
  longest = λ s n run. (let within = run.inside in omega (arith, within));
  first = λ s run. omega arith;
}
longest_is (x ∷ xs) = elim (cases_lt (zero_run (x ∷ xs)) (longest_zero_run xs).1) [
  | inl behind ↦ rw (lt-leb _ _ behind) (later (longest_zero_run xs).0 (longest_zero_run xs).1 (zero_run (x ∷ xs)) (longest_is xs) (zero_run_most (x ∷ xs)) behind)
  | inr here ↦ rw (le-leb _ _ here) (now (longest_zero_run xs).0 (longest_zero_run xs).1 (zero_run (x ∷ xs)) (longest_is xs) (zero_run_is (x ∷ xs)) (zero_run_most (x ∷ xs)) here)
]
  where
    later : (start count z : ℕ) → IsLongest xs start count → ((n : ℕ) → IsZeroRun (x ∷ xs) 0 n → n ≤ z) → z < count → IsLongest (x ∷ xs) (start + 1) count
    later start count z is most lt = record {
      run = run_more x xs start count is.run;
      longest = λ s n run. long s n run;
      first = λ s run. first s run;
    }
      where
        long : (s n : ℕ) → IsZeroRun (x ∷ xs) s n → n ≤ count
        long zero n run = (let le = most n run in omega (arith, le, lt))
        long (suc s) n run = is.longest s n (run_behind x xs s n run)

        first : (s : ℕ) → IsZeroRun (x ∷ xs) s count → start + 1 ≤ s
        first zero run = (let le = most count run in absurd (omega (arith, le, lt)))
        first (suc s) run = (let le = is.first s (run_behind x xs s count run) in omega (arith, le))

    now : (start count z : ℕ) → IsLongest xs start count → IsZeroRun (x ∷ xs) 0 z → ((n : ℕ) → IsZeroRun (x ∷ xs) 0 n → n ≤ z) → count ≤ z → IsLongest (x ∷ xs) 0 z
    now start count z is run most le = record {
      run = run;
      longest = λ s n r. long s n r;
      first = λ s r. omega arith;
    }
      where
        long : (s n : ℕ) → IsZeroRun (x ∷ xs) s n → n ≤ z
        long zero n r = most n r
        long (suc s) n r = (let less = is.longest s n (run_behind x xs s n r) in omega (arith, less, le))

-- ---- the whole text

pub groups_printed : (xs : List ℕ) → AllSegments xs → PrintsGroups xs (hex_groups_text xs)
unfolding hex_groups_text
groups_printed xs fits = by_run (longest_zero_run xs).0 (longest_zero_run xs).1 (longest_is xs)
  where
    by_run : (start count : ℕ) → IsLongest xs start count
        → PrintsGroups xs (if nat_lt 1 count then groups_text (take start xs) ++ codes "::" ++ groups_text (drop (start + count) xs) else groups_text xs)
    by_run start count is = elim (cases_lt 1 count) [
      | inl two ↦ rw (lt-ltb 1 count two) (inr (
        start,
        count,
        record { two = omega (arith, two); run = is.run; longest = is.longest; first = is.first },
        append_assoc (groups_text (take start xs)) (codes "::") (groups_text (drop (start + count) xs))
            ∙ (λ i. groups_are (take start xs) (AllSegments-take start xs fits) i ++ 58 ∷ 58 ∷ groups_are (drop (start + count) xs) (AllSegments-drop (start + count) xs fits) i),
      ))
      | inr few ↦ rw (le-ltb 1 count few) (inl (λ s run. (let le = is.longest s 2 run in absurd (omega (arith, le, few))), groups_are xs fits))
    ]

-- the octets of segments, two each
groups_of_octets : (xs : List ℕ) → v6_groups (octets_of xs) ≡ xs
groups_of_octets [] = refl
groups_of_octets (x ∷ xs) =
    let here : (x / 256) * 256 + x % 256 ≡ x = omega arith in
    (λ i. here i ∷ groups_of_octets xs i)

pub v6_printed : (segments : List ℕ) → AllSegments segments → PrintsV6 (octets_of segments) (hex_groups_text segments)
v6_printed segments fits = subst (λ (gs : List ℕ). PrintsGroups gs (hex_groups_text segments)) (sym (groups_of_octets segments)) (groups_printed segments fits)

-- an address in brackets is a host as labels show it
pub v6_host : (segments : List ℕ) → AllSegments segments → IsHost (codes "[" ++ hex_groups_text segments ++ codes "]")
v6_host segments fits = inr (record {
  address = octets_of segments;
  zone = [];
  zoned = inl refl;
  shows = record { printed = hex_groups_text segments; prints = v6_printed segments fits; is = refl };
})
