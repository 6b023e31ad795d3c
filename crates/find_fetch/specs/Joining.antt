-- Fetches join.
use Rattle.std.specs.Prelude.{◌≡◌, ℕ, ◌+◌, List, [], ◌∷◌, ◌++◌, length, take, Option, Some, None, option_map, refl}
use Rattle.std.proofs.Common.{◌∙◌, sym, ap, subst, arith, append_assoc, length-append}
use Rattle.std.proofs.lemmas.List.{append-nil}
use Rattle.std.proofs.Math.Seq.{take-append-add}
use Rattle.bd_dev.specs.Rows.{Row}
use Rattle.bd_dev.specs.Sink.{Appends, AppendsFront}
use Rattle.find_fetch.specs.Aim.{aim_of}
use Rattle.find_fetch.specs.Fetching.{Asked, BreaksOff, Clock, Fetches, HasLeft, HasPassed, Seen, Talk, after_fetch, after_fetches, after_flow, clock_of, flow_by, phase_text}

-- a clock with more text in front of its trace
abbrev behind : List ℕ → Clock → Clock
behind text t = record { time = t.time; opened = t.opened; trace = text ++ t.trace }

-- what a fetch makes of a clock does not depend on the trace so far
flow_behind : (rows : List Row) (round : ℕ) (text : List ℕ) (t : Clock) (flow : Option Talk)
    → after_flow rows round (behind text t) flow ≡ behind text (after_flow rows round t flow)
flow_behind rows round text t None = refl
flow_behind rows round text t (Some talk) =
    ap (λ (trace : List ℕ). let c : Clock = record { time = (after_flow rows round t (Some talk)).time; opened = t.opened + 1; trace = trace } in c)
    (append_assoc text t.trace (phase_text rows round talk t.time t.opened))

fetches_behind : (rows : List Row) (text : List ℕ) (t : Clock) (asked : List Asked)
    → after_fetches rows (behind text t) asked ≡ behind text (after_fetches rows t asked)
fetches_behind rows text t [] = refl
fetches_behind rows text t (x ∷ xs) =
    ap (λ (c : Clock). after_fetches rows c xs) (flow_behind rows x.round text t (flow_by (aim_of x.candidate)))
    ∙ fetches_behind rows text (after_fetch rows t x) xs

-- fetches, and more after them
after_both : (rows : List Row) (t : Clock) (xs ys : List Asked)
    → after_fetches rows t (xs ++ ys) ≡ after_fetches rows (after_fetches rows t xs) ys
after_both rows t [] ys = refl
after_both rows t (x ∷ xs) ys = after_both rows (after_fetch rows t x) xs ys

-- the clock of devices that have come so far, behind the text so far
clock_after : (c : Clock) (t : Seen) → t.time ≡ c.time → t.opened ≡ c.opened → c ≡ behind c.trace (clock_of t)
clock_after c t time opened =
    let step : behind c.trace (record { time = c.time; opened = c.opened; trace = [] }) ≡ c =
    ap (λ (trace : List ℕ). let d : Clock = record { time = c.time; opened = c.opened; trace = trace } in d) (append-nil c.trace) in
    cc

-- fetches after others, by the devices between them
after_more : (rows : List Row) (s t : Seen) (xs ys : List Asked) → HasPassed rows s xs t
    → after_fetches rows (clock_of s) (xs ++ ys)
    ≡ behind (after_fetches rows (clock_of s) xs).trace (after_fetches rows (clock_of t) ys)
after_more rows s t xs ys passed =
    after_both rows (clock_of s) xs ys
    ∙ ap (λ (c : Clock). after_fetches rows c ys) (clock_after (after_fetches rows (clock_of s) xs) t passed.time passed.opened)
    ∙ fetches_behind rows (after_fetches rows (clock_of s) xs).trace (clock_of t) ys

-- text after text
append_twice : (old : Option (List ℕ)) (a b : List ℕ)
    → option_map (λ taken. taken ++ b) (option_map (λ taken. taken ++ a) old) ≡ option_map (λ taken. taken ++ (a ++ b)) old
append_twice None a b = refl
append_twice (Some text) a b = ap Some (append_assoc text a b)

append_none : (old : Option (List ℕ)) → old ≡ option_map (λ taken. taken ++ []) old
append_none None = refl
append_none (Some text) = ap Some (sym (append-nil text))

appends_join : (old mid new : Option (List ℕ)) (a b : List ℕ) → Appends old mid a → Appends mid new b → Appends old new (a ++ b)
appends_join old mid new a b first then =
    then ∙ ap (option_map (λ (taken : List ℕ). taken ++ b)) first ∙ append_twice old a b

front_join : (old mid new : Option (List ℕ)) (a b : List ℕ) → Appends old mid a → AppendsFront mid new b → AppendsFront old new (a ++ b)
front_join old mid new a b first front = record {
  count = length a + front.count;
  within = (let within = front.within in rw (length-append a b) (omega (arith, within)));
  front = rw (take-append-add a b front.count) (appends_join old mid new a (take front.count b) first front.front);
}

-- none
pub fetches_none : (s : Seen) → Fetches s [] s
fetches_none s = record {
  rows = refl;
  files = refl;
  passed = λ rows told. record { time = refl; opened = refl; trace = append_none s.trace };
}

-- some, and then more
pub fetches_join : (s t u : Seen) (xs ys : List Asked) → Fetches s xs t → Fetches t ys u → Fetches s (xs ++ ys) u
fetches_join s t u xs ys a b = record {
  rows = b.rows ∙ a.rows;
  files = b.files ∙ a.files;
  passed = λ rows told.
      let first : HasPassed rows s xs t = a.passed rows told in
      let then : HasPassed rows t ys u = b.passed rows (a.rows ∙ told) in
      let same = after_more rows s t xs ys first in
      record {
        time = then.time ∙ sym (ap (λ (c : Clock). c.time) same);
        opened = then.opened ∙ sym (ap (λ (c : Clock). c.opened) same);
        trace = subst (λ (c : Clock). Appends s.trace u.trace c.trace) (sym same)
            (appends_join s.trace t.trace u.trace _ _ first.trace then.trace);
      };
}

-- some, and then more that break off
pub fetches_break : (s t u : Seen) (xs ys : List Asked) → Fetches s xs t → BreaksOff t ys u → BreaksOff s (xs ++ ys) u
fetches_break s t u xs ys a b = record {
  rows = b.rows ∙ a.rows;
  files = b.files ∙ a.files;
  front = λ rows told.
      let first : HasPassed rows s xs t = a.passed rows told in
      subst (λ (c : Clock). AppendsFront s.trace u.trace c.trace) (sym (after_more rows s t xs ys first))
      (front_join s.trace t.trace u.trace _ _ first.trace (b.front rows (a.rows ∙ told)));
}

-- fewer are left where more are
pub fewer_left : (s : Seen) (n : ℕ) → HasLeft s (n + 1) → HasLeft s n
fewer_left s n h = record {
  closed = h.closed;
  flows = (let flows = h.flows in omega (arith, flows));
  time = (let time = h.time in omega (arith, time));
}
