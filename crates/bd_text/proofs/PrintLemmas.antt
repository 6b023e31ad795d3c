-- What is printed of groups is spelled.
use Rattle.std.proofs.Common.{◌≡◌, ℕ, zero, suc, ◌+◌, ◌<◌, Bool, true, false, cond, List, [], ◌∷◌, ◌++◌, get_or, take, drop, map, inl, inr, refl, sym, ◌∙◌, arith, append_assoc, length-take, get_or-drop, get_or-take}
use Rattle.std.proofs.lemmas.Bool.{cases_lt}
use Rattle.std.proofs.lemmas.List.{get_or_default, get_or_past}
use Rattle.bd_text.specs.declared.digits.Case.TheVariants.{Lower}
use Rattle.bd_text.specs.Digits.{shortest}
use Rattle.bd_text.specs.Group.{SpellsGroup}
use Rattle.bd_text.specs.V6.{PrintsGroups, SpellsGroups, SpellsInFull, groups_text, v6_groups}
use Rattle.bd_text.proofs.ByteLemmas.{AreSmall}
use Rattle.bd_text.proofs.GroupLemmas.{zeros-between}
use Rattle.bd_text.proofs.RunLemmas.{shorter}
use Rattle.bd_text.proofs.ShortestLemmas.{Writes-shortest, length-shortest-le, shortest-some}
use Rattle.bd_text.proofs.Zips.{zip-map}

-- a text that is printed behind another
pub marked-behind : (first : Bool) (before text part : List ℕ) → cond first (before ++ text) ((before ++ text) ++ 58 ∷ []) ++ part ≡ before ++ (cond first text (text ++ 58 ∷ []) ++ part)
marked-behind true before text part = append_assoc before text part
marked-behind false before text part = simp append_assoc

abbrev pub AreGroups : List ℕ → Type 0
AreGroups groups = (i : ℕ) → get_or groups i 0 < 65536

AreGroups-take : (n : ℕ) (groups : List ℕ) → AreGroups groups → AreGroups (take n groups)
AreGroups-take n groups fit i =
    elim (cases_lt i n) [
      | inl below ↦ rw (get_or-take n groups i 0 below) (fit i)
      | inr past ↦ rw (get_or_past (take n groups) i 0 (omega (arith, length-take n groups))) (omega arith)
    ]

SpellsGroup-shortest : (group : ℕ) → group < 65536 → SpellsGroup group (shortest Lower 16 group)
SpellsGroup-shortest group fit = record {
  some = shortest-some Lower 16 (omega arith) group (omega arith);
  few = length-shortest-le Lower 16 (omega arith) 4 group (omega arith) (omega arith) fit;
  hex = Writes-shortest Lower 16 (omega arith) group (omega arith);
}

pub spelled-in-full : (groups : List ℕ) → AreGroups groups → SpellsInFull groups (groups_text groups)
spelled-in-full groups fit = record {
  parts = map (shortest Lower 16) groups;
  each = zip-map SpellsGroup (shortest Lower 16) groups (λ i d inside. SpellsGroup-shortest (get_or groups i d) (rw (get_or_default groups i d 0 inside) (fit i)));
  joined = refl;
}

pub spelled-printed : (groups text : List ℕ) → AreGroups groups → PrintsGroups groups text → SpellsGroups groups text
spelled-printed groups text fit (inl full) = inl (rw full.1 (spelled-in-full groups fit))
spelled-printed groups text fit (inr short) =
    let start = short.0 in
    let count = short.1 in
    let is = short.2 in
    let two = is.two in
    inr (record {
      before = take start groups;
      after = drop (start + count) groups;
      zeros = count;
      some = omega arith;
      groups_are = zeros-between groups start count is.run;
      sides = record {
        head = groups_text (take start groups);
        tail = groups_text (drop (start + count) groups);
        head_is = spelled-in-full (take start groups) (AreGroups-take start groups fit);
        tail_is = spelled-in-full (drop (start + count) groups) (λ i. rw get_or-drop (fit (start + count + i)));
        text_is = short.3;
      };
    })

-- the groups of bytes
pub AreGroups-bytes : (bytes : List ℕ) → AreSmall bytes → AreGroups (v6_groups bytes)
AreGroups-bytes [] small i = omega arith
AreGroups-bytes (a ∷ []) small i = omega arith
AreGroups-bytes (a ∷ b ∷ bytes) small zero = let high = small 0 in let low = small 1 in omega arith
AreGroups-bytes (a ∷ b ∷ bytes) small (suc i) = AreGroups-bytes bytes (λ k. small (suc (suc k))) i

-- groups are printed as one text
pub PrintsGroups-same : (groups a b : List ℕ) → PrintsGroups groups a → PrintsGroups groups b → a ≡ b
PrintsGroups-same groups a b (inl left) (inl right) = left.1 ∙ sym right.1
PrintsGroups-same groups a b (inl left) (inr right) = absurd (left.0 right.0 (shorter groups right.0 2 right.1 right.2.two right.2.run))
PrintsGroups-same groups a b (inr left) (inl right) = absurd (right.0 left.0 (shorter groups left.0 2 left.1 left.2.two left.2.run))
PrintsGroups-same groups a b (inr left) (inr right) =
    let less = right.2.longest left.0 left.1 left.2.run in
    let more = left.2.longest right.0 right.1 right.2.run in
    let count : left.1 ≡ right.1 = omega arith in
    let later = left.2.first right.0 (rw count right.2.run) in
    let sooner = right.2.first left.0 (rw (← count) left.2.run) in
    let start : left.0 ≡ right.0 = omega arith in
    left.3 ∙ rw (start, count) (sym right.3)
