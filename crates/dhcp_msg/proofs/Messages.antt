-- Bytes are read exactly where they are a message.
use Rattle.std.proofs.Common.{◌≡◌, ℕ, ◌≤◌, eqb, ltb, Bool, true, false, List, [], ◌∷◌, ◌++◌, length, Option, Some, None, Result, Ok, Err, refl, sym, ap, subst, ◌∙◌, inl, inr}
use Rattle.std.specs.Prelude.{IfOk}
use Rattle.std.specs.Cmp.Lexicographic.{pointwise}
use Rattle.std.proofs.lemmas.Bool.{cases_Bool, eqb-true, ltb-false, le-ltb, and_parts}
use Rattle.dhcp_msg.specs.declared.fault.DhcpFault.{DhcpFault}
use Rattle.dhcp_msg.specs.declared.fault.DhcpFault.TheVariants as faults
use Rattle.dhcp_msg.specs.declared.message.Message.{Message}
use Rattle.dhcp_msg.specs.declared.overload.Overload.{Overload}
use Rattle.dhcp_msg.specs.declared.dhcp_option.DhcpOption.{DhcpOption}
use Rattle.dhcp_msg.specs.Layout.{cookie, bytes_at, sname_field, file_field, options_field, message_with}
use Rattle.dhcp_msg.specs.Messages.{overload_value, HoldsAlso, IsMessage}
use Rattle.dhcp_msg.specs.Options.{value_of, joined}
use Rattle.dhcp_msg.specs.Reading.{front_of, options_in, overload_of, overloaded_in, reading, Fails, Gives}
use Rattle.dhcp_msg.proofs.Grammar.{bind_ok, ok-injective, Holds-from_read, read-from_Holds}

-- ---- the front

both : {x y : ℕ} {xs ys : List ℕ} → x ≡ y → xs ≡ ys → x ∷ xs ≡ y ∷ ys
both e h = cc

pointwise_same : (xs ys : List ℕ) → pointwise eqb xs ys ≡ true → xs ≡ ys
pointwise_same [] [] e = refl
pointwise_same [] (y ∷ ys) e = absurd cc
pointwise_same (x ∷ xs) [] e = absurd cc
pointwise_same (x ∷ xs) (y ∷ ys) e = let parts = and_parts (eqb x y) (pointwise eqb xs ys) e in both (eqb-true x y parts.0) (pointwise_same xs ys parts.1)

front_stands : (bytes : List ℕ) → front_of bytes ≡ Ok tt → (240 ≤ length bytes) × (bytes_at 236 4 bytes ≡ cookie)
unfolding front_of
front_stands bytes e =
    elim (cases_Bool (ltb (length bytes) 240)) [
      | inl y ↦ absurd (let k = rw y at e in cc)
      | inr n ↦
          elim (cases_Bool (pointwise eqb cookie (bytes_at 236 4 bytes))) [
            | inl y ↦ (ltb-false _ _ n, sym (pointwise_same cookie (bytes_at 236 4 bytes) y))
            | inr m ↦ absurd (let k = rw (n, m) at e in cc)
          ]
    ]

front_reads : (bytes : List ℕ) → 240 ≤ length bytes → bytes_at 236 4 bytes ≡ cookie → front_of bytes ≡ Ok tt
unfolding front_of
front_reads bytes long marked = let n : ltb (length bytes) 240 ≡ false = le-ltb _ _ long in rw (n, marked) refl

-- ---- the overload

overload_says : (v : Option (List ℕ)) (o : Overload) → overload_of v ≡ Ok o → v ≡ overload_value o.file o.sname
overload_says None o e = let same = ok-injective _ _ e in subst (λ (p : Overload). None ≡ overload_value p.file p.sname) same refl
overload_says (Some []) o e = absurd cc
overload_says (Some (b ∷ [])) o e =
    elim (cases_Bool (eqb b 1)) [
      | inl y ↦ let same = ok-injective _ _ (rw y at e) in subst (λ (p : Overload). Some (b ∷ []) ≡ overload_value p.file p.sname) same (ap (λ (n : ℕ). Some (n ∷ [])) (eqb-true _ _ y))
      | inr n ↦
          elim (cases_Bool (eqb b 2)) [
            | inl y ↦ let same = ok-injective _ _ (rw (n, y) at e) in subst (λ (p : Overload). Some (b ∷ []) ≡ overload_value p.file p.sname) same (ap (λ (n : ℕ). Some (n ∷ [])) (eqb-true _ _ y))
            | inr m ↦
                elim (cases_Bool (eqb b 3)) [
                  | inl y ↦ let same = ok-injective _ _ (rw (n, m, y) at e) in subst (λ (p : Overload). Some (b ∷ []) ≡ overload_value p.file p.sname) same (ap (λ (n : ℕ). Some (n ∷ [])) (eqb-true _ _ y))
                  | inr l ↦ absurd (let k = rw (n, m, l) at e in cc)
                ]
          ]
    ]
overload_says (Some (b ∷ c ∷ bs)) o e = absurd cc

overload_reads : (file sname : Bool) → overload_of (overload_value file sname) ≡ Ok (record { file = file; sname = sname })
overload_reads false false = refl
overload_reads true false = refl
overload_reads false true = refl
overload_reads true true = refl

-- ---- a field that may be overloaded

also_holds : (is_overloaded : Bool) (place : ℕ) (field : List ℕ) (os : List DhcpOption) → overloaded_in is_overloaded place field ≡ Ok os → HoldsAlso is_overloaded field os
unfolding overloaded_in
also_holds false place field os e = sym (ok-injective _ _ e)
also_holds true place field os e = let b = bind_ok (options_in place field) _ os e in (b.0, Holds-from_read place field b.0 b.1, sym (ok-injective _ _ b.2))

also_reads : (is_overloaded : Bool) (place : ℕ) (field : List ℕ) (os : List DhcpOption) → HoldsAlso is_overloaded field os → overloaded_in is_overloaded place field ≡ Ok os
unfolding overloaded_in
also_reads false place field os h = ap (λ (l : List DhcpOption). Ok l) (sym h)
also_reads true place field os h = rw (read-from_Holds place field h.0 h.1) (ap (λ (l : List DhcpOption). Ok l) (sym h.2))

-- ---- the whole

pub reading-whole : (bytes : List ℕ) (own in_file in_sname : List DhcpOption) (overload : Overload) → front_of bytes ≡ Ok tt → options_in 240 (options_field bytes) ≡ Ok own → overload_of (value_of 52 (joined own)) ≡ Ok overload
    → overloaded_in overload.file 108 (file_field bytes) ≡ Ok in_file → overloaded_in overload.sname 44 (sname_field bytes) ≡ Ok in_sname
    → reading bytes ≡ Ok (message_with bytes overload (joined (own ++ in_file ++ in_sname)))
unfolding reading
reading-whole bytes own in_file in_sname overload front first over second third = rw (front, first, over, second, third) refl

is_sound : (bytes : List ℕ) (message : Message) → reading bytes ≡ Ok message → IsMessage bytes message
unfolding reading
is_sound bytes message e =
    let a = bind_ok (front_of bytes) _ message e in
    let b = bind_ok (options_in 240 (options_field bytes)) _ message a.2 in
    let c = bind_ok (overload_of (value_of 52 (joined b.0))) _ message b.2 in
    let d = bind_ok (overloaded_in c.0.file 108 (file_field bytes)) _ message c.2 in
    let f = bind_ok (overloaded_in c.0.sname 44 (sname_field bytes)) _ message d.2 in
    let front = front_stands bytes a.1 in
    record {
      own = b.0;
      in_file = d.0;
      in_sname = f.0;
      overload = c.0;
      long = front.0;
      marked = front.1;
      options = Holds-from_read 240 (options_field bytes) b.0 b.1;
      overloads = overload_says (value_of 52 (joined b.0)) c.0 c.1;
      file = also_holds c.0.file 108 (file_field bytes) d.0 d.1;
      sname = also_holds c.0.sname 44 (sname_field bytes) f.0 f.1;
      whole = sym (ok-injective _ _ f.2);
    }

pub is_found : (bytes : List ℕ) (r : Result Message DhcpFault) → Gives r (reading bytes) → IfOk r (IsMessage bytes)
is_found bytes (Ok message) given = is_sound bytes message given
is_found bytes (Err fault) given = tt

pub is_complete : (bytes : List ℕ) (message : Message) → IsMessage bytes message → reading bytes ≡ Ok message
is_complete bytes message m =
    let over : overload_of (value_of 52 (joined m.own)) ≡ Ok m.overload = ap overload_of m.overloads ∙ overload_reads m.overload.file m.overload.sname in
    reading-whole bytes m.own m.in_file m.in_sname m.overload (front_reads bytes m.long m.marked) (read-from_Holds 240 (options_field bytes) m.own m.options) over
    (also_reads m.overload.file 108 (file_field bytes) m.in_file m.file) (also_reads m.overload.sname 44 (sname_field bytes) m.in_sname m.sname)
    ∙ ap (λ (x : Message). Ok x) (sym m.whole)

-- ---- a step that failed

-- a step failed as reading does, and reading fails as the step
pub Fails-then : {A B : Type 0} (fault : DhcpFault) (r : Result A DhcpFault) (s : Result B DhcpFault) → Fails fault r → ((f : DhcpFault) → r ≡ Err f → s ≡ Err f) → Fails fault s
Fails-then faults.Short r s h k = k faults.Short h
Fails-then faults.NoCookie r s h k = k faults.NoCookie h
Fails-then (faults.Cut at) r s h k = k (faults.Cut at) h
Fails-then (faults.Overload value) r s h k = k (faults.Overload value) h
Fails-then faults.Memory r s h k = tt

pub Fails-same : {A : Type 0} (fault : DhcpFault) (r : Result A DhcpFault) → r ≡ Err fault → Fails fault r
Fails-same faults.Short r e = e
Fails-same faults.NoCookie r e = e
Fails-same (faults.Cut at) r e = e
Fails-same (faults.Overload value) r e = e
Fails-same faults.Memory r e = tt

pub reading-front : (bytes : List ℕ) (f : DhcpFault) → front_of bytes ≡ Err f → reading bytes ≡ Err f
unfolding reading
reading-front bytes f e = rw e refl

pub reading-own : (bytes : List ℕ) → front_of bytes ≡ Ok tt → (f : DhcpFault) → options_in 240 (options_field bytes) ≡ Err f → reading bytes ≡ Err f
unfolding reading
reading-own bytes front f e = rw (front, e) refl

pub reading-overload : (bytes : List ℕ) (own : List DhcpOption) → front_of bytes ≡ Ok tt → options_in 240 (options_field bytes) ≡ Ok own → (f : DhcpFault) → overload_of (value_of 52 (joined own)) ≡ Err f → reading bytes ≡ Err f
unfolding reading
reading-overload bytes own front first f e = rw (front, first, e) refl

pub reading-file : (bytes : List ℕ) (own : List DhcpOption) (overload : Overload) → front_of bytes ≡ Ok tt → options_in 240 (options_field bytes) ≡ Ok own → overload_of (value_of 52 (joined own)) ≡ Ok overload
    → (f : DhcpFault) → overloaded_in overload.file 108 (file_field bytes) ≡ Err f → reading bytes ≡ Err f
unfolding reading
reading-file bytes own overload front first over f e = rw (front, first, over, e) refl

pub reading-sname : (bytes : List ℕ) (own in_file : List DhcpOption) (overload : Overload) → front_of bytes ≡ Ok tt → options_in 240 (options_field bytes) ≡ Ok own → overload_of (value_of 52 (joined own)) ≡ Ok overload
    → overloaded_in overload.file 108 (file_field bytes) ≡ Ok in_file → (f : DhcpFault) → overloaded_in overload.sname 44 (sname_field bytes) ≡ Err f → reading bytes ≡ Err f
unfolding reading
reading-sname bytes own in_file overload front first over second f e = rw (front, first, over, second, e) refl
