-- What the network is given, flow by flow.
use Rattle.std.specs.Prelude.{◌==◌, option_map}
use Rattle.std.proofs.Common.{◌≡◌, ◌≢◌, ℕ, ◌+◌, ◌<◌, List, [], ◌∷◌, ◌++◌, length, take, get_or, map, Option, Some, None, refl, sym, ap, ◌∙◌, append_assoc, append-nil, arith}
use Rattle.std.proofs.lemmas.Bool.Decides.{nat_tests}
use Rattle.std.proofs.lemmas.Bool.{cases_eq}
use Rattle.std.proofs.lemmas.List.{map-append, map_push, take_more}
use Rattle.std.proofs.lemmas.List.Elements.{filter-append}
use Rattle.std.proofs.Common.{inl, inr}
use Rattle.bd_dev.specs.Net.{Outgoing}
use Rattle.flow.specs.declared.letters.Letter.{Letter}
use Rattle.flow.specs.declared.sends.Sent.{Sent}
use Rattle.flow.specs.Sends.{Adds, ArePosted, PostsAll, of_flow, on_flow, outgoing_of, sent_at}

pub posts_none : (net : Option (List Outgoing)) → PostsAll [] net net
posts_none None = refl
posts_none (Some sent) = ap (λ xs. Some xs) (sym (append-nil sent))

pub posts_then : (xs ys : List Sent) (old mid new : Option (List Outgoing)) → PostsAll xs old mid → PostsAll ys mid new → PostsAll (xs ++ ys) old new
posts_then xs ys None mid new a b = b ∙ ap (option_map (λ sent. sent ++ map outgoing_of ys)) a
posts_then xs ys (Some sent) mid new a b =
    b ∙ (ap (option_map (λ sent. sent ++ map outgoing_of ys)) a
    ∙ ap (λ xs. Some xs) (append_assoc sent (map outgoing_of xs) (map outgoing_of ys) ∙ ap (λ zs. sent ++ zs) (sym (map-append outgoing_of xs ys))))

-- one letter more of a flow
pub posts_more : (f : Letter → Sent) (letters : List Letter) (i : ℕ) (l : Letter) (old mid new : Option (List Outgoing)) → i < length letters → l ≡ get_or letters i l → PostsAll (map f (take i letters)) old mid → PostsAll (f l ∷ []) mid new → PostsAll (map f (take (i + 1) letters)) old new
posts_more f letters i l old mid new lt is a b =
    let both = posts_then (map f (take i letters)) (f l ∷ []) old mid new a b in
    let here = ap (map f) (take_more letters i l lt) ∙ map_push f (take i letters) (get_or letters i l) in
    let e : map f (take (i + 1) letters) ≡ map f (take i letters) ++ f l ∷ [] = here ∙ ap (λ x. map f (take i letters) ++ f x ∷ []) (sym is) in
    rw e both

one_on_flow : (o : Outgoing) (rest : List Outgoing) → on_flow o.flow (o ∷ rest) ≡ o ∷ on_flow o.flow rest
one_on_flow o rest = grind (arith, nat_tests)

other_on_flow : (n : ℕ) (o : Outgoing) (rest : List Outgoing) → n ≢ o.flow → on_flow n (o ∷ rest) ≡ on_flow n rest
other_on_flow n o rest ne = grind (arith, nat_tests)

-- all letters of one flow go out on it
letters_on_flow : (at round flow : ℕ) (label : List ℕ) (letters : List Letter) → on_flow flow (map outgoing_of (map (sent_at at round flow label) letters)) ≡ map outgoing_of (map (sent_at at round flow label) letters)
letters_on_flow at round flow label [] = refl
letters_on_flow at round flow label (l ∷ letters) =
    let o : Outgoing = outgoing_of (sent_at at round flow label l) in
    let rest = map outgoing_of (map (sent_at at round flow label) letters) in
    one_on_flow o rest ∙ ap (λ xs. o ∷ xs) (letters_on_flow at round flow label letters)

letters_on_other : (n at round flow : ℕ) (label : List ℕ) (letters : List Letter) → n ≢ flow → on_flow n (map outgoing_of (map (sent_at at round flow label) letters)) ≡ []
letters_on_other n at round flow label [] ne = refl
letters_on_other n at round flow label (l ∷ letters) ne =
    let o : Outgoing = outgoing_of (sent_at at round flow label l) in
    let rest = map outgoing_of (map (sent_at at round flow label) letters) in
    other_on_flow n o rest ne ∙ letters_on_other n at round flow label letters ne

-- nothing was given yet
pub posted_none : (net : Option (List Outgoing)) → ArePosted [] net net
posted_none net = record { out = []; given = posts_none net; each = λ n. refl }

given_then : (xs ys : List Outgoing) (old mid new : Option (List Outgoing)) → mid ≡ option_map (λ sent. sent ++ xs) old → new ≡ option_map (λ sent. sent ++ ys) mid → new ≡ option_map (λ sent. sent ++ (xs ++ ys)) old
given_then xs ys None mid new a b = b ∙ ap (option_map (λ sent. sent ++ ys)) a
given_then xs ys (Some sent) mid new a b = b ∙ (ap (option_map (λ sent. sent ++ ys)) a ∙ ap (λ xs. Some xs) (append_assoc sent xs ys))

-- one flow's letters more are given, and are among the sends
pub posted_more : (at round flow : ℕ) (label : List ℕ) (letters : List Letter) (before after : List Sent) (start net net' : Option (List Outgoing)) → ArePosted before start net → Adds flow (map (sent_at at round flow label) letters) before after → PostsAll (map (sent_at at round flow label) letters) net net' → ArePosted after start net'
posted_more at round flow label letters before after start net net' old adds posts =
    let more = map (sent_at at round flow label) letters in
    let given = map outgoing_of more in
    record {
      out = old.out ++ given;
      given = given_then old.out given start net net' old.given posts;
      each = λ n. filter-append (λ (o : Outgoing). o.flow == n) old.out given ∙ elim (cases_eq n flow) [
        | inl same ↦ rw same (ap (λ xs. on_flow flow old.out ++ xs) (letters_on_flow at round flow label letters)
            ∙ (ap (λ xs. xs ++ given) (old.each flow) ∙ (sym (map-append outgoing_of (of_flow flow before) more) ∙ ap (map outgoing_of) (sym adds.this))))
        | inr ne ↦ ap (λ xs. on_flow n old.out ++ xs) (letters_on_other n at round flow label letters ne)
            ∙ (append-nil (on_flow n old.out) ∙ (old.each n ∙ ap (map outgoing_of) (sym (adds.others n ne))))
      ];
    }
