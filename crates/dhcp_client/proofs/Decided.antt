-- The lease by the places of the arrivals that decide.
use Rattle.std.proofs.Common.{◌≡◌, ◌+◌, ℕ, suc, Bool, true, false, not, ◌==◌, refl, arith, sym, subst, ap, ◌∙◌, List, [], ◌∷◌, Option, Some, None}
use Rattle.std.specs.Prelude.{◌&&◌, if◌then◌else◌}
use Rattle.std.specs.List.{AllByRecursion}
use Rattle.bd_dev.specs.Rows.{TimedArrival}
use Rattle.bd_text.specs.declared.v4.V4.{V4}
use Rattle.dhcp_msg.specs.declared.message.Message.{Message}
use Rattle.dhcp_lease.specs.Lease.{Terms, lease_of}
use Rattle.dhcp_lease.specs.Values.{server_of, type_of}
use Rattle.flow.specs.declared.letters.Letter.{Letter}
use Rattle.waits.specs.Waits.{Begins, Ends, Stays}
use Rattle.waits.specs.Places.{IsFirst as IsFirstBy, IsPassed as IsPassedBy, Passes as PassesBy}
use Rattle.waits.specs.Places.{Gives, next, last, late, flooded as too_many}
use Rattle.dhcp_client.specs.declared.offer.Offer.{Offer}
use Rattle.dhcp_client.specs.declared.meaning.Meaning.{Meaning}
use Rattle.dhcp_client.specs.declared.meaning.Meaning.TheVariants.{Offered, Granted, Refused, Nothing}
use Rattle.dhcp_client.specs.Leasing.{Known, asked_letter, dhcp, hears_any, hears_as, message_in, with_offer}
use Rattle.dhcp_client.specs.Meanings.{are_same, is_address, is_for, meaning_by, meaning_of, meaning_of_answer, meaning_of_offer}
use Rattle.dhcp_client.specs.Places.{Answers, IsFirst, IsPassed, Leases, Passes, drowned, flooded, granted, means, means_of, offered, refused, unanswered, unoffered}

-- ---- which meanings there are in a wait

-- before an offer no answer means anything
no_answer_by : (m : Message) (kind : Option ℕ) (server : Option V4) (s : V4) → meaning_by None m kind server ≡ Granted s → ⊥
no_answer_by m None server s e = cc e
no_answer_by m (Some kind) None s e = cc e
no_answer_by m (Some kind) (Some server) s e = by ((kind == 2) && is_address m.yiaddr) refl
  where
    by : (b : Bool) → ((kind == 2) && is_address m.yiaddr) ≡ b → ⊥
    by true f = let h = rw f at e in cc h
    by false f = let h = rw f at e in cc h

no_refusal_by : (m : Message) (kind : Option ℕ) (server : Option V4) → meaning_by None m kind server ≡ Refused → ⊥
no_refusal_by m None server e = cc e
no_refusal_by m (Some kind) None e = cc e
no_refusal_by m (Some kind) (Some server) e = by ((kind == 2) && is_address m.yiaddr) refl
  where
    by : (b : Bool) → ((kind == 2) && is_address m.yiaddr) ≡ b → ⊥
    by true f = let h = rw f at e in cc h
    by false f = let h = rw f at e in cc h

-- behind an offer no other one means anything
no_offer_by : (offer : Offer) (m : Message) (kind : Option ℕ) (server : Option V4) (o : Offer) → meaning_by (Some offer) m kind server ≡ Offered o → ⊥
no_offer_by offer m None server o e = cc e
no_offer_by offer m (Some kind) None o e = cc e
no_offer_by offer m (Some kind) (Some server) o e = by (are_same server offer.server) refl (kind == 5) refl (kind == 6) refl
  where
    by : (same : Bool) → are_same server offer.server ≡ same → (five : Bool) → (kind == 5) ≡ five → (six : Bool) → (kind == 6) ≡ six → ⊥
    by false f five g six h = let no = rw f at e in cc no
    by true f true g six h = let no = rw (f, g) at e in cc no
    by true f false g true h = let no = rw (f, g, h) at e in cc no
    by true f false g false h = let no = rw (f, g, h) at e in cc no

no_answer : (k : Known) (found : Option Message) (s : V4) → k.offer ≡ None → means_of k found ≡ Granted s → ⊥
no_answer k None s none e = cc e
no_answer k (Some m) s none e = by (is_for k.mac k.xid m) refl
  where
    by : (b : Bool) → is_for k.mac k.xid m ≡ b → ⊥
    by true f = no_answer_by m (type_of m) (server_of m) s (ap (λ (o : Option Offer). meaning_by o m (type_of m) (server_of m)) (sym none) ∙ rw f at e)
    by false f = let h = rw f at e in cc h

no_refusal : (k : Known) (found : Option Message) → k.offer ≡ None → means_of k found ≡ Refused → ⊥
no_refusal k None none e = cc e
no_refusal k (Some m) none e = by (is_for k.mac k.xid m) refl
  where
    by : (b : Bool) → is_for k.mac k.xid m ≡ b → ⊥
    by true f = no_refusal_by m (type_of m) (server_of m) (ap (λ (o : Option Offer). meaning_by o m (type_of m) (server_of m)) (sym none) ∙ rw f at e)
    by false f = let h = rw f at e in cc h

no_offer : (k : Known) (offer : Offer) (found : Option Message) (o : Offer) → k.offer ≡ Some offer → means_of k found ≡ Offered o → ⊥
no_offer k offer None o some e = cc e
no_offer k offer (Some m) o some e = by (is_for k.mac k.xid m) refl
  where
    by : (b : Bool) → is_for k.mac k.xid m ≡ b → ⊥
    by true f = no_offer_by offer m (type_of m) (server_of m) o (ap (λ (p : Option Offer). meaning_by p m (type_of m) (server_of m)) (sym some) ∙ rw f at e)
    by false f = let h = rw f at e in cc h

-- ---- what does not decide

stays_means : (k w : Known) (letters : List Letter) (m : Message) (meaning : Meaning) → hears_as k m meaning ≡ Stays w letters → meaning ≡ Nothing
stays_means k w letters m (Offered offer) e = absurd (cc e)
stays_means k w letters m (Granted server) e = absurd (cc e)
stays_means k w letters m Refused e = absurd (cc e)
stays_means k w letters m Nothing e = refl

stays_nothing : (k w : Known) (letters : List Letter) (found : Option Message) → hears_any k found ≡ Stays w letters → means_of k found ≡ Nothing
stays_nothing k w letters None e = refl
stays_nothing k w letters (Some m) e = stays_means k w letters m (meaning_of k.mac k.xid k.offer m) e

all_passed : (k : Known) (since : ℕ) (xs : List TimedArrival) → AllByRecursion (IsPassedBy dhcp k (since + 60000)) xs → AllByRecursion (IsPassed k since) xs
all_passed k since [] all = tt
all_passed k since (x ∷ xs) all =
    (record { early = all.0.early; nothing = stays_nothing k k all.0.letters (message_in x.arrival) all.0.stays }, all_passed k since xs all.1)

passes : (n : ℕ) (k : Known) (since : ℕ) (xs : List TimedArrival) (left : ℕ) (rest : List TimedArrival) → PassesBy dhcp n k since xs left rest → Passes n k since xs left rest
passes n k since xs left rest p = record { ahead = p.ahead; cut = p.cut; counted = p.counted; passed = all_passed k since p.ahead p.passed }

first_is : (n : ℕ) (k : Known) (since : ℕ) (xs : List TimedArrival) (left : ℕ) (x : TimedArrival) (rest : List TimedArrival) → IsFirstBy dhcp n k since xs left x rest → IsFirst n k since xs left x rest
first_is n k since xs left x rest first = record { passes = passes n k since xs (suc left) (x ∷ rest) first.passes; early = first.in_time }

-- ---- what decides

-- an offer is what begins a wait
begins_means : (k v : Known) (letters : List Letter) (m : Message) (meaning : Meaning) → hears_as k m meaning ≡ Begins v letters → (o : Offer) × (meaning ≡ Offered o) × (with_offer k o ≡ v)
begins_means k v letters m (Offered offer) e = (offer, refl, cc e)
begins_means k v letters m (Granted server) e = absurd (cc e)
begins_means k v letters m Refused e = absurd (cc e)
begins_means k v letters m Nothing e = absurd (cc e)

begins_offer : (k v : Known) (letters : List Letter) (found : Option Message) → hears_any k found ≡ Begins v letters → (o : Offer) × (means_of k found ≡ Offered o) × (with_offer k o ≡ v)
begins_offer k v letters None e = absurd (cc e)
begins_offer k v letters (Some m) e = begins_means k v letters m (meaning_of k.mac k.xid k.offer m) e

-- an answer is what ends the client
ends_by : (n : ℕ) (k : Known) (since : ℕ) (xs : List TimedArrival) (left : ℕ) (x : TimedArrival) (rest : List TimedArrival) (v : Known) (found : Option Terms) (letters : List Letter) (m : Message) (meaning : Meaning)
    → IsFirst n k since xs left x rest → message_in x.arrival ≡ Some m → means k x.arrival ≡ meaning → hears_as k m meaning ≡ Ends v found letters → Answers n k since xs found
ends_by n k since xs left x rest v found letters m (Offered offer) first is e ends = absurd (cc ends)
ends_by n k since xs left x rest v found letters m (Granted server) first is e ends =
    let same : Some (lease_of m server) ≡ found = cc ends in
    subst (λ (f : Option Terms). Answers n k since xs f) same (granted left x rest m server first is e)
ends_by n k since xs left x rest v found letters m Refused first is e ends =
    let same : None ≡ found = cc ends in
    subst (λ (f : Option Terms). Answers n k since xs f) same (refused left x rest first e)
ends_by n k since xs left x rest v found letters m Nothing first is e ends = absurd (cc ends)

ends_any : (n : ℕ) (k : Known) (since : ℕ) (xs : List TimedArrival) (left : ℕ) (x : TimedArrival) (rest : List TimedArrival) (v : Known) (found : Option Terms) (letters : List Letter) (message : Option Message)
    → IsFirst n k since xs left x rest → message_in x.arrival ≡ message → hears_any k message ≡ Ends v found letters → Answers n k since xs found
ends_any n k since xs left x rest v found letters None first is ends = absurd (cc ends)
ends_any n k since xs left x rest v found letters (Some m) first is ends =
    ends_by n k since xs left x rest v found letters m (meaning_of k.mac k.xid k.offer m) first is (ap (means_of k) is) ends

-- behind an offer
answers_is : {n since : ℕ} {k : Known} {xs : List TimedArrival} {found : Option Terms} (offer : Offer) → k.offer ≡ Some offer → Gives dhcp n k since xs found → Answers n k since xs found
answers_is {n} {since} {k} {xs} {found} offer some (next left x rest v letters first is more) =
    let begun = begins_offer k v letters (message_in x.arrival) is in
    absurd (no_offer k offer (message_in x.arrival) begun.0 some begun.1)
answers_is {n} {since} {k} {xs} {found} offer some (last left x rest v letters first is) =
    ends_any n k since xs left x rest v found letters (message_in x.arrival) (first_is n k since xs left x rest first) refl is
answers_is {n} {since} {k} {xs} offer some (late left rest p is) = unanswered left rest (passes n k since xs (suc left) rest p) is
answers_is {n} {since} {k} {xs} offer some (too_many rest p) = drowned rest (passes n k since xs 0 rest p)

-- before an offer nothing ends a client
no_end_by : (k v : Known) (found : Option Terms) (letters : List Letter) (m : Message) (meaning : Meaning) → k.offer ≡ None → meaning_of k.mac k.xid k.offer m ≡ meaning → hears_as k m meaning ≡ Ends v found letters → ⊥
no_end_by k v found letters m (Offered offer) none e ends = cc ends
no_end_by k v found letters m (Granted server) none e ends = no_answer k (Some m) server none e
no_end_by k v found letters m Refused none e ends = no_refusal k (Some m) none e
no_end_by k v found letters m Nothing none e ends = cc ends

no_end : (k v : Known) (found : Option Terms) (letters : List Letter) (message : Option Message) → k.offer ≡ None → hears_any k message ≡ Ends v found letters → ⊥
no_end k v found letters None none ends = cc ends
no_end k v found letters (Some m) none ends = no_end_by k v found letters m (meaning_of k.mac k.xid k.offer m) none refl ends

-- what the kit's places give is what those of the offer and of its answer give
pub leases_is : {k : Known} {xs : List TimedArrival} {found : Option Terms} → k.offer ≡ None → Gives dhcp 131072 k 0 xs found → Leases k xs found
leases_is {k} {xs} {found} none (next left x rest v letters first is more) =
    let begun = begins_offer k v letters (message_in x.arrival) is in
    offered left x rest begun.0 found (first_is 131072 k 0 xs left x rest first) begun.1
    (answers_is begun.0 refl (subst (λ (u : Known). Gives dhcp left u x.at rest found) (sym begun.2) more))
leases_is {k} {xs} {found} none (last left x rest v letters first is) = absurd (no_end k v found letters (message_in x.arrival) none is)
leases_is {k} {xs} none (late left rest p is) = unoffered left rest (passes 131072 k 0 xs (suc left) rest p) is
leases_is {k} {xs} none (too_many rest p) = flooded rest (passes 131072 k 0 xs 0 rest p)
