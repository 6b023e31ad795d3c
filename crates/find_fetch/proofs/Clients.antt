-- The client for a request: what it asks for, and what it comes to.
use Rattle.std.proofs.Common.{◌≡◌, ◌≤◌, ℕ, Bool, true, false, ◌&&◌, nat_le, List, [], ◌∷◌, length, refl, arith}
use Rattle.std.specs.List.{AllByRecursion, list_all}
use Rattle.std.proofs.lemmas.Bool.Decides.{nat_tests}
use Rattle.std.proofs.lemmas.List.Elements.{All-from_recursion}
use Rattle.bd_dev.specs.Rows.{TimedArrival}
use Rattle.waits.specs.Around.{IsAround}
use Rattle.waits.specs.Waits.{ComesTo, found_of, new_waiter, outcome}
use Rattle.waits.proofs.Around.{comes_around}
use Rattle.waits.proofs.Found.{comes_to}
use Rattle.tftp_client.specs.Packets.{IsPath}
use Rattle.tftp_client.specs.Transfer.{none_taken, tftp, tftp_acts, tftp_timely}
use Rattle.find_fetch.specs.Aim.{IsAskable, is_path, is_printable}
use Rattle.find_fetch.specs.Bodies.{body_acts, body_result, by_tftp, client_of, outcome_of, way_client, way_outcome}
use Rattle.find_fetch.specs.declared.body_core.BodyCore.TheVariants as bodies
use Rattle.find_fetch.specs.declared.request.Aim.{Aim}
use Rattle.find_fetch.specs.declared.request.Way.{Way}
use Rattle.find_fetch.specs.declared.request.Way.TheVariants as ways

-- what is asked for
abbrev pub path_in : Way → List ℕ
path_in (ways.Tftp path) = path

left_true : (a b : Bool) → (a && b) ≡ true → a ≡ true
left_true true b h = refl
left_true false b h = h

right_true : (a b : Bool) → (a && b) ≡ true → b ≡ true
right_true true b h = h
right_true false b h = absurd (cc h)

le_of_test : (a b : ℕ) → nat_le a b ≡ true → a ≤ b
le_of_test a b h = grind (arith, nat_tests)

all_printable : (xs : List ℕ) → list_all is_printable xs ≡ true → AllByRecursion (λ byte. (32 ≤ byte) × (byte ≤ 126)) xs
all_printable [] h = tt
all_printable (x ∷ xs) h =
    let here = left_true (is_printable x) (list_all is_printable xs) h in
    let rest = right_true (is_printable x) (list_all is_printable xs) h in
    ((le_of_test 32 x (left_true (nat_le 32 x) (nat_le x 126) here), le_of_test x 126 (right_true (nat_le 32 x) (nat_le x 126) here)), all_printable xs rest)

pub path_of_test : (path : List ℕ) → is_path path ≡ true → IsPath path
unfolding is_path
path_of_test path h =
    let sizes = left_true (nat_le 1 (length path) && nat_le (length path) 400) (list_all is_printable path) h in
    record {
      some = le_of_test 1 (length path) (left_true (nat_le 1 (length path)) (nat_le (length path) 400) sizes);
      short = le_of_test (length path) 400 (right_true (nat_le 1 (length path)) (nat_le (length path) 400) sizes);
      printable = All-from_recursion (λ (byte : ℕ). (32 ≤ byte) × (byte ≤ 126)) path
          (all_printable path (right_true (nat_le 1 (length path) && nat_le (length path) 400) (list_all is_printable path) h));
    }

-- what can be asked for has a path that can be asked for
pub askable_path : (way : Way) → IsAskable way → IsPath (path_in way)
askable_path (ways.Tftp path) h = path_of_test path h

-- the client for a request does what its inner client does
around_tftp : IsAround bodies.Tftp tftp_acts body_acts
around_tftp = record {
  begun = λ c. refl;
  begun_letters = λ c. refl;
  arrived = λ c at a. refl;
  arrived_letters = λ c at a. refl;
  expired = λ c at. refl;
  expired_letters = λ c at. refl;
  flooded = λ c. refl;
  deadline = λ c. refl;
  left = λ c. refl;
}

way_comes_to : (port : ℕ) (way : Way) (comes : List TimedArrival) → ComesTo body_acts body_result (way_client port way) comes (way_outcome port way comes)
way_comes_to port (ways.Tftp path) comes =
    comes_around bodies.Tftp tftp_acts body_acts around_tftp by_tftp found_of body_result (λ c. refl) (new_waiter tftp (none_taken port path)) comes
    (outcome tftp (none_taken port path) comes) (comes_to tftp tftp_timely (none_taken port path) comes)

-- it comes to the request's outcome
pub aim_comes_to : (aim : Aim) (comes : List TimedArrival) → ComesTo body_acts body_result (client_of aim) comes (outcome_of aim comes)
aim_comes_to aim comes = way_comes_to aim.port aim.way comes
