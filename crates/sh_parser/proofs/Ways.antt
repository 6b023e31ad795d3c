-- Ways through a production, by what stands there.
use Rattle.std.proofs.Common.{◌≡◌, Bool, true, false, not, if◌then◌else◌, sym, subst, Option, Some, None}
use Rattle.sh_text.specs.Front.{Text}
use Rattle.sh_parser.specs.Grammar.{Phrase, Value, Body, on, Outcome, Runs}

pub when : {s : Phrase} {c : Bool} {x : Body (Value s)} (y : Body (Value s)) {o : Outcome (Value s)} → c ≡ true → Runs s x o → Runs s (if c then x else y) o
when {s} {c} {x} y {o} e r = subst (λ (b : Bool). Runs s (if b then x else y) o) (sym e) r

pub unless : {s : Phrase} {c : Bool} (x : Body (Value s)) {y : Body (Value s)} {o : Outcome (Value s)} → c ≡ false → Runs s y o → Runs s (if c then x else y) o
unless {s} {c} x {y} {o} e r = subst (λ (b : Bool). Runs s (if b then x else y) o) (sym e) r

pub there : {s : Phrase} {found : Option Text} {r : Text} (f : Text → Body (Value s)) (g : Body (Value s)) {o : Outcome (Value s)} → found ≡ Some r → Runs s (f r) o → Runs s (on found f g) o
there {s} {found} {r} f g {o} e h = subst (λ (p : Option Text). Runs s (on p f g) o) (sym e) h

pub lacks : {s : Phrase} {found : Option Text} (f : Text → Body (Value s)) {g : Body (Value s)} {o : Outcome (Value s)} → found ≡ None → Runs s g o → Runs s (on found f g) o
lacks {s} {found} f {g} {o} e h = subst (λ (p : Option Text). Runs s (on p f g) o) (sym e) h

pub when_not : {s : Phrase} {c : Bool} {x : Body (Value s)} (y : Body (Value s)) {o : Outcome (Value s)} → c ≡ false → Runs s x o → Runs s (if not c then x else y) o
when_not {s} {c} {x} y {o} e r = subst (λ (b : Bool). Runs s (if not b then x else y) o) (sym e) r

pub unless_not : {s : Phrase} {c : Bool} (x : Body (Value s)) {y : Body (Value s)} {o : Outcome (Value s)} → c ≡ true → Runs s y o → Runs s (if not c then x else y) o
unless_not {s} {c} x {y} {o} e r = subst (λ (b : Bool). Runs s (if not b then x else y) o) (sym e) r

pub along : {s : Phrase} {b c : Body (Value s)} {o : Outcome (Value s)} → b ≡ c → Runs s c o → Runs s b o
along {s} {b} {c} {o} e r = subst (λ (x : Body (Value s)). Runs s x o) (sym e) r
