-- What a change leaves: the state after its effect, or, where the plant failed, a cut in which the effect runs.
use Rattle.std.proofs.Common.{◌≡◌, [], ◌∷◌, true, false, Result, Ok, Err, ◌∙◌, ap}
use Rattle.bd_dev.specs.Plant.{View}
use Rattle.cuts.specs.declared.effect.Effect.{Effect}
use Rattle.cuts.specs.States.{after}
use Rattle.cuts.specs.Spans.{state_of}
use Rattle.cuts.proofs.Joins.{effects_are}
use Rattle.cuts.proofs.Whole.{span_before}
use Rattle.board.specs.declared.board.Held.{Held}
use Rattle.board.specs.declared.fault.BoardFault.{BoardFault}
use Rattle.board.specs.declared.fault.BoardFault.TheVariants.{Range, OnTable, BadName, BadText, VarsFull, SeqEnd, Fault, Memory}
use Rattle.board.specs.Changes.{Does, Noted}
use Rattle.board.specs.Held.{IsAfter, Keeps, Leaves, MayRun, value_of}

pub is_after : (x : Effect) (v w : View) (h j : Held) → Keeps v h w j → Noted x false h j → IsAfter x v h w j
is_after x v w h j keeps noted tells =
    let span = keeps.span tells in
    span.state noted.failed ∙ ap (after (state_of (value_of v h))) (effects_are (value_of v h) (value_of w j) span (x ∷ []) noted.effects)

pub may_run : (x : Effect) (v w : View) (h j : Held) → Keeps v h w j → Noted x true h j → MayRun x v h w
may_run x v w h j keeps noted tells c image = span_before (value_of v h) (value_of w j) (keeps.span tells) [] x noted.effects c image

-- by the answer
pub leaves_of : (x : Effect) (same : Type 0) (r : Result Unit BoardFault) (v w : View) (h j : Held) → Keeps v h w j → Does x same r h j → Leaves x r v h w j
leaves_of x same (Ok u) v w h j keeps does = is_after x v w h j keeps does
leaves_of x same (Err Fault) v w h j keeps does = may_run x v w h j keeps does
leaves_of x same (Err Range) v w h j keeps does = tt
leaves_of x same (Err OnTable) v w h j keeps does = tt
leaves_of x same (Err BadName) v w h j keeps does = tt
leaves_of x same (Err BadText) v w h j keeps does = tt
leaves_of x same (Err VarsFull) v w h j keeps does = tt
leaves_of x same (Err SeqEnd) v w h j keeps does = tt
leaves_of x same (Err Memory) v w h j keeps does = tt
