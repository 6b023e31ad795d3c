use Rattle.std.proofs.Common.{◌≡◌, ◌≤◌, ◌<◌, ◌+◌, ◌++◌, ℕ, List, length, take, drop, length-drop, length-take, sym, ap, subst, ◌∙◌, arith, length-append}
use Rattle.std.proofs.lemmas.List.{length-take-le, take-append-le}
use Rattle.bd_dev.specs.Source.{Gives}
use Rattle.bd_dev.proofs.SourceFronts.{HasRead, read_more, read_whole}
use Rattle.bd_dev.proofs.source.read_source.Goals as goal

pub returns-then-count-eq0-clause-front : goal.returns-then-count-eq0-clause-front
returns-then-count-eq0-clause-front g c =
    let invariant = c.loop-piece.invariant in
    let test : length c.as_slice.result.now < c.args.most = c.loop-piece-test.true in
    let size = c.read.auto.out in
    let given : Gives (g.S.Source.left c.loop-piece.source) (g.S.Source.left c.read.new.self) 0 c.read.new.out =
    subst (λ (n : ℕ). Gives (g.S.Source.left c.loop-piece.source) (g.S.Source.left c.read.new.self) n c.read.new.out) c.if-count-eq0.true c.in_ok-count.ensures.given in
    let room : 0 < length c.read.new.out = omega (arith, size, length-take c.min-room.result c.loop-piece.piece, c.min-room.ensures, test, invariant.room, ap length c.as_slice-in-loop-piece.ensures, ap length c.as_slice.ensures) in
    read_whole _ _ _ _ c.loop-piece.text c.read.new.out room invariant.few invariant.read given

pub loop-piece-preserved : goal.loop-piece-preserved
loop-piece-preserved g c =
    let invariant = c.loop-piece.invariant in
    let test : length c.as_slice.result.now < c.args.most = c.loop-piece-test.true in
    let given = c.in_ok-count.ensures.given in
    let fits : c.in_ok-count.count ≤ length c.read.new.out = given.fits in
    let piece : List ℕ = c.read.new.out ++ drop c.min-room.result c.loop-piece.piece in
    let front : take c.in_ok-count.count piece ≡ take c.in_ok-count.count c.read.new.out = take-append-le c.in_ok-count.count c.read.new.out (drop c.min-room.result c.loop-piece.piece) fits in
    let pushed : c.push_slice.new.self ≡ c.loop-piece.text ++ take c.in_ok-count.count piece = c.in_ok-push_slice.ensures.pushed in
    let size = c.read.auto.out in
    let room = length-take c.min-room.result c.loop-piece.piece in
    let more : HasRead (g.S.Source.left c.args.source.now) (g.S.Source.left c.read.new.self) (c.loop-piece.text ++ take c.in_ok-count.count piece) =
    read_more _ _ _ c.loop-piece.text c.read.new.out (take c.in_ok-count.count piece) c.in_ok-count.count invariant.read given front in
    let added : length (take c.in_ok-count.count piece) ≡ c.in_ok-count.count = ap length front ∙ length-take-le c.in_ok-count.count c.read.new.out fits in
    let whole : length c.push_slice.new.self ≡ length c.loop-piece.text + length (take c.in_ok-count.count piece) = ap length pushed ∙ length-append c.loop-piece.text (take c.in_ok-count.count piece) in
    record {
      read = subst (HasRead (g.S.Source.left c.args.source.now) (g.S.Source.left c.read.new.self)) (sym pushed) more;
      few = (let few = invariant.few in let kept = invariant.room in omega (arith, whole, added, fits, size, room, c.min-room.ensures, test, kept, few, ap length c.as_slice-in-loop-piece.ensures, ap length c.as_slice.ensures));
      quiet = c.in_ok-count.ensures.cause.quiet ∙ invariant.quiet;
      room = (let kept = invariant.room in omega (arith, size, room, c.min-room.ensures, kept, length-append c.read.new.out (drop c.min-room.result c.loop-piece.piece), length-drop c.min-room.result c.loop-piece.piece));
    }
