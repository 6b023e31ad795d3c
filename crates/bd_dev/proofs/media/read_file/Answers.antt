use Rattle.std.proofs.Common.{◌≡◌, length, ℕ, ◌-◌, min, List, arith, ◌∙◌, subst}
use Rattle.bd_dev.specs.Volumes.{IsPiece, bytes_of}
use Rattle.bd_dev.proofs.FileFronts.{front_more, grown_small}
use Rattle.bd_dev.proofs.media.read_file.Goals as goal

pub loop-piece-preserved : goal.loop-piece-preserved
loop-piece-preserved g c =
    let given = c.in_ok-count.ensures.given in
    let least = c.min-count.ensures in
    let grown = c.in_ok-push_slice.ensures.pushed in
    let cast = c.as_slice-in-loop-piece.ensures in
    let invariant = c.loop-piece.invariant in
    record {
      within = grown_small c.loop-piece.body c.read.new.out c.push_slice.new.self c.args.size c.in_ok-count.count c.min-count.result
          invariant.within (subst (λ (xs : List ℕ). c.min-count.result ≡ min c.in_ok-count.count (c.args.size - length xs)) cast least) grown;
      front = λ volumes told.
          front_more (bytes_of volumes c.args.volume.now c.args.name.now) c.loop-piece.body c.read.new.out c.push_slice.new.self
          c.in_ok-count.count c.min-count.result (invariant.front volumes told) given.fits (omega (arith, least))
          (subst (λ (xs : List ℕ). IsPiece (bytes_of volumes c.args.volume.now c.args.name.now) (length xs) c.in_ok-count.count c.read.new.out)
          cast (given.told volumes (invariant.kept ∙ told)))
          grown;
      kept = c.read.ensures.kept ∙ invariant.kept;
      quiet = c.in_ok-count.ensures.cause.quiet ∙ invariant.quiet;
    }
