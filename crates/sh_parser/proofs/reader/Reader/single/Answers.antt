use Rattle.std.proofs.Common.{rules}
use Rattle.sh_parser.proofs.Steps.{step, ends, append_nil, more, same_byte, other_byte}
use Rattle.sh_parser.proofs.WordRules.{single_open, single_nul, single_end, single_more, single_more_f3}
use Rattle.sh_parser.proofs.reader.Reader.single.Goals as goal

pub returns-in-None-clause-reads : goal.returns-in-None-clause-reads
returns-in-None-clause-reads c = record { is = c.bytes.invariant.1.breaks _ _ (single_open _ c.in-None.ensures) }

pub returns-then-c-eq0-clause-reads : goal.returns-then-c-eq0-clause-reads
returns-then-c-eq0-clause-reads c = record { is = c.bytes.invariant.1.breaks _ _ (single_nul _ _ _ c.in-Some.ensures (same_byte _ 0 c.if-c-eq0.true)) }

pub returns-then-c-eq39-clause-reads : goal.returns-then-c-eq39-clause-reads
returns-then-c-eq39-clause-reads c = ends c.bytes.invariant.1 (single_end _ _ _ c.in-Some.ensures (other_byte _ 0 c.if-c-eq0.false) (same_byte _ 39 c.if-c-eq39.true)) (append_nil c.bytes.parts)

pub bytes-preserved : goal.bytes-preserved
bytes-preserved c = (
  search rules,
  step c.bytes.invariant.1
      (record {
        gives = λ v r h. single_more _ _ _ _ _ c.in-Some.ensures (other_byte _ 0 c.if-c-eq0.false) (other_byte _ 39 c.if-c-eq39.false) h;
        breaks = λ k r h. single_more_f3 _ _ _ _ _ c.in-Some.ensures (other_byte _ 0 c.if-c-eq0.false) (other_byte _ 39 c.if-c-eq39.false) h;
      })
      (λ v. more c.bytes.parts _ v c.in_ok-push.ensures),
)
