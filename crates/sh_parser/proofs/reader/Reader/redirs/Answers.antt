use Rattle.std.proofs.Common.{sym, ◌∙◌, rules}
use Rattle.sh_parser.proofs.Steps.{exit, step, ends, append_nil, more}
use Rattle.sh_parser.proofs.CommandRules.{redirs_end, redirs_more, redirs_more_f2, redirs_more_f3}
use Rattle.sh_parser.proofs.reader.Reader.redirs.Goals as goal

pub returns-then-not-is_redirection-clause-reads : goal.returns-then-not-is_redirection-clause-reads
returns-then-not-is_redirection-clause-reads c = ends c.redirs.invariant.1 (redirs_end _ _ _ c.gap-self.ensures.same (sym c.is_redirection.ensures ∙ c.if-not-is_redirection.true)) (append_nil c.redirs.redirs)

pub returns-in_err-redir-clause-reads : goal.returns-in_err-redir-clause-reads
returns-in_err-redir-clause-reads c = exit c.from_residual.result c.from_residual.ensures.1 (λ k h. c.redirs.invariant.1.breaks _ _ (redirs_more_f2 _ _ _ _ _ c.gap-self.ensures.same (sym c.is_redirection.ensures ∙ c.if-not-is_redirection.false) h)) c.in_err-redir.ensures.reads

pub redirs-preserved : goal.redirs-preserved
redirs-preserved c = (
  search rules,
  step c.redirs.invariant.1
      (record {
        gives = λ v r h. redirs_more _ _ _ _ _ _ _ c.gap-self.ensures.same (sym c.is_redirection.ensures ∙ c.if-not-is_redirection.false) c.in_ok-redir.ensures.reads.is h;
        breaks = λ k r h. redirs_more_f3 _ _ _ _ _ _ _ c.gap-self.ensures.same (sym c.is_redirection.ensures ∙ c.if-not-is_redirection.false) c.in_ok-redir.ensures.reads.is h;
      })
      (λ v. more c.redirs.redirs _ v c.in_ok-push.ensures),
)
