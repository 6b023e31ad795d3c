use Rattle.std.proofs.Common.{◌≡◌, ◌∙◌, ◌≤◌, ℕ, List, Option, Some, length, inr, sym, ap, subst, arith}
use Rattle.net_script.specs.Faults.{IsWordsFault}
use Rattle.net_script.specs.Keywords.{keyword_of}
use Rattle.net_script.specs.Tests.{Unless}
use Rattle.net_script.specs.Words.{word}
use Rattle.net_script.specs.declared.fault.ScriptKind.TheVariants.{Missing}
use Rattle.net_script.specs.declared.keywords.Keyword.{Keyword}
use Rattle.net_script.proofs.line_reader.read_line.Goals as goal

pub returns-clause-bad : goal.returns-clause-bad
returns-clause-bad c = λ kind same.
    let ifaces = c.args.ifaces.now in
    let words = c.in_ok-words.words in
    let some : 1 ≤ length words = let count = c.if-count-eq0.false in let is = c.count.ensures in omega (arith, count, is) in
    let named = c.in_ok-keyword.ensures.named ∙ ap (λ (k : Keyword). Some k) c.in-Tftp.is in
    let fault : IsWordsFault ifaces c.args.has_flow (keyword_of (word words 0)) words kind =
    subst (λ (k : Option Keyword). IsWordsFault ifaces c.args.has_flow k words kind) (sym (ap keyword_of (sym c.get.ensures) ∙ named)) (c.read_tftp.ensures.bad kind same) in
    subst (λ (ws : List (List ℕ)). Unless (1 ≤ length ws) (kind ≡ Missing) (IsWordsFault ifaces c.args.has_flow (keyword_of (word ws 0)) ws kind)) c.in_ok-words.ensures (inr (some, fault))
