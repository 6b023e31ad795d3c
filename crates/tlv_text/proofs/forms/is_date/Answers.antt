use Rattle.std.proofs.Common.{rules, tests}
use Rattle.std.specs.Prelude.{codes}
use Rattle.std.proofs.lemmas.Bool.Decides.{Decides-at}
use Rattle.std.proofs.lemmas.Iterator.{YieldsList-from_slice, YieldsList-from_zip}
use Rattle.std.proofs.lemmas.Iterator.Search.{all_from_yields_List}
use Rattle.tlv_text.specs.Values.{stands_for}
use Rattle.tlv_text.proofs.Dates.{Decides-stand}
use Rattle.tlv_text.proofs.forms.is_date.Goals as goal

pub returns-then-text : goal.returns-then-text
returns-then-text c =
    let marks = codes "MM/DD/YYYY HH:MM:SS" in
    Decides-at c.all.result _
    (all_from_yields_List (λ p. stands_for p.0 p.1) c.all.new.self _ _ c.all.ensures.ran
    (YieldsList-from_zip {s = c.zip.result} (YieldsList-from_slice c.args.text.now (cc)) (YieldsList-from_slice marks (cc)))
    (λ x b q k. search (rules, tests)))
    (Decides-stand c.args.text.now marks c.if-text.true)
