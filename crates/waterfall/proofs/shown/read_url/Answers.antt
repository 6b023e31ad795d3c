use Rattle.std.proofs.Common.{◌∙◌, None, ap, sym, ⊎_elim}
use Rattle.url.specs.Parser.{parse_url}
use Rattle.waterfall.proofs.Parsed.{url_of-other, url_of-ok, url_of-err}
use Rattle.waterfall.proofs.shown.read_url.Goals as goal

pub returns-in_default : goal.returns-in_default
returns-in_default c = url_of-other c.args.text.now c.in_default.ensures

pub returns-in-Ok : goal.returns-in-Ok
returns-in-Ok c =
    let read = c.in-Some.ensures in
    url_of-ok c.args.text.now c.in-Ok.url read.0 (sym (ap (parse_url None) read.1) ∙ c.in-Ok.ensures)

pub returns-else-is_out_of_room : goal.returns-else-is_out_of_room
returns-else-is_out_of_room c =
    let read = c.in-Some.ensures in
    ⊎_elim
    (λ e. url_of-err c.args.text.now c.in-Err.error read.0 (sym (ap (parse_url None) read.1) ∙ e))
    (λ room. absurd (c.is_out_of_room.ensures c.if-is_out_of_room.false room))
    c.in-Err.ensures
