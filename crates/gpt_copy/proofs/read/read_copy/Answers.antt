use Rattle.std.proofs.Common.{◌≡◌, Bool, true, false, if◌then◌else◌, Some, None, sym, ◌∙◌, ap, subst}
use Rattle.gpt_copy.specs.Copy.{FitsDisk, is_readable, reading, table_from, header_of, entry_bytes}
use Rattle.gpt_copy.specs.Header.{has_rows}
use Rattle.gpt_copy.proofs.Fits.{fits_of}
use Rattle.gpt_copy.proofs.read.read_copy.Goals as goal

pub returns-then-not-holds_rows-clause-read : goal.returns-then-not-holds_rows-clause-read
unfolding reading
returns-then-not-holds_rows-clause-read c =
    let same : c.holds_rows.result ≡ is_readable c.args.which c.args.last_lba c.args.bytes.now = rw (← c.sides.ensures.header, ← c.sides.ensures.entries) c.holds_rows.ensures in
    let fails = c.if-not-holds_rows.true in
    let test : is_readable c.args.which c.args.last_lba c.args.bytes.now ≡ false = cc in
    sym (ap (λ (b : Bool). if b then Some (table_from (header_of c.args.which c.args.bytes.now) (entry_bytes c.args.which c.args.bytes.now)) else None) test)

pub returns-clause-read : goal.returns-clause-read
unfolding reading
returns-clause-read c =
    let same : c.holds_rows.result ≡ is_readable c.args.which c.args.last_lba c.args.bytes.now = rw (← c.sides.ensures.header, ← c.sides.ensures.entries) c.holds_rows.ensures in
    let holds = c.if-not-holds_rows.false in
    let test : is_readable c.args.which c.args.last_lba c.args.bytes.now ≡ true = cc in
    let table : c.read_table.result ≡ table_from (header_of c.args.which c.args.bytes.now) (entry_bytes c.args.which c.args.bytes.now) = rw (← c.sides.ensures.header, ← c.sides.ensures.entries) c.read_table.ensures in
    ap Some table ∙ sym (ap (λ (b : Bool). if b then Some (table_from (header_of c.args.which c.args.bytes.now) (entry_bytes c.args.which c.args.bytes.now)) else None) test)

pub returns-clause-fits : goal.returns-clause-fits
returns-clause-fits c =
    let rows : has_rows c.args.which c.args.last_lba c.sides.result.0.now c.sides.result.1.now ≡ true = sym c.holds_rows.ensures ∙ c.if-not-holds_rows.false in
    subst (FitsDisk c.args.last_lba) (sym c.read_table.ensures) (fits_of c.args.which c.args.last_lba c.sides.result.0.now c.sides.result.1.now rows)
