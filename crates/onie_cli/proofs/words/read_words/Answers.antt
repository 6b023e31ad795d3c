use Rattle.std.proofs.Common.{sym, refl, ◌∙◌}
use Rattle.std.specs.Prelude.{string_bytes, codes}
use Rattle.onie_cli.proofs.AskedWords.{asked_field, code_spelled, code_unspelled, four_words, is_word, no_command}
use Rattle.onie_cli.proofs.words.read_words.Goals as goal

pub returns-in_default-as_str : goal.returns-in_default-as_str
returns-in_default-as_str c = no_command string_bytes c.args.words.now c.word-item.result c.as_str.result.now c.in-len1.len_at_least c.in-len1.len_below c.word-item.is c.as_str.ensures.value
    c.in_default-as_str.not-status c.in_default-as_str.not-discover c.in_default-as_str.not-eeprom

pub returns-in_ok-code-in-len4 : goal.returns-in_ok-code-in-len4
returns-in_ok-code-in-len4 c =
    let words = four_words string_bytes c.args.words.now c.first-item-then-words-lt5.result c.second-item.result c.code-item.result c.text-item.result c.in-len4.len_at_least c.in-len4.len_below c.first-item-then-words-lt5.is c.second-item.is c.code-item.is c.text-item.is in
    let found = c.in_ok-code-in-len4.ensures.found in
    asked_field _ _ _ _ _ words (is_word _ _ (codes "eeprom") c.as_str-in-len4.ensures.value c.if-ne-3.ensures) (is_word _ _ (codes "set") c.as_str-else-ne-3.ensures.value c.if-ne-4.ensures)
    ∙ rw (code_spelled _ found.0 _ found.1 (sym c.as_bytes.ensures.value ∙ found.2), c.as_bytes-text.ensures.value) refl

pub returns-in_err-code-in-len4 : goal.returns-in_err-code-in-len4
returns-in_err-code-in-len4 c =
    let words = four_words string_bytes c.args.words.now c.first-item-then-words-lt5.result c.second-item.result c.code-item.result c.text-item.result c.in-len4.len_at_least c.in-len4.len_below c.first-item-then-words-lt5.is c.second-item.is c.code-item.is c.text-item.is in
    asked_field _ _ _ _ _ words (is_word _ _ (codes "eeprom") c.as_str-in-len4.ensures.value c.if-ne-3.ensures) (is_word _ _ (codes "set") c.as_str-else-ne-3.ensures.value c.if-ne-4.ensures)
    ∙ rw (code_unspelled _ (λ code digits spells e. c.in_err-code-in-len4.ensures.only code digits spells (c.as_bytes.ensures.value ∙ e)), c.from_residual.ensures) refl
