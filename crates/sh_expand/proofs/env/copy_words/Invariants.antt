use Rattle.std.proofs.Common.{◌≡◌, take}
use Rattle.sh_expand.proofs.env.copy_words.Given as goal

abbrev pub invariant-loop-word : goal.invariant-loop-word
invariant-loop-word l = l.all ≡ take l.word-index l.words
