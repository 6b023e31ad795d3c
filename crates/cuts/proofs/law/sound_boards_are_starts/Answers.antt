use Rattle.cuts.proofs.Beginning.{image_starts}
use Rattle.cuts.proofs.law.sound_boards_are_starts.Goals as goal

pub returns : goal.returns
returns c = λ size image sound. image_starts size image sound
