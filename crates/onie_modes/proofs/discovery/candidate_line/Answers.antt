use Rattle.fetch_text.specs.Lines.{line_of}
use Rattle.onie_modes.proofs.discovery.candidate_line.Goals as goal

pub returns-in-Body : goal.returns-in-Body
unfolding line_of
returns-in-Body c = rw (c.in-Body.is, ← c.as_slice.ensures) c.found_line.ensures

pub returns-in-Miss : goal.returns-in-Miss
unfolding line_of
returns-in-Miss c = rw c.in-Miss.is c.miss_line.ensures
