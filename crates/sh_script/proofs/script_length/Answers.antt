use Rattle.sh_script.proofs.Walk.{passes, marked_here, all_script}
use Rattle.sh_script.proofs.script_length.Goals as goal

pub returns-in-Some-clause-splits : goal.returns-in-Some-clause-splits
returns-in-Some-clause-splits c = marked_here c.bytes.invariant c.in-Some.ensures.0 c.in-Some.ensures.1

pub returns-in-None-clause-splits : goal.returns-in-None-clause-splits
returns-in-None-clause-splits c = all_script c.bytes.invariant c.in-None.ensures

pub bytes-preserved : goal.bytes-preserved
bytes-preserved c = passes c.bytes.invariant c.in-Some-first.ensures c.in_default.ensures c.is_line_end-starts.ensures
