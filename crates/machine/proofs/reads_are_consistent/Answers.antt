use Rattle.machine.proofs.Promises.{reads_are_consistent_lem}
use Rattle.machine.proofs.reads_are_consistent.Goals as goal

pub returns : goal.returns
returns c = reads_are_consistent_lem
