use Rattle.machine.proofs.Promises.{new_engine_keeps_lem}
use Rattle.machine.proofs.new_engine_keeps.Goals as goal

pub returns : goal.returns
returns c = new_engine_keeps_lem
