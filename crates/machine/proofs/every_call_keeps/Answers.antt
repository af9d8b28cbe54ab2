use Rattle.machine.proofs.Promises.{every_call_keeps_lem}
use Rattle.machine.proofs.every_call_keeps.Goals as goal

pub returns : goal.returns
returns c = every_call_keeps_lem
