use Rattle.machine.proofs.Promises.{commits_are_serial_lem}
use Rattle.machine.proofs.commits_are_serial.Goals as goal

pub returns : goal.returns
returns c = commits_are_serial_lem
