use Rattle.machine.proofs.Promises.{no_other_changes_lem}
use Rattle.machine.proofs.no_other_changes.Goals as goal

pub returns : goal.returns
returns c = no_other_changes_lem
