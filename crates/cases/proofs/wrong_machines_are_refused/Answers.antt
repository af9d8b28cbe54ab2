use Rattle.cases.proofs.Refuted.{wrong_machines}
use Rattle.cases.proofs.wrong_machines_are_refused.Goals as goal

pub returns : goal.returns
returns c = wrong_machines
