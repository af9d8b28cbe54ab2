use Rattle.cases.proofs.Refuted.{both_laws}
use Rattle.cases.proofs.both_laws_are_needed.Goals as goal

pub returns : goal.returns
returns c = both_laws
