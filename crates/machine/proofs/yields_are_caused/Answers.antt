use Rattle.machine.proofs.Promises.{yields_are_caused_lem}
use Rattle.machine.proofs.yields_are_caused.Goals as goal

pub returns : goal.returns
returns c = yields_are_caused_lem
