use Rattle.std.proofs.Common.{refl}
use Rattle.bank.specs.Cells.{none, more}
use Rattle.bank.proofs.window.WindowBank.size.Goals as goal

pub returns-clause-idle : goal.returns-clause-idle
returns-clause-idle g c = record { same_span = refl; way = more c.size.ensures.idle none }
