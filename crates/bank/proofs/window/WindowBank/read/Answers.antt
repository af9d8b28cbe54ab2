use Rattle.std.proofs.Common.{refl}
use Rattle.bank.specs.Cells.{none, more}
use Rattle.bank.proofs.window.WindowBank.read.Goals as goal

pub returns-in_err-place-clause-idle : goal.returns-in_err-place-clause-idle
returns-in_err-place-clause-idle g c = record { same_span = refl; way = none }

pub returns-clause-idle : goal.returns-clause-idle
returns-clause-idle g c = record { same_span = refl; way = more c.read.ensures.idle none }
