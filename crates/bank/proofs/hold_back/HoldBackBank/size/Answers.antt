use Rattle.std.proofs.Common.{refl}
use Rattle.bank.specs.Cells.{none, more}
use Rattle.bank.proofs.hold_back.HoldBackBank.size.Goals as goal

pub returns-clause-idle : goal.returns-clause-idle
returns-clause-idle g c = record { same_held = refl; same_below = c.size.ensures.same; way = more c.size.ensures.idle none }
