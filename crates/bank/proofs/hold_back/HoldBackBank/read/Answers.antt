use Rattle.std.proofs.Common.{arith}
use Rattle.bank.specs.Cells.{none, more}
use Rattle.bank.proofs.Holds.{asked}
use Rattle.bank.proofs.hold_back.HoldBackBank.read.Goals as goal

pub returns-in_err-reach-clause-idle : goal.returns-in_err-reach-clause-idle
returns-in_err-reach-clause-idle g c = let e = c.reach.ensures in asked e.held e.same e.idle

pub returns-in-Some-clause-idle : goal.returns-in-Some-clause-idle
returns-in-Some-clause-idle g c = let e = c.reach.ensures in asked e.held e.same e.idle

pub returns-in-None-clause-idle : goal.returns-in-None-clause-idle
returns-in-None-clause-idle g c = let e = c.reach.ensures in let r = c.read.ensures in record { same_held = e.held; same_below = grind arith; way = more e.idle (more r.idle none) }
