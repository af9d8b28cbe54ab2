use Rattle.std.proofs.Common.{refl}
use Rattle.bank.specs.Holding.{held_by}
use Rattle.bank.proofs.Order.{lower_holds}
use Rattle.bank.proofs.hold_back.settle_upper.Goals as goal

pub returns-clause-lower : goal.returns-clause-lower
returns-clause-lower g c =
    let u = c.args.upper.now in
    λ s. lower_holds g.B.Bank.cells g.B.Bank.idles g.B.Bank.takes (held_by u) u.below c.settle.new.self.below _ s.fit refl c.settle.ensures.settled.way
