use Rattle.bank.specs.Cells.{Preserved}
use Rattle.bank.specs.Holding.{held_by}
use Rattle.bank.proofs.Ways.{Sending}
use Rattle.bank.proofs.hold_back.HoldBack.settle.Given as goal

-- `l.self.1.0` is the bank below, while what is held is lent to the loop.
abbrev pub invariant-loop-h : goal.invariant-loop-h
invariant-loop-h g l =
    Sending g.B.Bank.cells g.B.Bank.idles g.B.Bank.takes l.fn.self.below (held_by l.fn.self) l.self.1.0 l.h-iterator.rest.now
    × Preserved g.B.Bank.sound g.B.Bank.outside g.B.Bank.fixed l.fn.self.below l.self.1.0
