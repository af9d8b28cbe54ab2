use Rattle.std.proofs.Common.{◌≤◌, length, drop}
use Rattle.bank.specs.Cells.{Preserved}
use Rattle.bank.proofs.Ways.{Sending}
use Rattle.combination.specs.Pressing.{writes_from}
use Rattle.combination.proofs.press.Given as goal

abbrev pub invariant-loop-cell : goal.invariant-loop-cell
invariant-loop-cell g l =
    Sending g.B.Bank.cells g.B.Bank.idles g.B.Bank.takes l.initial.bank (writes_from 0 l.values) l.bank (writes_from l.cell (drop l.cell l.values))
    × Preserved g.B.Bank.sound g.B.Bank.outside g.B.Bank.fixed l.initial.bank l.bank
    × (length l.values ≤ length (g.B.Bank.cells l.initial.bank))
