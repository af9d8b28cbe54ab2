use Rattle.std.proofs.Common.{◌∙◌, refl, arith}
use Rattle.bank.proofs.Ways.{preserved_then, sending_size, sending_more}
use Rattle.combination.proofs.Writes.{writes_left, writes_laid, all_sent}
use Rattle.bank.specs.Cells.{none, more}
use Rattle.combination.proofs.press.Goals as goal

pub returns-then-values-size-clause-way : goal.returns-then-values-size-clause-way
returns-then-values-size-clause-way g c = record { writes = λ e. absurd (grind arith); asks = λ _. more c.size.ensures.idle none }

pub loop-cell-preserved : goal.loop-cell-preserved
loop-cell-preserved g c =
    let e = c.write.ensures in
    let i = c.loop-cell.invariant in
    (sending_more g.B.Bank.cells g.B.Bank.idles g.B.Bank.takes _ (writes_left c.args.values.now c.loop-cell.cell (omega arith)) e.after e.moved i.0, preserved_then i.1 e.kept, i.2)

-- A cell below the size is never refused.
pub returns-in_err-write : goal.returns-in_err-write
returns-in_err-write g c = absurd (let size = sending_size g.B.Bank.cells g.B.Bank.idles g.B.Bank.takes c.loop-cell.invariant.0 in grind arith)

pub returns-clause-after : goal.returns-clause-after
returns-clause-after g c =
    let s = all_sent c.args.values.now c.loop-cell.cell (omega arith) c.loop-cell.invariant.0 in
    let laid = writes_laid 0 c.args.values.now (g.B.Bank.cells c.size.new.self) (let room = c.loop-cell.invariant.2 in omega arith) in
    s.same ∙ laid ∙ grind arith

pub returns-clause-way : goal.returns-clause-way
returns-clause-way g c =
    let s = all_sent c.args.values.now c.loop-cell.cell (omega arith) c.loop-cell.invariant.0 in
    record { writes = λ _. (c.size.new.self, more c.size.ensures.idle none, s.way c.loop-cell.bank refl); asks = λ e. absurd (grind arith) }
