use Rattle.bank.proofs.Ways.{preserved_then, sending_more}
use Rattle.bank.proofs.hold_back.HoldBack.settle.Goals as goal

pub loop-h-preserved : goal.loop-h-preserved
loop-h-preserved g c =
    let e = c.write.ensures in
    (sending_more g.B.Bank.cells g.B.Bank.idles g.B.Bank.takes c.in-Some.h.now c.in-Some.ensures.steps e.after e.moved c.loop-h.invariant.0, preserved_then c.loop-h.invariant.1 e.kept)
