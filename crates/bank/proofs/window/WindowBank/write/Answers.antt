use Rattle.std.proofs.Common.{drop, refl, subst, arith, length-take}
use Rattle.bank.specs.Cells.{none, more, MovedBy}
use Rattle.bank.proofs.Replies.{written_set}
use Rattle.bank.proofs.Windows.{set_window, inside_window, beyond_window}
use Rattle.bank.proofs.window.WindowBank.write.Goals as goal

pub returns-in_err-place-clause-moved : goal.returns-in_err-place-clause-moved
returns-in_err-place-clause-moved g c = (λ lt. absurd (let w = c.args.self.now in let le = c.in_err-place.ensures.1 in omega (arith, length-take w.span.length (drop w.span.first (g.B.Bank.cells w.below)))), λ _. record { same_span = refl; way = none })

pub returns-clause-after : goal.returns-clause-after
returns-clause-after g c = grind (arith, set_window, written_set)

pub returns-clause-moved : goal.returns-clause-moved
returns-clause-moved g c =
    let w = c.args.self.now in
    let cells = g.B.Bank.cells w.below in
    let place = c.in_ok-place.ensures in
    let m = subst (λ i. MovedBy g.B.Bank.cells g.B.Bank.idles g.B.Bank.takes w.below i c.args.value c.write.new.self) place.0 c.write.ensures.moved in (
      λ lt. record { same_span = refl; way = m.0 (inside_window cells w.span.first w.span.length c.args.cell lt) },
      λ le. record { same_span = refl; way = more (m.1 (beyond_window cells w.span.first w.span.length c.args.cell place.1 le)) none },
    )
