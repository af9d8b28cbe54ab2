use Rattle.std.proofs.Common.{◌≡◌, [], sym, ap, ◌∙◌}
use Rattle.bank.specs.Holding.{held_by}
use Rattle.combination.proofs.Through.{mid, low_outside, low_fixed, through}
use Rattle.combination.proofs.press_through.Goals as goal

pub returns-clause-after : goal.returns-clause-after
returns-clause-after g c =
    let cells = g.B.Bank.cells in
    let outside = g.B.Bank.outside in
    let fixed = g.B.Bank.fixed in
    let bank = c.args.bank in
    let both = c.args.windows in
    let values = c.args.values.now in
    let t = c.new-top.result in
    let t' = c.press-reply.new.bank in
    let h' = c.finish.result in
    let w = c.finish-2.result in
    let p = c.press-reply.ensures in
    let s = c.finish-2.ensures in
    let inner_is : t.below.below.span ≡ both.inner = ap (λ h. h.below.span) c.new-top.ensures.below ∙ ap (λ b. b.span) c.new-2.ensures.below ∙ c.new.ensures.span in
    let bank_is : t.below.below.below ≡ bank = ap (λ h. h.below.below) c.new-top.ensures.below ∙ ap (λ b. b.below) c.new-2.ensures.below ∙ c.new.ensures.below in
    let held_none : held_by t.below ≡ [] = ap held_by c.new-top.ensures.below ∙ c.new-2.ensures.held in
    let handed = c.finish.ensures in
    let settled = s.settled.now_below ∙ ap (mid cells outside fixed) handed in
    let w_unmoved = s.kept.unmoved ∙ ap (λ h. low_outside cells outside fixed h.below) handed in
    let w_unaltered = s.kept.unaltered ∙ ap (λ h. low_fixed cells outside fixed h.below) handed in
    let last = sym c.finish-3.ensures in
    sym (ap cells last) ∙ through cells outside fixed bank both t bank_is inner_is held_none c.new-top.ensures.span values t' w p.after p.kept.unmoved p.kept.unaltered settled w_unmoved w_unaltered
