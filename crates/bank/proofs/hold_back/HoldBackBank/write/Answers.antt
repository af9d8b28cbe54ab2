use Rattle.std.proofs.Common.{◌≡◌, [], ◌∷◌, ◌++◌, length, set, Some, None, sym, refl, ap, ◌∙◌, arith, length-set}
use Rattle.arrayvec.specs.ArrayVec.{with_items}
use Rattle.arrayvec.proofs.ArrayVecLemmas.{items-with_items}
use Rattle.bank.specs.Holding.{held_cell, held_by, length-replaced}
use Rattle.bank.proofs.Holds.{asked, taken_at}
use Rattle.bank.proofs.hold_back.HoldBackBank.write.Goals as goal

pub returns-in_err-reach-clause-moved : goal.returns-in_err-reach-clause-moved
returns-in_err-reach-clause-moved g c =
    let h = c.args.self.now in
    let e = c.reach.ensures in (
      λ lt. absurd (let le = c.in_err-reach.ensures.value in omega (arith, length-replaced (held_by h) (g.B.Bank.cells h.below))),
      λ _. asked e.held e.same e.idle,
    )

pub returns-in-Some : goal.returns-in-Some
returns-in-Some g c =
    let b = g.B.Bank in
    let m = c.reach.new.self in
    let e = c.reach.ensures in
    let h = held_cell c.args.cell c.args.value in
    let hs = set c.deref_mut.result.now c.in-Some.i h in
    let stores = items-with_items m.held hs (length-set c.deref_mut.result.now c.in-Some.i h ∙ ap length c.deref_mut.ensures.value) ∙ ap (λ ks. set ks c.in-Some.i h) c.deref_mut.ensures.value in
    let t = taken_at b.cells b.idles b.takes b.sound b.outside b.fixed c.args.self.now m (record { below = m.below; held = with_items m.held hs }) c.args.cell c.args.value (omega arith) c.in_ok-reach.ensures.value e.held e.same e.kept e.idle (Some c.in-Some.i) (sym c.newest.ensures.value ∙ c.in-Some.is) stores refl (record { soundness = λ s. s; unmoved = refl; unaltered = refl }) refl in
    record { value = t.value; after = t.after; kept = t.kept; moved = t.moved }

pub returns-in_default : goal.returns-in_default
returns-in_default g c =
    let b = g.B.Bank in
    let m = c.reach.new.self in
    let e = c.reach.ensures in
    let room = c.make_room.ensures in
    let none : c.newest.result ≡ None = c.in_default.is in
    let stores = c.push.ensures.items ∙ ap (λ ks. ks ++ held_cell c.args.cell c.args.value ∷ []) room.held in
    let t = taken_at b.cells b.idles b.takes b.sound b.outside b.fixed c.args.self.now m (record { below = c.make_room.new.self.below; held = c.push.new.self }) c.args.cell c.args.value (omega arith) c.in_ok-reach.ensures.value e.held e.same e.kept e.idle None (sym c.newest.ensures.value ∙ none) stores room.below room.kept room.way in
    record { value = t.value; after = t.after; kept = t.kept; moved = t.moved }
