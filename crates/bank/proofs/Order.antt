-- Writes that reach a hold-back one after another. Assumes nothing.
use Rattle.std.proofs.Common.{◌≡◌, ℕ, suc, ◌<◌, List, All, [], ◌∷◌, length, sym, ap, ◌∙◌, subst, arith}
use Rattle.bank.specs.declared.hold_back.HeldCell.{HeldCell}
use Rattle.bank.specs.declared.hold_back.HoldBack.{HoldBack}
use Rattle.bank.specs.Cells.{MovedBy}
use Rattle.bank.specs.Holding.{held_by, held_over, length-replaced, taken_in, FitsBelow, Sent, HoldIdles, HoldTakes}

module _ {B : Type 0} (cells : B → List ℕ) (idles : B → B → Type 0) (takes : B → ℕ → ℕ → B → Type 0) where
  abbrev Step : HoldBack B → ℕ → ℕ → HoldBack B → Type 0
  Step = MovedBy (held_over cells) (HoldIdles cells idles) (HoldTakes cells idles (MovedBy cells idles takes))

  same_size : (l l' : HoldBack B) (i v : ℕ) → HoldTakes cells idles (MovedBy cells idles takes) l i v l' → length (held_over cells l') ≡ length (held_over cells l)
  same_size l l' i v t = grind (arith, length-replaced)

  -- It then holds what the writes leave held, in their order.
  pub lower_holds : (ws : List HeldCell) (l l' : HoldBack B) (n : ℕ) → All (FitsBelow n) ws → length (held_over cells l) ≡ n → Sent Step l ws l' → held_by l' ≡ taken_in (held_by l) ws
  lower_holds [] l l' n fit size same = ap held_by (sym same)
  lower_holds (w ∷ ws) l l' n fit size sent =
      let t = sent.1.0 (subst (λ m. w.cell < m) (sym size) (fit 0 w (omega arith)).0) in
      lower_holds ws sent.0 l' n (λ k d lt. fit (suc k) d (omega arith)) (same_size l sent.0 w.cell w.value t ∙ size) sent.2 ∙ ap (λ hs. taken_in hs ws) t.now_held
