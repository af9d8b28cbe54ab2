-- A hold-back around one call of the bank below. Assumes nothing.
use Rattle.std.proofs.Common.{◌≡◌, ℕ, ◌<◌, List, Option, length, sym, ap, ◌∙◌, subst, arith}
use Rattle.refusal.specs.Labels.{granted}
use Rattle.bank.specs.declared.hold_back.HoldBack.{HoldBack}
use Rattle.bank.specs.Cells.{none, more, FitsWord, writing, written, Preserved, MovedBy}
use Rattle.bank.specs.Holding.{held_cell, held_by, held_over, place_of, replaced, length-replaced, stored_at, stored, overflow_at, overflow, SoundHeld, HoldSound, Sent, HoldIdles, HoldTakes}
use Rattle.bank.proofs.Held.{stored_cells, stored_sound}
use Rattle.bank.proofs.Ways.{preserved_then}

-- Keeping, where the number of cells below is the same.
hold_kept : {B : Type 0} (cells : B → List ℕ) {sound : B → Type 0} {outside : B → List (List ℕ)} {fixed : B → List ℕ} {h h' : HoldBack B} → length (cells h'.below) ≡ length (cells h.below) → (SoundHeld (length (cells h.below)) (held_by h) → SoundHeld (length (cells h.below)) (held_by h')) → Preserved sound outside fixed h.below h'.below → Preserved (HoldSound sound cells) (λ (k : HoldBack B). outside k.below) (λ (k : HoldBack B). fixed k.below) h h'
hold_kept cells same fit kept = grind arith

-- A hold-back m that was asked and holds what h does.
pub asked : {B : Type 0} {cells : B → List ℕ} {idles : B → B → Type 0} {h m : HoldBack B} → held_by m ≡ held_by h → cells m.below ≡ cells h.below → idles h.below m.below → HoldIdles cells idles h m
asked held same idle = record { same_held = held; same_below = same; way = more idle none }

-- A hold-back h' after a granted write to h: it was asked, and then, as m, it sent down what had no room and held the cell.
module _ {B : Type 0} (cells : B → List ℕ) (idles : B → B → Type 0) (takes : B → ℕ → ℕ → B → Type 0) (sound : B → Type 0) (outside : B → List (List ℕ)) (fixed : B → List ℕ) (h m h' : HoldBack B) (i v : ℕ) where
  -- What a hold-back promises of a write, for one that is granted.
  pub record Taken : Type 0 where
    pub value : granted tt ≡ writing (held_over cells h) i
    pub after : held_over cells h' ≡ written (held_over cells h) i v
    pub kept : Preserved (HoldSound sound cells) (λ (k : HoldBack B). outside k.below) (λ (k : HoldBack B). fixed k.below) h h'
    pub moved : MovedBy (held_over cells) (HoldIdles cells idles) (HoldTakes cells idles (MovedBy cells idles takes)) h i v h'

  module _ (word : FitsWord v) (within : i < length (cells h.below)) (held : held_by m ≡ held_by h) (same : cells m.below ≡ cells h.below) (kept : Preserved sound outside fixed h.below m.below) (idle : idles h.below m.below) where
    taken : held_by h' ≡ stored (held_by m) i v → cells h'.below ≡ replaced (overflow (held_by m) i) (cells m.below) → Preserved sound outside fixed m.below h'.below → Sent (MovedBy cells idles takes) m.below (overflow (held_by m) i) h'.below → Taken
    taken stores below kept' sent =
        let hs = held_by h in
        let xs = cells h.below in
        let now_held : held_by h' ≡ stored hs i v = stores ∙ ap (λ ks. stored ks i v) held in
        let now_below : cells h'.below ≡ replaced (overflow hs i) xs = below ∙ ap (λ ks. replaced (overflow ks i) (cells m.below)) held ∙ ap (replaced (overflow hs i)) same in
        let size : length (cells h'.below) ≡ length xs = grind (arith, length-replaced) in
        record {
          value = grind (arith, length-replaced);
          after = grind (arith, stored_cells, length-replaced);
          kept = hold_kept cells size (λ f. subst (SoundHeld (length xs)) (sym now_held) (stored_sound (length xs) hs i v within word f)) (preserved_then kept kept');
          moved = (λ _. record { now_held = now_held; now_below = now_below; way = (m.below, more idle none, subst (λ ks. Sent (MovedBy cells idles takes) m.below (overflow ks i) h'.below) held sent) }, λ le. absurd (grind (arith, length-replaced)));
        }

    -- The same, where it is known at which place the cell is held, if at any.
    pub taken_at : (o : Option ℕ) → place_of (held_by m) i ≡ o → held_by h' ≡ stored_at o (held_by m) (held_cell i v) → cells h'.below ≡ replaced (overflow_at o (held_by m)) (cells m.below) → Preserved sound outside fixed m.below h'.below → Sent (MovedBy cells idles takes) m.below (overflow_at o (held_by m)) h'.below → Taken
    taken_at o place = subst (λ p. held_by h' ≡ stored_at p (held_by m) (held_cell i v) → cells h'.below ≡ replaced (overflow_at p (held_by m)) (cells m.below) → Preserved sound outside fixed m.below h'.below → Sent (MovedBy cells idles takes) m.below (overflow_at p (held_by m)) h'.below → Taken) place taken
