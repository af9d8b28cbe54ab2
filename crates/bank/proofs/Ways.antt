-- One call after another. Assumes nothing.
use Rattle.std.proofs.Common.{◌≡◌, ℕ, suc, ◌<◌, List, All, ◌∷◌, length, sym, ap, ◌∙◌, subst, arith}
use Rattle.bank.specs.declared.hold_back.HeldCell.{HeldCell}
use Rattle.bank.specs.Cells.{written, Preserved, MovedBy}
use Rattle.bank.specs.Holding.{replaced, length-replaced, FitsBelow, SoundHeld, Sent}
use Rattle.bank.proofs.Replies.{written_set}

pub preserved_then : {S : Type 0} {sound : S → Type 0} {outside : S → List (List ℕ)} {fixed : S → List ℕ} {a b c : S} → Preserved sound outside fixed a b → Preserved sound outside fixed b c → Preserved sound outside fixed a c
preserved_then p q = grind arith

-- ---- a list of writes, sent one after another
module _ {B : Type 0} (cells : B → List ℕ) (idles : B → B → Type 0) (takes : B → ℕ → ℕ → B → Type 0) where
  abbrev moved : B → ℕ → ℕ → B → Type 0
  moved = MovedBy cells idles takes

  -- What the rest of the list does from here, all of it does from the start.
  pub record Sending (start : B) (hs : List HeldCell) (now : B) (rest : List HeldCell) : Type 0 where
    pub same : replaced rest (cells now) ≡ replaced hs (cells start)
    pub way : (b : B) → Sent moved now rest b → Sent moved start hs b
    pub all_taken : SoundHeld (length (cells start)) hs → All (FitsBelow (length (cells start))) rest × ((b : B) → Sent takes now rest b → Sent takes start hs b)

  pub sending_size : {start : B} {hs : List HeldCell} {now : B} {rest : List HeldCell} → Sending start hs now rest → length (cells now) ≡ length (cells start)
  sending_size s = grind (arith, length-replaced)

  pub sending_more : {start : B} {hs : List HeldCell} {now : B} {rest : List HeldCell} (h : HeldCell) {later : List HeldCell} {last : B} → rest ≡ h ∷ later → cells last ≡ written (cells now) h.cell h.value → moved now h.cell h.value last → Sending start hs now rest → Sending start hs last later
  sending_more {start} {hs} {now} {rest} h {later} {last} e after m sending =
      let s : Sending start hs now (h ∷ later) = subst (λ ks. Sending start hs now ks) e sending in
      let size = sending_size s in
      record {
        same = ap (replaced later) (after ∙ written_set (cells now) h.cell h.value) ∙ s.same;
        way = λ b t. s.way b (last, m, t);
        all_taken = λ sound. let k = s.all_taken sound in (λ j d lt. k.0 (suc j) d (omega arith), λ b t. k.1 b (last, m.0 (subst (λ n. h.cell < n) (sym size) (k.0 0 h (omega arith)).0), t));
      }
