-- Held cells: where one is, and what they do to the cells below. Assumes nothing.
use Rattle.std.proofs.Common.{◌≡◌, ℕ, zero, suc, ◌<◌, ◌≢◌, Bool, true, false, cond, ltb, List, [], ◌∷◌, ◌++◌, length, get_or, set, Some, None, Option, All, MatchOption, sym, refl, arith, length-set, get_or-set_other, get_or-set_same, set-set}
use Rattle.std.proofs.lemmas.List.Elements.{All-nil, All-set, All-push}
use Rattle.std.specs.List.{HoldsAt}
use lib.Seq.{set_comm}
use Rattle.refusal.specs.Labels.{granted}
use Rattle.bank.specs.declared.hold_back.HeldCell.{HeldCell}
use Rattle.bank.specs.Cells.{FitsWord, reading}
use Rattle.bank.specs.Holding.{held_cell, place_of, replaced, length-replaced, staying, stored_at, stored, overflow, Apart, FitsBelow, SoundHeld}

-- ---- the search for the newest
-- The last place at which the cell stands, if any.
abbrev pub IsNewest : List HeldCell → ℕ → Option ℕ → Type 0
IsNewest hs cell r = MatchOption r (All (λ (h : HeldCell). h.cell ≢ cell) hs) (λ i. HoldsAt (λ (h : HeldCell). h.cell ≡ cell) hs i × ((k : ℕ) → i < k → k < length hs → HoldsAt (λ (h : HeldCell). h.cell ≢ cell) hs k))

absent : (hs : List HeldCell) (cell : ℕ) → All (λ (h : HeldCell). h.cell ≢ cell) hs → place_of hs cell ≡ None
absent [] cell a = refl
absent (h ∷ hs) cell a = grind (arith, absent hs cell (λ k d lt. a (suc k) d (omega arith)), a 0 h (omega arith))

pub newest_place : (hs : List HeldCell) (cell : ℕ) (r : Option ℕ) → IsNewest hs cell r → r ≡ place_of hs cell
newest_place hs cell None a = sym (absent hs cell a)
newest_place [] cell (Some i) f = absurd (let z = f.0 (held_cell (suc cell) 0) in omega arith)
newest_place (h ∷ hs) cell (Some zero) f = grind (arith, absent hs cell (λ k d lt. f.1 (suc k) (omega arith) (omega arith) d), f.0 h)
newest_place (h ∷ hs) cell (Some (suc i)) f = grind (arith, newest_place hs cell (Some i) (f.0, λ k lt below. f.1 (suc k) (omega arith) (omega arith)))

-- ---- what is held, seen in the cells
replaced_append : (hs ks : List HeldCell) (cells : List ℕ) → replaced (hs ++ ks) cells ≡ replaced ks (replaced hs cells)
replaced_append [] ks cells = refl
replaced_append (h ∷ hs) ks cells = replaced_append hs ks (set cells h.cell h.value)

absent_cell : (hs : List HeldCell) (cells : List ℕ) (cell : ℕ) → place_of hs cell ≡ None → get_or (replaced hs cells) cell 0 ≡ get_or cells cell 0
absent_cell [] cells cell e = refl
absent_cell (h ∷ hs) cells cell e = grind (arith, absent_cell hs, get_or-set_other)

absent_set : (hs : List HeldCell) (cells : List ℕ) (cell v : ℕ) → place_of hs cell ≡ None → replaced hs (set cells cell v) ≡ set (replaced hs cells) cell v
absent_set [] cells cell v e = refl
absent_set (h ∷ hs) cells cell v e = grind (arith, absent_set hs, set_comm)

found_cell : (hs : List HeldCell) (cells : List ℕ) (cell i : ℕ) (d : HeldCell) → place_of hs cell ≡ Some i → cell < length cells → get_or (replaced hs cells) cell 0 ≡ (get_or hs i d).value
found_cell [] cells cell i d e lt = grind arith
found_cell (h ∷ hs) cells cell zero d e lt = grind (arith, absent_cell hs, get_or-set_same)
found_cell (h ∷ hs) cells cell (suc i) d e lt = grind (arith, found_cell hs (set cells h.cell h.value) cell i d, length-set)

found_set : (hs : List HeldCell) (cells : List ℕ) (cell i v : ℕ) → place_of hs cell ≡ Some i → replaced (set hs i (held_cell cell v)) cells ≡ set (replaced hs cells) cell v
found_set [] cells cell i v e = grind arith
found_set (h ∷ hs) cells cell zero v e = grind (arith, absent_set hs, set-set)
found_set (h ∷ hs) cells cell (suc i) v e = grind (arith, found_set hs (set cells h.cell h.value) cell i v)

-- The reply to a read of a held cell, and of one that is not held.
pub found_reading : (hs : List HeldCell) (cells : List ℕ) (cell i : ℕ) (d : HeldCell) → place_of hs cell ≡ Some i → cell < length cells → granted (get_or hs i d).value ≡ reading (replaced hs cells) cell
found_reading hs cells cell i d e lt = grind (arith, found_cell, length-replaced)

pub absent_reading : (hs : List HeldCell) (cells : List ℕ) (cell : ℕ) → place_of hs cell ≡ None → reading cells cell ≡ reading (replaced hs cells) cell
absent_reading hs cells cell e = grind (arith, absent_cell, length-replaced)

-- What the check needs to know of a hold-back: as many cells as below, and what a read of a held cell and of another replies.
pub ruleset held_replies = (length-replaced, found_reading, absent_reading)

-- ---- no cell is held twice, after a write either
place_set : (hs : List HeldCell) (cell i v d : ℕ) → place_of hs cell ≡ Some i → place_of (set hs i (held_cell cell v)) d ≡ place_of hs d
place_set [] cell i v d e = grind arith
place_set (h ∷ hs) cell zero v d e = grind arith
place_set (h ∷ hs) cell (suc i) v d e = grind (arith, place_set hs cell i v d)

apart_set : (hs : List HeldCell) (cell i v : ℕ) → place_of hs cell ≡ Some i → Apart hs → Apart (set hs i (held_cell cell v))
apart_set [] cell i v e a = tt
apart_set (h ∷ hs) cell zero v e a = grind arith
apart_set (h ∷ hs) cell (suc i) v e a = grind (arith, place_set hs cell i v h.cell, apart_set hs cell i v)

place_push : (hs : List HeldCell) (cell v d : ℕ) → cell ≢ d → place_of hs d ≡ None → place_of (hs ++ held_cell cell v ∷ []) d ≡ None
place_push [] cell v d ne e = grind arith
place_push (h ∷ hs) cell v d ne e = grind (arith, place_push hs cell v d)

apart_push : (hs : List HeldCell) (cell v : ℕ) → place_of hs cell ≡ None → Apart hs → Apart (hs ++ held_cell cell v ∷ [])
apart_push [] cell v e a = (refl, tt)
apart_push (h ∷ hs) cell v e a = grind (arith, place_push hs cell v h.cell, apart_push hs cell v)

-- ---- a write
-- What is held and what went down make up the write.
pub stored_cells : (hs : List HeldCell) (cells : List ℕ) (i v : ℕ) → replaced (stored hs i v) (replaced (overflow hs i) cells) ≡ set (replaced hs cells) i v
stored_cells hs cells i v = grind (arith, found_set, replaced_append)

stays_sound : (b : Bool) (n : ℕ) (hs : List HeldCell) → SoundHeld n hs → SoundHeld n (cond b hs [])
stays_sound true n hs s = s
stays_sound false n hs s = record { fit = All-nil (FitsBelow n); apart = tt }

stored_sound_at : (o : Option ℕ) (n : ℕ) (hs : List HeldCell) (i v : ℕ) → place_of hs i ≡ o → i < n → FitsWord v → SoundHeld n hs → SoundHeld n (stored_at o hs (held_cell i v))
stored_sound_at (Some k) n hs i v e lt w s = record { fit = All-set (FitsBelow n) hs k (held_cell i v) (lt, w) s.fit; apart = apart_set hs i k v e s.apart }
stored_sound_at None n hs i v e lt w s =
    let t = stays_sound (ltb (length hs) 8) n hs s in
    record { fit = All-push (FitsBelow n) (staying hs) (held_cell i v) t.fit (lt, w); apart = apart_push (staying hs) i v (grind arith) t.apart }

pub stored_sound : (n : ℕ) (hs : List HeldCell) (i v : ℕ) → i < n → FitsWord v → SoundHeld n hs → SoundHeld n (stored hs i v)
stored_sound n hs i v = stored_sound_at (place_of hs i) n hs i v refl
