-- Cells held back over a bank below. Assumes nothing.
use Rattle.std.specs.Prelude.{◌≡◌, ℕ, suc, ◌<◌, ◌≤◌, Bool, cond, List, All, [], ◌∷◌, ◌++◌, length, Some, None, Option, ◌==◌, nat_lt, slice_set, codes, decimal, refl}
use Rattle.std.proofs.Common.{◌∙◌, arith, length-set}
use Rattle.std.specs.List.{FoldsTo}
use Rattle.std.proofs.lemmas.List.Elements.{All-set}
use Rattle.bank.specs.declared.hold_back.HeldCell.{HeldCell}
use Rattle.bank.specs.declared.hold_back.HoldBack.{HoldBack}
use Rattle.bank.specs.Cells.{FitsWord, FitWords, Star, MovedBy}

-- A cell with the value held for it.
abbrev pub held_cell : ℕ → ℕ → HeldCell
held_cell cell value = record { cell = cell; value = value }

-- How a held cell is written: 3=17 for the value 17 of cell 3.
unfoldable pub held_text : HeldCell → List ℕ
held_text h = decimal h.cell ++ (codes "=" ++ decimal h.value)

-- The held cells, in the order in which they came.
abbrev pub held_by : {B : Type 0} → HoldBack B → List HeldCell
held_by h = h.held.items

-- The cells with the held ones replaced, the oldest first.
abbrev pub replaced : List HeldCell → List ℕ → List ℕ
replaced [] cells = cells
replaced (h ∷ hs) cells = replaced hs (slice_set cells h.cell h.value)

-- The cells that a hold-back means.
abbrev pub held_over : {B : Type 0} → (B → List ℕ) → HoldBack B → List ℕ
held_over cells h = replaced (held_by h) (cells h.below)

-- A place in a list, seen with one cell more in front, which may be the one sought.
abbrev pub one_in_front : Option ℕ → Bool → Option ℕ
one_in_front (Some i) sought = Some (suc i)
one_in_front None sought = cond sought (Some 0) None

-- The place of the newest value that is held for a cell.
abbrev pub place_of : List HeldCell → ℕ → Option ℕ
place_of [] cell = None
place_of (h ∷ hs) cell = one_in_front (place_of hs cell) (h.cell == cell)

-- What stays held when another cell comes: all while there is room, else nothing.
abbrev pub staying : List HeldCell → List HeldCell
staying hs = cond (nat_lt (length hs) 8) hs []

-- What goes down when another cell comes: nothing while there is room, else all.
abbrev pub surplus : List HeldCell → List HeldCell
surplus hs = cond (nat_lt (length hs) 8) [] hs

-- What is held after a write: a held cell has the new value in its place, any other joins at the end.
abbrev pub stored_at : Option ℕ → List HeldCell → HeldCell → List HeldCell
stored_at (Some i) hs h = slice_set hs i h
stored_at None hs h = staying hs ++ h ∷ []

abbrev pub stored : List HeldCell → ℕ → ℕ → List HeldCell
stored hs cell value = stored_at (place_of hs cell) hs (held_cell cell value)

-- What a write sends down first: nothing for a held cell.
abbrev pub overflow_at : Option ℕ → List HeldCell → List HeldCell
overflow_at (Some i) hs = []
overflow_at None hs = surplus hs

abbrev pub overflow : List HeldCell → ℕ → List HeldCell
overflow hs cell = overflow_at (place_of hs cell) hs

-- What is held after the writes of a list, one after another.
abbrev pub taken_in : List HeldCell → List HeldCell → List HeldCell
taken_in hs [] = hs
taken_in hs (w ∷ ws) = taken_in (stored hs w.cell w.value) ws

-- No cell is held twice.
abbrev pub Apart : List HeldCell → Type 0
Apart [] = Unit {0}
Apart (h ∷ hs) = (place_of hs h.cell ≡ None) × Apart hs

-- The cell is one of n, and its value a word.
abbrev pub FitsBelow : ℕ → HeldCell → Type 0
FitsBelow n h = (h.cell < n) × FitsWord h.value

-- What a sound hold-back holds over a bank of n cells: words for cells that are there, each of them once.
pub record SoundHeld (n : ℕ) (hs : List HeldCell) : Type 0 where
  pub fit : All (FitsBelow n) hs
  pub apart : Apart hs

-- A hold-back is sound where the bank below is, and what it holds.
abbrev pub HoldSound : {B : Type 0} → (B → Type 0) → (B → List ℕ) → HoldBack B → Type 0
HoldSound sound cells h = sound h.below × SoundHeld (length (cells h.below)) (held_by h)

-- The writes of the list, one after another, lead from the one bank to the other.
abbrev pub Sent : {B : Type 0} → (B → ℕ → ℕ → B → Type 0) → B → List HeldCell → B → Type 0
Sent moves b hs b' = FoldsTo (λ p (h : HeldCell) q. moves p h.cell h.value q) b hs b'

-- How a hold-back stands after a call that wrote nothing.
pub record HoldIdles {B : Type 0} (cells : B → List ℕ) (idles : B → B → Type 0) (h h' : HoldBack B) : Type 0 where
  pub same_held : held_by h' ≡ held_by h
  pub same_below : cells h'.below ≡ cells h.below
  pub way : Star idles h.below h'.below

-- How it stands after a granted write.
pub record HoldTakes {B : Type 0} (cells : B → List ℕ) (idles : B → B → Type 0) (moves : B → ℕ → ℕ → B → Type 0) (h : HoldBack B) (i v : ℕ) (h' : HoldBack B) : Type 0 where
  pub now_held : held_by h' ≡ stored (held_by h) i v
  pub now_below : cells h'.below ≡ replaced (overflow (held_by h) i) (cells h.below)
  pub way : (b : B) × Star idles h.below b × Sent moves b (overflow (held_by h) i) h'.below

-- What was held has gone down to the bank b, in the order in which it came, and b has the cells that the hold-back meant.
-- Of a sound hold-back every write was granted.
pub record SentDown {B : Type 0} (cells : B → List ℕ) (idles : B → B → Type 0) (takes : B → ℕ → ℕ → B → Type 0) (h : HoldBack B) (b : B) : Type 0 where
  pub now_below : cells b ≡ held_over cells h
  pub way : Sent (MovedBy cells idles takes) h.below (held_by h) b
  pub all_taken : SoundHeld (length (cells h.below)) (held_by h) → Sent takes h.below (held_by h) b

pub length-replaced : (hs : List HeldCell) (cells : List ℕ) → length (replaced hs cells) ≡ length cells
length-replaced [] cells = refl
length-replaced (h ∷ hs) cells = length-replaced hs (slice_set cells h.cell h.value) ∙ length-set cells h.cell h.value

pub replaced_few : (hs : List HeldCell) (cells : List ℕ) → length cells ≤ 4048 → length (replaced hs cells) ≤ 4048
replaced_few hs cells few = rw (length-replaced hs cells) few

pub replaced_words : (hs : List HeldCell) (cells : List ℕ) (n : ℕ) → FitWords cells → All (FitsBelow n) hs → FitWords (replaced hs cells)
replaced_words [] cells n w f = w
replaced_words (h ∷ hs) cells n w f = replaced_words hs (slice_set cells h.cell h.value) n (All-set FitsWord cells h.cell h.value (f 0 h (omega arith)).1 w) (λ k d lt. f (suc k) d (omega arith))
