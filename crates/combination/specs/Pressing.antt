-- Values written over a list of cells, all of them or none. Assumes nothing.
use Rattle.std.specs.Prelude.{◌≡◌, ℕ, ◌+◌, Bool, true, false, cond, ◌&&◌, List, [], ◌∷◌, ◌++◌, length, take, drop, nat_le}
use Rattle.refusal.specs.Labels.{Reply, granted, declined}
use Rattle.bank.specs.declared.HeldCell.{HeldCell}
use Rattle.bank.specs.Cells.{Star}
use Rattle.bank.specs.Holding.{held_cell, Sent}
use Rattle.bank.specs.Rows.{admitted}
use Rattle.bank.specs.Windows.{windowed}
use Rattle.combination.specs.declared.windows.Windows.{Windows}

-- The cells with the values in the place of those from the given one on.
abbrev pub overwritten : ℕ → List ℕ → List ℕ → List ℕ
overwritten at values cells = take at cells ++ (values ++ drop (at + length values) cells)

-- There are no fewer cells than values.
abbrev pub enough : List ℕ → List ℕ → Bool
enough values cells = nat_le (length values) (length cells)

-- The reply to a pressing, and the cells after it.
abbrev pub pressing : List ℕ → List ℕ → Reply Unit
pressing values cells = cond (enough values cells) (granted tt) (declined 6 [])

abbrev pub pressed : List ℕ → List ℕ → List ℕ
pressed values cells = cond (enough values cells) (overwritten 0 values cells) cells

-- The values as writes, to one cell after another from the given one on.
abbrev pub writes_from : ℕ → List ℕ → List HeldCell
writes_from at [] = []
writes_from at (v ∷ vs) = held_cell at v ∷ writes_from (at + 1) vs

-- How a bank stands after a pressing: it was asked something at most, and then, where there are enough cells, took the writes in order.
pub record PressWay {B : Type 0} (idles : B → B → Type 0) (moves : B → ℕ → ℕ → B → Type 0) (wrote : Bool) (values : List ℕ) (b b' : B) : Type 0 where
  pub writes : wrote ≡ true → (m : B) × Star idles b m × Sent moves m (writes_from 0 values) b'
  pub asks : wrote ≡ false → Star idles b b'

-- The cells that the outer window shows.
abbrev pub seen_through : Windows → List ℕ → List ℕ
seen_through w cells = windowed w.outer.first w.outer.length (windowed w.inner.first w.inner.length cells)

-- The same on a row, which must be of an admitted length.
abbrev pub row_enough : Windows → List ℕ → List ℕ → Bool
row_enough w values row = admitted (length row) && enough values (seen_through w row)

abbrev pub row_pressing : Windows → List ℕ → List ℕ → Reply Unit
row_pressing w values row = cond (admitted (length row)) (pressing values (seen_through w row)) (declined 8 [])

abbrev pub row_pressed : Windows → List ℕ → List ℕ → List ℕ
row_pressed w values row = cond (row_enough w values row) (overwritten (w.inner.first + w.outer.first) values row) row
