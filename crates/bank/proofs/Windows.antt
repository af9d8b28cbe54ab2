-- Calls through a window. Assumes nothing.
use Rattle.std.proofs.Common.{◌≡◌, ℕ, ◌+◌, ◌<◌, ◌≤◌, List, length, take, drop, set, ap, ◌∙◌, arith, length-drop, length-take}
use lib.Seq.{take-set-lt, drop-set-add}
use Rattle.bank.specs.Windows.{windowed}

pub set_window : (cells : List ℕ) (f n i v : ℕ) → i < n → windowed f n (set cells (f + i) v) ≡ set (windowed f n cells) i v
set_window cells f n i v h = ap (take n) (drop-set-add f cells i v) ∙ take-set-lt n (drop f cells) i v h

pub inside_window : (cells : List ℕ) (f n i : ℕ) → i < length (windowed f n cells) → f + i < length cells
inside_window cells f n i lt = omega (arith, length-take n (drop f cells), length-drop f cells)

pub beyond_window : (cells : List ℕ) (f n i : ℕ) → i < n → length (windowed f n cells) ≤ i → length cells ≤ f + i
beyond_window cells f n i h le = omega (arith, length-take n (drop f cells), length-drop f cells)
