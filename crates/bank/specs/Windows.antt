-- The cells that a window shows. Assumes nothing.
use Rattle.std.specs.Prelude.{◌≡◌, ℕ, ◌+◌, ◌≤◌, List, ◌∷◌, length, take, drop}
use Rattle.std.proofs.Common.{arith, length-take}
use Rattle.std.proofs.lemmas.List.Elements.{All-take, All-drop}
use Rattle.bank.specs.declared.window.Window.{Window}
use Rattle.bank.specs.Cells.{FitsWord, FitWords, Star}

-- The cells from the first on, at most n many, fewer where they end.
abbrev pub windowed : ℕ → ℕ → List ℕ → List ℕ
windowed first n cells = take n (drop first cells)

-- The cells before the window, those after it, and what the bank below leaves out.
abbrev pub beside : ℕ → ℕ → List ℕ → List (List ℕ) → List (List ℕ)
beside first n cells outside = take first cells ∷ drop (first + n) cells ∷ outside

-- How a window stands after a call that wrote nothing.
pub record WindowIdles {B : Type 0} (idles : B → B → Type 0) (w w' : Window B) : Type 0 where
  pub same_span : w'.span ≡ w.span
  pub way : Star idles w.below w'.below

-- How it stands after a granted write: the bank below took it, at its own number.
pub record WindowTakes {B : Type 0} (takes : B → ℕ → ℕ → B → Type 0) (w : Window B) (i v : ℕ) (w' : Window B) : Type 0 where
  pub same_span : w'.span ≡ w.span
  pub way : takes w.below (w.span.first + i) v w'.below

pub windowed_few : (first n : ℕ) (cells : List ℕ) → first + n ≤ 4048 → length (windowed first n cells) ≤ 4048
windowed_few first n cells fits = simp length-take (omega arith)

pub windowed_words : (first n : ℕ) (cells : List ℕ) → FitWords cells → FitWords (windowed first n cells)
windowed_words first n cells w = All-take FitsWord n (drop first cells) (All-drop FitsWord first cells w)
