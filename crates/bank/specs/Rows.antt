-- The cells of a row of words. Assumes nothing.
use Rattle.std.specs.Prelude.{◌≡◌, ℕ, ◌≤◌, Bool, true, cond, ◌&&◌, List, [], length, nat_le}
use Rattle.std.proofs.Common.{arith}
use Rattle.std.proofs.lemmas.Bool.{cond_both, and_parts, leb-true}
use Rattle.refusal.specs.Labels.{Reply, granted, declined}
use Rattle.bank.specs.Cells.{FitWords}

-- The lengths that a row may have.
abbrev pub admitted : ℕ → Bool
admitted n = nat_le 1 n && nat_le n 4048

-- The reply to the question whether a row of that length may be a bank.
abbrev pub admitting : ℕ → Reply Unit
admitting n = cond (admitted n) (granted tt) (declined 8 [])

-- An admitted row's words are the cells; any other row has none.
abbrev pub row_cells : List ℕ → List ℕ
row_cells row = cond (admitted (length row)) row []

-- The words of a row that are no cells: none of an admitted row.
abbrev pub row_outside : List ℕ → List ℕ
row_outside row = cond (admitted (length row)) [] row

-- A row that can be a bank.
pub record SoundRow (row : List ℕ) : Type 0 where
  pub length_right : admitted (length row) ≡ true
  pub fitting : FitWords row

pub admitted_few : (n : ℕ) → admitted n ≡ true → n ≤ 4048
admitted_few n e = leb-true n 4048 (and_parts (nat_le 1 n) (nat_le n 4048) e).1

pub row_few : (row : List ℕ) → length (row_cells row) ≤ 4048
row_few row = cond_both (admitted (length row)) row [] (λ cells. length cells ≤ 4048) (admitted_few (length row)) (λ _. omega arith)

pub row_words : (row : List ℕ) → SoundRow row → FitWords (row_cells row)
row_words row s = rw s.length_right s.fitting
