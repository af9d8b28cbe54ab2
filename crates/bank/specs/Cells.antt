-- What a bank's calls reply and leave, by its list of cells. Assumes nothing.
use Rattle.std.specs.Prelude.{◌≡◌, ℕ, ◌<◌, ◌≤◌, cond, List, All, [], length, nat_lt, slice_index, slice_set}
use Rattle.refusal.specs.Labels.{Reply, granted, declined}

-- What a cell can hold: a word of 16 bits.
abbrev pub FitsWord : ℕ → Type 0
FitsWord n = n ≤ 65535

abbrev pub FitWords : List ℕ → Type 0
FitWords cells = All FitsWord cells

-- The reply to a read: the cell, or 6 where there is none of that number.
abbrev pub reading : List ℕ → ℕ → Reply ℕ
reading cells i = cond (nat_lt i (length cells)) (granted (slice_index cells i)) (declined 6 [])

-- The reply to a write.
abbrev pub writing : List ℕ → ℕ → Reply Unit
writing cells i = cond (nat_lt i (length cells)) (granted tt) (declined 6 [])

-- The cells after a write: one replaced, or, where it is declined, all as they were.
abbrev pub written : List ℕ → ℕ → ℕ → List ℕ
written cells i v = cond (nat_lt i (length cells)) (slice_set cells i v) cells

-- What every call keeps: soundness, the memory that is not among the cells, and how the layers lie on which memory.
pub record Preserved {S : Type 0} (sound : S → Type 0) (outside : S → List (List ℕ)) (fixed : S → List ℕ) (b b' : S) : Type 0 where
  pub soundness : sound b → sound b'
  pub unmoved : outside b' ≡ outside b
  pub unaltered : fixed b' ≡ fixed b

-- A write that is granted takes the value in; one that is declined does no more than a read.
abbrev pub MovedBy : {S : Type 0} → (S → List ℕ) → (S → S → Type 0) → (S → ℕ → ℕ → S → Type 0) → S → ℕ → ℕ → S → Type 0
MovedBy cells idles takes b i v b' = (i < length (cells b) → takes b i v b') × (length (cells b) ≤ i → idles b b')

-- Some steps one after another, or none.
pub data Star {S : Type 0} (R : S → S → Type 0) : S → S → Type 0 where
  none : {a : S} → Star R a a
  more : {a b c : S} → R a b → Star R b c → Star R a c
