-- A place of a list, by a number that may lie past its end. Assumes nothing.
use Rattle.std.proofs.Common.{◌≡◌, ℕ, zero, suc, List, [], ◌∷◌, get_or, replicate, refl}
use Rattle.std.specs.List.{AllByRecursion}

pub all_places : {X : Type 0} (P : X → Type 0) (xs : List X) (i : ℕ) (d : X) → P d → AllByRecursion P xs → P (get_or xs i d)
all_places P [] i d p h = p
all_places P (x ∷ xs) zero d p h = h.0
all_places P (x ∷ xs) (suc i) d p h = all_places P xs i d p h.1

pub same_places : {X : Type 0} (n i : ℕ) (x : X) → get_or (replicate n x) i x ≡ x
same_places zero i x = refl
same_places (suc n) zero x = refl
same_places (suc n) (suc i) x = same_places n i x
