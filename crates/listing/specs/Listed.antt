-- What a listing writes.
use Rattle.std.specs.Prelude.{ℕ, List, [], ◌∷◌, codes, Option, Some}
use Rattle.std.specs.Fmt.{◌++?◌}

-- Each item after a space, where `out` says what an item writes; nothing is said if an item does not say it.
abbrev pub each_after_a_space : {T : Type 0} → (T → Option (List ℕ)) → List T → Option (List ℕ)
each_after_a_space out [] = Some []
each_after_a_space out (x ∷ xs) = Some (codes " ") ++? out x ++? each_after_a_space out xs
