-- What a listing has written after one item more, and in all.
use Rattle.std.proofs.Common.{◌≡◌, ℕ, List, [], ◌∷◌, ◌++◌, Option, Some, Result, codes, append-nil, arith, append_assoc}
use Rattle.std.specs.Prelude.{IfSome, IsOk}
use Rattle.std.specs.Fmt.{HasWritten, DisplaysOnOk, ◌++?◌}
use Rattle.std.specs.declared.fmt.Formatter.{Formatter}
use Rattle.std.specs.declared.fmt.Error.{Error}
use Rattle.std.proofs.Output.{has_written_append}
use Rattle.listing.specs.Listed.{each_after_a_space}

-- The last item comes after the others.
pub one_more : {T : Type 0} (out : T → Option (List ℕ)) (xs : List T) (x : T) → each_after_a_space out (xs ++ x ∷ []) ≡ each_after_a_space out xs ++? (Some (codes " ") ++? out x)
one_more out [] x = grind (arith, append-nil)
one_more out (y ∷ ys) x = grind (arith, one_more out ys x, append_assoc)

module _ {W : Type 0} (took : W → List ℕ → W → Type 0) (f g h : Formatter W) (r : Result (Unit {0}) Error) where
  -- One write after others.
  pub then_written : (o p : Option (List ℕ)) → IsOk r → IfSome o (λ bs. HasWritten took f bs g) → DisplaysOnOk took g r p h → IfSome (o ++? p) (λ bs. HasWritten took f bs h)
  then_written o p ok before now = grind (arith, has_written_append)
