-- What a write leaves of a list of cells. Assumes nothing.
use Rattle.std.proofs.Common.{◌≡◌, ℕ, List, set, arith}
use Rattle.std.proofs.lemmas.List.{set_past}
use Rattle.bank.specs.Cells.{written}

-- Past the end nothing is set, so that one equation says what a write leaves.
pub written_set : (cells : List ℕ) (i v : ℕ) → written cells i v ≡ set cells i v
written_set cells i v = grind (arith, set_past)
