-- Where a window may lie. Assumes nothing.
use Rattle.std.specs.Prelude.{ℕ, ◌+◌, cond, [], nat_le}
use Rattle.refusal.specs.Labels.{Reply, granted, declined}

-- A window's first cell and its length, granted where together they are at most 4,048.
abbrev pub spanning : ℕ → ℕ → Reply (ℕ × ℕ)
spanning first n = cond (nat_le (first + n) 4048) (granted (first, n)) (declined 12 [])
