-- Cases worked by hand, as a user would make them. Assumes nothing.
use Rattle.std.specs.Prelude.{◌≡◌, ℕ, zero, suc, List, [], ◌∷◌, ◌++◌, replicate, slice_index_or}
use Rattle.refusal.specs.Labels.{granted, declined}
use Rattle.bank.specs.Spans.{spanning}
use Rattle.rule.specs.Verdicts.{closer_wins, newcomer_yields, oldest_stands}
use Rattle.rule.specs.declared.Contact.{Contact}
use Rattle.rule.specs.declared.Verdict.{Verdict}
use Rattle.machine.specs.Machine.{fresh, step, Call, Answer, open_by, read_by, write_by, close_by, cancel_by, opened_as, value, ok, committed_as, yields, refused}
use Rattle.machine.specs.Runs.{run}

-- the answers to the calls, and the cells after them, of an engine over n cells that all begin at 0
abbrev pub answers : (Contact → Verdict) → ℕ → List Call → List Answer
answers v n calls = (run (step v) (fresh (replicate n 0)) calls).0

abbrev pub cells_after : (Contact → Verdict) → ℕ → List Call → List ℕ
cells_after v n calls = (run (step v) (fresh (replicate n 0)) calls).1.cells

-- client 1 commits a write of the cell that client 0 has read; client 0 begins again
abbrev pub session : List Call
session = open_by 0 ∷ open_by 1 ∷ read_by 0 2 ∷ write_by 1 2 7 ∷ close_by 1 ∷ write_by 0 3 9 ∷ open_by 0 ∷ read_by 0 2 ∷ write_by 0 3 9 ∷ close_by 0 ∷ read_by 0 2 ∷ []

-- two transactions write one cell that neither has read
abbrev pub two_writers : List Call
two_writers = open_by 0 ∷ open_by 1 ∷ write_by 0 5 10 ∷ write_by 1 5 20 ∷ close_by 1 ∷ close_by 0 ∷ []

-- the younger writes what the elder has read
abbrev pub younger_writes : List Call
younger_writes = open_by 0 ∷ open_by 1 ∷ read_by 0 4 ∷ write_by 1 4 9 ∷ close_by 1 ∷ close_by 0 ∷ []

-- the client c reads n cells from x on
abbrev pub reads_up : ℕ → ℕ → ℕ → List Call
reads_up c x zero = []
reads_up c x (suc n) = read_by c x ∷ reads_up c (suc x) n

-- 64 cells, a 65th, and the 64th again
abbrev pub many_cells : List Call
many_cells = open_by 0 ∷ (reads_up 0 0 64 ++ (read_by 0 64 ∷ read_by 0 63 ∷ []))

-- client 1 writes cells 6 and 4, in this order, and client 0 has read both
abbrev pub two_contacts : List Call
two_contacts = open_by 0 ∷ open_by 1 ∷ read_by 0 4 ∷ read_by 0 6 ∷ write_by 1 6 1 ∷ write_by 1 4 1 ∷ close_by 1 ∷ []

-- client 1 writes what the elder client 0 and the younger client 2 have read
abbrev pub between : List Call
between = open_by 0 ∷ open_by 1 ∷ open_by 2 ∷ read_by 0 4 ∷ read_by 2 5 ∷ write_by 1 4 7 ∷ write_by 1 5 7 ∷ close_by 1 ∷ close_by 2 ∷ []

pub record WorkedCases : Type 0 where
  pub session_under_closer_wins : answers closer_wins 8 session ≡ opened_as 1 ∷ opened_as 2 ∷ value 0 ∷ ok ∷ committed_as 1 ∷ yields 1 2 ∷ opened_as 3 ∷ value 7 ∷ ok ∷ committed_as 2 ∷ refused 4 ∷ []
  pub session_cells : cells_after closer_wins 8 session ≡ 0 ∷ 0 ∷ 7 ∷ 9 ∷ 0 ∷ 0 ∷ 0 ∷ 0 ∷ []
  pub session_under_newcomer_yields : answers newcomer_yields 8 session ≡ opened_as 1 ∷ opened_as 2 ∷ value 0 ∷ yields 0 2 ∷ refused 4 ∷ ok ∷ refused 2 ∷ value 0 ∷ ok ∷ committed_as 1 ∷ refused 4 ∷ []
  pub both_writers_commit : answers closer_wins 8 two_writers ≡ opened_as 1 ∷ opened_as 2 ∷ ok ∷ ok ∷ committed_as 1 ∷ committed_as 2 ∷ []
  pub later_close_stands : slice_index_or (cells_after closer_wins 8 two_writers) 5 0 ≡ 10
  pub younger_closer_yields : answers oldest_stands 8 younger_writes ≡ opened_as 1 ∷ opened_as 2 ∷ value 0 ∷ ok ∷ yields 0 4 ∷ committed_as 1 ∷ []
  pub empty_commit : answers closer_wins 8 (open_by 3 ∷ close_by 3 ∷ []) ≡ opened_as 1 ∷ committed_as 1 ∷ []
  pub clients_7_and_8 : answers closer_wins 8 (open_by 7 ∷ open_by 8 ∷ []) ≡ opened_as 1 ∷ refused 1 ∷ []
  pub cells_7_and_8 : answers closer_wins 8 (open_by 0 ∷ read_by 0 7 ∷ read_by 0 8 ∷ []) ≡ opened_as 1 ∷ value 0 ∷ refused 6 ∷ []
  pub entries_64_and_65 : answers closer_wins 70 many_cells ≡ opened_as 1 ∷ (replicate 64 (value 0) ++ (refused 7 ∷ value 0 ∷ []))
  -- a 5 names the first client, and its first cell in the order of the caller's table; a mark has the caller and the first cell
  pub first_client_named : answers newcomer_yields 8 (open_by 0 ∷ open_by 1 ∷ open_by 2 ∷ read_by 1 3 ∷ read_by 2 3 ∷ write_by 0 3 5 ∷ []) ≡ opened_as 1 ∷ opened_as 2 ∷ opened_as 3 ∷ value 0 ∷ value 0 ∷ yields 1 3 ∷ []
  pub first_cell_named : answers oldest_stands 8 two_contacts ≡ opened_as 1 ∷ opened_as 2 ∷ value 0 ∷ value 0 ∷ ok ∷ ok ∷ yields 0 6 ∷ []
  pub mark_with_first_cell : answers closer_wins 8 (two_contacts ++ (open_by 0 ∷ cancel_by 0 ∷ [])) ≡ opened_as 1 ∷ opened_as 2 ∷ value 0 ∷ value 0 ∷ ok ∷ ok ∷ committed_as 1 ∷ refused 2 ∷ yields 1 6 ∷ []
  -- a caller that yields marks nobody
  pub yield_marks_nobody : answers oldest_stands 8 between ≡ opened_as 1 ∷ opened_as 2 ∷ opened_as 3 ∷ value 0 ∷ value 0 ∷ ok ∷ ok ∷ yields 0 4 ∷ committed_as 1 ∷ []
  -- the read of a cell that is written later counts
  pub read_before_write_counts : answers closer_wins 8 (open_by 0 ∷ open_by 1 ∷ read_by 0 2 ∷ write_by 0 2 5 ∷ write_by 1 2 7 ∷ close_by 1 ∷ close_by 0 ∷ []) ≡ opened_as 1 ∷ opened_as 2 ∷ value 0 ∷ ok ∷ ok ∷ committed_as 1 ∷ yields 1 2 ∷ []
  -- an own write is read again, and a cancel forgets it
  pub own_write_read : answers closer_wins 8 (open_by 0 ∷ read_by 0 2 ∷ write_by 0 2 5 ∷ read_by 0 2 ∷ cancel_by 0 ∷ open_by 0 ∷ read_by 0 2 ∷ []) ≡ opened_as 1 ∷ value 0 ∷ ok ∷ value 5 ∷ ok ∷ opened_as 2 ∷ value 0 ∷ []
  pub window_of_length_0 : spanning 4048 0 ≡ granted (4048, 0)
  pub window_of_length_1 : spanning 4048 1 ≡ declined 12 []
