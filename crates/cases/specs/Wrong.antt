-- Machines that differ from the step machine, and rules that keep only one of the laws: each of them breaks a promise.
-- Assumes nothing.
use Rattle.std.specs.Prelude.{ℕ, ◌+◌, cond, List, [], ◌∷◌, map, length, Some, ◌==◌, slice_index, slice_index_or, slice_set}
use Rattle.rule.specs.Verdicts.{Enough, OnlyForCause, closer_wins, newcomer_yields, oldest_stands}
use Rattle.rule.specs.declared.Contact.{Contact}
use Rattle.rule.specs.declared.Verdict.{Verdict}
use Rattle.rule.specs.declared.Verdict.TheVariants.{BothStand, CallerYields}
use Rattle.machine.specs.declared.Entry.{Entry}
use Rattle.machine.specs.Machine.{State, Standing, idle, open_with, marked, Call, open_by, read_by, write_by, close_by, cancel_by, caller_of, Answer, opened_as, value, ok, committed_as, yields, refused, maybe, close_request, mark_from, with_clients, put_standing, by_standing, step}
use Rattle.machine.specs.Log.{Exchange, account_of}
use Rattle.machine.specs.Runs.{Steps, Leads, SerialCommits, ConsistentReads, Changes}
use Rattle.machine.specs.States.{SameTransactions, AccountWithin}

-- ---- the promises, of any machine

abbrev pub CommitsSerially : Steps → Type 0
CommitsSerially m = (start : List ℕ) (log : List Exchange) (s : State) → Leads m start log s → SerialCommits start log s

abbrev pub ReadsConsistently : Steps → Type 0
ReadsConsistently m = (start : List ℕ) (log : List Exchange) (s : State) → Leads m start log s → ConsistentReads start log

abbrev pub ChangesForCause : (Contact → Verdict) → Steps → Type 0
ChangesForCause v m = (start : List ℕ) (log : List Exchange) (s : State) → Leads m start log s → (k : Call) → Changes v s (account_of log) k (m s k).0 (m s k).1

abbrev pub StaysWithin : Steps → Type 0
StaysWithin m = (start : List ℕ) (log : List Exchange) (s : State) → Leads m start log s → AccountWithin (length start) (account_of log)

abbrev pub HoldsWhatIsTold : Steps → Type 0
HoldsWhatIsTold m = (start : List ℕ) (log : List Exchange) (s : State) → Leads m start log s → SameTransactions s (account_of log)

-- ---- wrong machines

-- an open leaves the caller marked
abbrev pub marked_when_opened : Answer → ℕ → State → State
marked_when_opened (opened_as n) c t = put_standing t c (marked 1 0)
marked_when_opened (value v) c t = t
marked_when_opened ok c t = t
marked_when_opened (committed_as n) c t = t
marked_when_opened (yields w x) c t = t
marked_when_opened (refused n) c t = t

abbrev pub marking_open : Steps
marking_open s k = let r = step closer_wins s k in (r.0, marked_when_opened r.0 (caller_of k) r.1)

-- nobody is marked
abbrev pub without_marks : Steps
without_marks s k = let r = step closer_wins s k in (r.0, with_clients r.1 (slice_set s.clients (caller_of k) (slice_index_or r.1.clients (caller_of k) idle)))

-- a new mark names the next cell
abbrev pub next_cell : Standing → Standing → Standing
next_cell before idle = idle
next_cell before (open_with n es) = open_with n es
next_cell before (marked w x) = by_standing before (marked w (x + 1)) (λ n es. marked w (x + 1)) (λ v y. marked w x)

abbrev pub next_cells : List Standing → List Standing → List Standing
next_cells [] after = after
next_cells (b ∷ before) [] = []
next_cells (b ∷ before) (a ∷ after) = next_cell b a ∷ next_cells before after

abbrev pub wrong_cell : Steps
wrong_cell s k = let r = step closer_wins s k in (r.0, with_clients r.1 (next_cells s.clients r.1.clients))

-- a close marks others also where the caller yields
abbrev pub marking_yield : Steps
marking_yield s (open_by c) = step oldest_stands s (open_by c)
marking_yield s (read_by c x) = step oldest_stands s (read_by c x)
marking_yield s (write_by c x v) = step oldest_stands s (write_by c x v)
marking_yield s (close_by c) = let r = step oldest_stands s (close_by c) in
    by_standing (slice_index_or s.clients c idle) r (λ n es. (r.0, with_clients r.1 (slice_set (mark_from oldest_stands (close_request c n es) 0 s.clients) c idle))) (λ w x. r)
marking_yield s (cancel_by c) = step oldest_stands s (cancel_by c)

-- a cancel marks those who would yield at a close
abbrev pub marking_cancel : Steps
marking_cancel s (open_by c) = step closer_wins s (open_by c)
marking_cancel s (read_by c x) = step closer_wins s (read_by c x)
marking_cancel s (write_by c x v) = step closer_wins s (write_by c x v)
marking_cancel s (close_by c) = step closer_wins s (close_by c)
marking_cancel s (cancel_by c) = let r = step closer_wins s (cancel_by c) in
    by_standing (slice_index_or s.clients c idle) r (λ n es. (r.0, with_clients r.1 (slice_set (mark_from closer_wins (close_request c n es) 0 s.clients) c idle))) (λ w x. r)

-- a granted read shows the bank's cell, though the caller has written it
abbrev pub from_bank : List ℕ → ℕ → Answer → Answer
from_bank cells x (opened_as n) = opened_as n
from_bank cells x (value v) = value (slice_index cells x)
from_bank cells x ok = ok
from_bank cells x (committed_as n) = committed_as n
from_bank cells x (yields w y) = yields w y
from_bank cells x (refused n) = refused n

abbrev pub reading_bank : Steps
reading_bank s (open_by c) = step closer_wins s (open_by c)
reading_bank s (read_by c x) = let r = step closer_wins s (read_by c x) in (from_bank s.cells x r.0, r.1)
reading_bank s (write_by c x v) = step closer_wins s (write_by c x v)
reading_bank s (close_by c) = step closer_wins s (close_by c)
reading_bank s (cancel_by c) = step closer_wins s (cancel_by c)

-- a read beyond the last cell shows 0
abbrev pub zero_for_6 : Answer → Answer
zero_for_6 (opened_as n) = opened_as n
zero_for_6 (value v) = value v
zero_for_6 ok = ok
zero_for_6 (committed_as n) = committed_as n
zero_for_6 (yields w x) = yields w x
zero_for_6 (refused n) = cond (n == 6) (value 0) (refused n)

abbrev pub reading_beyond : Steps
reading_beyond s (open_by c) = step closer_wins s (open_by c)
reading_beyond s (read_by c x) = let r = step closer_wins s (read_by c x) in (zero_for_6 r.0, r.1)
reading_beyond s (write_by c x v) = step closer_wins s (write_by c x v)
reading_beyond s (close_by c) = step closer_wins s (close_by c)
reading_beyond s (cancel_by c) = step closer_wins s (cancel_by c)

-- a written cell counts as read
abbrev pub read_too : Entry → Entry
read_too e = record { cell = e.cell; read = maybe e.read e.written Some; written = e.written }

abbrev pub reads_too : Standing → Standing
reads_too idle = idle
reads_too (open_with n es) = open_with n (map read_too es)
reads_too (marked w x) = marked w x

abbrev pub writes_as_reads : Steps
writes_as_reads s k = let r = step closer_wins s k in (r.0, with_clients r.1 (map reads_too r.1.clients))

-- a close counts the commit and writes nothing
abbrev pub without_writes : Steps
without_writes s k = let r = step closer_wins s k in
    (r.0, record { cells = s.cells; opened = r.1.opened; committed = r.1.committed; yielded = r.1.yielded; cancelled = r.1.cancelled; clients = r.1.clients })

-- a granted cancel ends the transaction of client 0 too
abbrev pub idle_when_ok : Answer → State → State
idle_when_ok (opened_as n) t = t
idle_when_ok (value v) t = t
idle_when_ok ok t = put_standing t 0 idle
idle_when_ok (committed_as n) t = t
idle_when_ok (yields w x) t = t
idle_when_ok (refused n) t = t

abbrev pub cancelling_0 : Steps
cancelling_0 s (open_by c) = step closer_wins s (open_by c)
cancelling_0 s (read_by c x) = step closer_wins s (read_by c x)
cancelling_0 s (write_by c x v) = step closer_wins s (write_by c x v)
cancelling_0 s (close_by c) = step closer_wins s (close_by c)
cancelling_0 s (cancel_by c) = let r = step closer_wins s (cancel_by c) in (r.0, idle_when_ok r.0 r.1)

-- ---- rules

abbrev pub both_always_stand : Contact → Verdict
both_always_stand k = BothStand

abbrev pub caller_always_yields : Contact → Verdict
caller_always_yields k = CallerYields

-- ---- each of them breaks a promise

pub record WrongMachinesAreRefused : Type 0 where
  pub open_that_marks : ChangesForCause closer_wins marking_open → ⊥
  pub close_that_does_not_mark : (CommitsSerially without_marks → ⊥) × (ReadsConsistently without_marks → ⊥)
  pub mark_with_the_wrong_cell : ChangesForCause closer_wins wrong_cell → ⊥
  pub yield_that_marks_others : ChangesForCause oldest_stands marking_yield → ⊥
  pub cancel_that_marks : ChangesForCause closer_wins marking_cancel → ⊥
  pub cancel_of_another : ChangesForCause closer_wins cancelling_0 → ⊥
  pub read_from_the_bank : CommitsSerially reading_bank → ⊥
  pub read_beyond_the_cells : StaysWithin reading_beyond → ⊥
  pub write_that_counts_as_read : HoldsWhatIsTold writes_as_reads → ⊥
  pub close_that_writes_nothing : CommitsSerially without_writes → ⊥
  -- a machine under newcomer yields that goes by closer wins
  pub another_rule : ChangesForCause newcomer_yields (step closer_wins) → ⊥

-- Neither law alone is enough: for each there is a rule that keeps it and breaks a promise.
pub record BothLawsAreNeeded : Type 0 where
  pub without_enough : OnlyForCause both_always_stand × (CommitsSerially (step both_always_stand) → ⊥)
  pub without_cause : Enough caller_always_yields × (ChangesForCause caller_always_yields (step caller_always_yields) → ⊥)
