-- What a log of calls and answers tells, with no look at any table: the transactions in it and how they ended, those that
-- committed, in commit order, and the serial run of these. Assumes nothing.
use Rattle.std.specs.Prelude.{ℕ, List, [], ◌∷◌, ◌++◌, replicate, Some, None, Option, slice_index_or, slice_set}
use Rattle.machine.specs.declared.Entry.{Entry}
use Rattle.machine.specs.Machine.{Call, open_by, read_by, write_by, close_by, cancel_by, caller_of, Answer, opened_as, value, ok, committed_as, yields, refused, maybe, entry_of, read_entry, fill}

-- a call and its answer; a log is a list of these
pub record Exchange : Type 0 where
  pub call : Call
  pub answer : Answer

-- the log with one more call and its answer
abbrev pub and_then : List Exchange → Call → Answer → List Exchange
and_then log k r = log ++ (record { call = k; answer = r } ∷ [])

-- a granted read of a cell with the value that it showed, or a granted write
pub data Operation : Type 0 where
  reads : ℕ → ℕ → Operation
  writes : ℕ → ℕ → Operation

-- the number that its open was answered with, and its granted reads and writes in order
pub record Transaction : Type 0 where
  pub opening_number : ℕ
  pub operations : List Operation

-- how a transaction ended; a yield with the client and the cell that were named
pub data Ending : Type 0 where
  by_commit : Ending
  by_cancel : Ending
  by_yield : ℕ → ℕ → Ending

pub record EndedTransaction : Type 0 where
  pub client : ℕ
  pub transaction : Transaction
  pub how : Ending

-- the transactions still held, by client, and those that ended, in the order of their ends
pub record Account : Type 0 where
  pub held : List (Option Transaction)
  pub ended : List EndedTransaction

-- the transaction that the client c holds, if any
abbrev pub transaction_of : Account → ℕ → Option Transaction
transaction_of a c = slice_index_or a.held c None

abbrev pub put_held : Account → ℕ → Option Transaction → Account
put_held a c t = record { held = slice_set a.held c t; ended = a.ended }

abbrev pub one_more : Transaction → Operation → Transaction
one_more t o = record { opening_number = t.opening_number; operations = t.operations ++ (o ∷ []) }

-- the transaction of c gets one more operation, or ends
abbrev pub joins : Account → ℕ → Operation → Account
joins a c o = maybe (transaction_of a c) a (λ t. put_held a c (Some (one_more t o)))

abbrev pub ended_as : Account → ℕ → Ending → Transaction → Account
ended_as a c e t = record { held = slice_set a.held c None; ended = a.ended ++ (record { client = c; transaction = t; how = e } ∷ []) }

abbrev pub ends : Account → ℕ → Ending → Account
ends a c e = maybe (transaction_of a c) a (ended_as a c e)

-- What one more call and its answer tell. A granted open begins a transaction, its granted reads and writes join it in
-- order, and a commit, a cancel or a yield ends it; all else tells nothing. (Only an open is answered with an opening
-- number, and only a close with a commit: `Change`.)
abbrev pub recorded_value : Account → Call → ℕ → Account
recorded_value a (open_by c) v = a
recorded_value a (read_by c x) v = joins a c (reads x v)
recorded_value a (write_by c x w) v = a
recorded_value a (close_by c) v = a
recorded_value a (cancel_by c) v = a

abbrev pub recorded_ok : Account → Call → Account
recorded_ok a (open_by c) = a
recorded_ok a (read_by c x) = a
recorded_ok a (write_by c x v) = joins a c (writes x v)
recorded_ok a (close_by c) = a
recorded_ok a (cancel_by c) = ends a c by_cancel

abbrev pub recorded : Account → Call → Answer → Account
recorded a k (opened_as n) = put_held a (caller_of k) (Some (record { opening_number = n; operations = [] }))
recorded a k (value v) = recorded_value a k v
recorded a k ok = recorded_ok a k
recorded a k (committed_as n) = ends a (caller_of k) by_commit
recorded a k (yields w x) = ends a (caller_of k) (by_yield w x)
recorded a k (refused n) = a

abbrev pub recorded_all : Account → List Exchange → Account
recorded_all a [] = a
recorded_all a (e ∷ log) = recorded_all (recorded a e.call e.answer) log

-- what the whole log tells
abbrev pub account_of : List Exchange → Account
account_of log = recorded_all (record { held = replicate 8 None; ended = [] }) log

-- ---- the serial run

-- the operations of the transactions that committed, in commit order
abbrev pub if_commit : Ending → List Operation → List (List Operation) → List (List Operation)
if_commit by_commit ops rest = ops ∷ rest
if_commit by_cancel ops rest = rest
if_commit (by_yield w x) ops rest = rest

abbrev pub commits_of : List EndedTransaction → List (List Operation)
commits_of [] = []
commits_of (e ∷ es) = if_commit e.how e.transaction.operations (commits_of es)

abbrev pub committed_in : List Exchange → List (List Operation)
committed_in log = commits_of (account_of log).ended

-- the cells that a transaction leaves when it is run alone
abbrev pub left_by : List Operation → List ℕ → List ℕ
left_by [] cells = cells
left_by (reads x v ∷ ops) cells = left_by ops cells
left_by (writes x v ∷ ops) cells = left_by ops (slice_set cells x v)

-- the cells that transactions leave when they are run alone, one after another
abbrev pub left_by_all : List (List Operation) → List ℕ → List ℕ
left_by_all [] cells = cells
left_by_all (t ∷ ts) cells = left_by_all ts (left_by t cells)

-- the cells of the serial run at the end of the log
abbrev pub serial_cells : List ℕ → List Exchange → List ℕ
serial_cells start log = left_by_all (committed_in log) start

-- ---- tables

-- What granted operations leave in a table: a cell gets its entry when it is first touched, a first read its value, and a
-- write replaces the value to be written.
abbrev pub tabled : List Entry → Operation → List Entry
tabled es (reads x v) = maybe (entry_of x es) (es ++ (read_entry x v ∷ [])) (λ e. es)
tabled es (writes x v) = fill es x v

abbrev pub tabled_all : List Entry → List Operation → List Entry
tabled_all es [] = es
tabled_all es (o ∷ ops) = tabled_all (tabled es o) ops

abbrev pub table_of : List Operation → List Entry
table_of ops = tabled_all [] ops
