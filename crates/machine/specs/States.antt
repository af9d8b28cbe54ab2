-- What holds of every state that a log leads to, of its contacts, and of declined calls. Assumes nothing.
use Rattle.std.specs.Prelude.{◌≡◌, ℕ, zero, suc, ◌+◌, ◌<◌, ◌≤◌, Bool, true, ◌||◌, List, [], ◌∷◌, ◌++◌, length, is_some, Some, None, Option, ◌≢◌, slice_index_or, slice_set}
use Rattle.std.specs.List.{AllByRecursion}
use Rattle.rule.specs.Verdicts.{Proper}
use Rattle.rule.specs.declared.Contact.{Contact}
use Rattle.rule.specs.declared.Verdict.{Verdict}
use Rattle.machine.specs.declared.Entry.{Entry}
use Rattle.machine.specs.Machine.{State, Standing, idle, open_with, marked, entry_of, Call, open_by, read_by, write_by, close_by, cancel_by, caller_of, Answer, opened_as, value, ok, committed_as, yields, refused, declined_with, read_request, write_request, close_request, contacts_from, step}
use Rattle.machine.specs.Log.{Exchange, Operation, reads, writes, Transaction, EndedTransaction, Account, transaction_of, table_of}
use Rattle.machine.specs.Runs.{Leads}

-- how many clients hold a transaction, marked or not
abbrev pub holding : Standing → ℕ
holding idle = 0
holding (open_with n es) = 1
holding (marked w x) = 1

abbrev pub held_count : List Standing → ℕ
held_count [] = 0
held_count (s ∷ ss) = holding s + held_count ss

-- no two entries are for one cell, and each has a value read or a value to be written
abbrev pub SoundTable : List Entry → Type 0
SoundTable [] = Unit {0}
SoundTable (e ∷ es) = (entry_of e.cell es ≡ None) × ((is_some e.read || is_some e.written) ≡ true) × SoundTable es

abbrev pub SoundStanding : Standing → Type 0
SoundStanding idle = Unit {0}
SoundStanding (open_with n es) = (length es ≤ 64) × SoundTable es
SoundStanding (marked w x) = Unit {0}

-- the state of an engine over a bank that began with the cells
pub record Sound (start : List ℕ) (s : State) : Type 0 where
  -- each transaction that was opened has ended in one of three ways, or is held
  pub all_counted : s.opened ≡ s.committed + s.yielded + s.cancelled + held_count s.clients
  pub at_most_eight : held_count s.clients ≤ 8
  pub limit : s.opened ≤ 4000000000
  pub eight : length s.clients ≡ 8
  pub tables : AllByRecursion SoundStanding s.clients
  pub as_many_cells : length s.cells ≡ length start

-- ---- the counts

-- 1, 2, 3 and so on up to n
abbrev pub up_to : ℕ → List ℕ
up_to zero = []
up_to (suc n) = up_to n ++ (suc n ∷ [])

-- the number with which an open, or a close, was granted
abbrev pub open_number : Answer → List ℕ
open_number (opened_as n) = n ∷ []
open_number (value v) = []
open_number ok = []
open_number (committed_as n) = []
open_number (yields w x) = []
open_number (refused n) = []

abbrev pub commit_number : Answer → List ℕ
commit_number (opened_as n) = []
commit_number (value v) = []
commit_number ok = []
commit_number (committed_as n) = n ∷ []
commit_number (yields w x) = []
commit_number (refused n) = []

-- such numbers in the order of the log
abbrev pub numbers_in : (Answer → List ℕ) → List Exchange → List ℕ
numbers_in f [] = []
numbers_in f (e ∷ log) = f e.answer ++ numbers_in f log

-- 1 for a call that was answered with a yield, or for a cancel that was granted
abbrev pub one_yield : Call → Answer → ℕ
one_yield k (opened_as n) = 0
one_yield k (value v) = 0
one_yield k ok = 0
one_yield k (committed_as n) = 0
one_yield k (yields w x) = 1
one_yield k (refused n) = 0

abbrev pub one_cancel : Call → Answer → ℕ
one_cancel k (opened_as n) = 0
one_cancel k (value v) = 0
one_cancel (open_by c) ok = 0
one_cancel (read_by c x) ok = 0
one_cancel (write_by c x v) ok = 0
one_cancel (close_by c) ok = 0
one_cancel (cancel_by c) ok = 1
one_cancel k (committed_as n) = 0
one_cancel k (yields w x) = 0
one_cancel k (refused n) = 0

-- how many there are of them in the log
abbrev pub how_many : (Call → Answer → ℕ) → List Exchange → ℕ
how_many f [] = 0
how_many f (e ∷ log) = f e.call e.answer + how_many f log

-- Granted opens, and commits, are answered 1, 2, 3 and so on, and each count is the number of such answers in the log.
pub record CountsOf (log : List Exchange) (s : State) : Type 0 where
  pub open_answers : numbers_in open_number log ≡ up_to s.opened
  pub commit_answers : numbers_in commit_number log ≡ up_to s.committed
  pub yield_answers : s.yielded ≡ how_many one_yield log
  pub cancel_answers : s.cancelled ≡ how_many one_cancel log

-- ---- the transactions

-- How a client stands, and the transaction that the log tells of: none just where the client stands idle, and where it
-- is open, the one with its opening number and with the operations that its table has.
abbrev pub SameTransaction : Standing → Option Transaction → Type 0
SameTransaction idle t = t ≡ None
SameTransaction (open_with n es) t = (u : Transaction) × (t ≡ Some u) × (u.opening_number ≡ n) × (es ≡ table_of u.operations)
SameTransaction (marked w x) t = (u : Transaction) × (t ≡ Some u)

-- The log's transactions are the clients'.
pub record SameTransactions (s : State) (a : Account) : Type 0 where
  pub of_each : (c : ℕ) → c < 8 → SameTransaction (slice_index_or s.clients c idle) (transaction_of a c)
  pub no_others : length a.held ≡ 8

-- every operation is on one of the first n cells
abbrev pub Within : ℕ → List Operation → Type 0
Within n [] = Unit {0}
Within n (reads x v ∷ ops) = (x < n) × Within n ops
Within n (writes x v ∷ ops) = (x < n) × Within n ops

abbrev pub WithinHeld : ℕ → Option Transaction → Type 0
WithinHeld n None = Unit {0}
WithinHeld n (Some t) = Within n t.operations

-- The log tells of operations on the first n cells only.
pub record AccountWithin (n : ℕ) (a : Account) : Type 0 where
  pub of_held : AllByRecursion (WithinHeld n) a.held
  pub of_ended : AllByRecursion (λ (e : EndedTransaction). Within n e.transaction.operations) a.ended

-- ---- declined calls

-- The transaction of the client c has ended by yielding: the yield is counted, the client is idle, and all else is as it was.
pub record OnlyYields (s : State) (c : ℕ) (t : State) : Type 0 where
  pub counted : t.yielded ≡ s.yielded + 1
  pub left_idle : t.clients ≡ slice_set s.clients c idle
  pub same_cells : t.cells ≡ s.cells
  pub same_opened : t.opened ≡ s.opened
  pub same_committed : t.committed ≡ s.committed
  pub same_cancelled : t.cancelled ≡ s.cancelled

-- A declined call leaves the state as it was, but for number 5, which names a client and a cell and ends the caller's transaction.
pub record IfDeclined (s : State) (k : Call) (r : Answer) (t : State) : Type 0 where
  pub unchanged : (n : ℕ) → declined_with r ≡ Some n → (n ≢ 5) → t ≡ s
  pub on_yield : declined_with r ≡ Some 5 → ((w : ℕ) × (x : ℕ) × (r ≡ yields w x)) × OnlyYields s (caller_of k) t

abbrev pub DeclinedCallsChangeNothing : Type 0
DeclinedCallsChangeNothing = (v : Contact → Verdict) (s : State) (k : Call) → IfDeclined s k (step v s k).0 (step v s k).1

-- ---- contacts

-- Every contact that a request of an open client c puts to the rule is proper.
pub record ProperContacts (s : State) (c n : ℕ) (es : List Entry) : Type 0 where
  pub at_read : (x : ℕ) → AllByRecursion Proper (contacts_from (read_request c n x) 0 s.clients)
  pub at_write : (x : ℕ) (r : Bool) → AllByRecursion Proper (contacts_from (write_request c n x r) 0 s.clients)
  pub at_close : AllByRecursion Proper (contacts_from (close_request c n es) 0 s.clients)

abbrev pub ContactsAreProper : Type 0
ContactsAreProper = (v : Contact → Verdict) (start : List ℕ) (log : List Exchange) (s : State) → Leads (step v) start log s → (c n : ℕ) (es : List Entry) → slice_index_or s.clients c idle ≡ open_with n es → ProperContacts s c n es

-- No other contact counts: rules that agree on the proper ones make the same step.
abbrev pub OnlyProperContactsCount : Type 0
OnlyProperContactsCount = (v v' : Contact → Verdict) → ((k : Contact) → Proper k → v k ≡ v' k) → (start : List ℕ) (log : List Exchange) (s : State) → Leads (step v) start log s → (k : Call) → step v s k ≡ step v' s k
