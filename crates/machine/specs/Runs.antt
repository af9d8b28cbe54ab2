-- What a run keeps, told of its log: serial commits, consistent reads, caused yields. Assumes nothing.
use Rattle.std.specs.Prelude.{◌≡◌, ℕ, Bool, true, false, ◌||◌, ◌⊎◌, List, [], ◌∷◌, ◌++◌, length, Some, None, Option, ◌≢◌, slice_index, slice_index_or}
use Rattle.std.specs.List.{AllByRecursion}
use Rattle.rule.specs.declared.Contact.{Contact}
use Rattle.rule.specs.declared.Event.{Event}
use Rattle.rule.specs.declared.Event.TheVariants as event
use Rattle.rule.specs.declared.Side.{Side}
use Rattle.rule.specs.declared.Verdict.{Verdict}
use Rattle.rule.specs.declared.Verdict.TheVariants.{CallerYields, OtherYields}
use Rattle.machine.specs.declared.Entry.{Entry}
use Rattle.machine.specs.Machine.{State, fresh, Standing, idle, open_with, marked, Call, open_by, read_by, write_by, close_by, cancel_by, caller_of, Answer, opened_as, value, ok, committed_as, yields, refused, declined_with, maybe, entry_of, was_read, was_written}
use Rattle.machine.specs.Log.{Exchange, and_then, Operation, reads, writes, Transaction, Ending, by_commit, by_cancel, by_yield, EndedTransaction, Account, transaction_of, account_of, committed_in, left_by, serial_cells, table_of}

-- What a machine does at a call. The step machine under a rule v is `step v`.
abbrev pub Steps : Type 0
Steps = State → Call → Answer × State

-- The log is one that a new engine over the cells gives, and leads it to the state.
pub data Leads (m : Steps) (start : List ℕ) : List Exchange → State → Type 0 where
  new : Leads m start [] (fresh start)
  more : {log : List Exchange} {s : State} → Leads m start log s → (k : Call) → Leads m start (and_then log k (m s k).0) (m s k).1

-- a list of calls: the answers to them, and the state after
abbrev pub run : Steps → State → List Call → List Answer × State
run m s [] = ([], s)
run m s (k ∷ ks) = let one = m s k in let rest = run m one.1 ks in (one.0 ∷ rest.0, rest.1)

-- one of the operations is on the cell; one of them writes it
abbrev pub HasTouchedCell : ℕ → List Operation → Type 0
HasTouchedCell x [] = ⊥
HasTouchedCell x (reads y v ∷ ops) = (y ≡ x) ⊎ HasTouchedCell x ops
HasTouchedCell x (writes y v ∷ ops) = (y ≡ x) ⊎ HasTouchedCell x ops

abbrev pub HasWrittenCell : ℕ → List Operation → Type 0
HasWrittenCell x [] = ⊥
HasWrittenCell x (reads y v ∷ ops) = HasWrittenCell x ops
HasWrittenCell x (writes y v ∷ ops) = (y ≡ x) ⊎ HasWrittenCell x ops

-- ---- serial commits

-- What each read of a transaction shows that is run alone from the cells.
pub record ReadsAlone (ops : List Operation) (cells : List ℕ) : Type 0 where
  -- with no own write of the cell before it: what the cell had at the start
  pub from_start : (front back : List Operation) (x v : ℕ) → ops ≡ front ++ (reads x v ∷ back) → (HasWrittenCell x front → ⊥) → v ≡ slice_index cells x
  -- else the last own write of the cell before it
  pub from_own : (front middle back : List Operation) (x v u : ℕ) → ops ≡ front ++ (writes x u ∷ (middle ++ (reads x v ∷ back))) → (HasWrittenCell x middle → ⊥) → v ≡ u

-- What the cells are after it.
pub record Leaves (ops : List Operation) (cells after : List ℕ) : Type 0 where
  pub as_long : length after ≡ length cells
  -- a cell that it did not write is as it was
  pub unwritten : (x : ℕ) → (HasWrittenCell x ops → ⊥) → slice_index after x ≡ slice_index cells x
  -- any other has its last write of it
  pub last_write : (front back : List Operation) (x u : ℕ) → ops ≡ front ++ (writes x u ∷ back) → (HasWrittenCell x back → ⊥) → slice_index after x ≡ u

-- The transactions are run alone, one after another, from the first cells; each reads as it would alone, and they leave the last cells.
abbrev pub Serially : List ℕ → List (List Operation) → List ℕ → Type 0
Serially start [] after = after ≡ start
Serially start (t ∷ ts) after = ReadsAlone t start × Leaves t start (left_by t start) × Serially (left_by t start) ts after

-- The cells, and all reads of committed transactions, are those of the committed transactions run alone in commit order.
abbrev pub SerialCommits : List ℕ → List Exchange → State → Type 0
SerialCommits start log s = Serially start (committed_in log) s.cells

-- ---- consistent reads

-- a granted open of the client, or a granted read
pub data BeginsOrReads (c : ℕ) : Exchange → Type 0 where
  at_open : {n : ℕ} → BeginsOrReads c (record { call = open_by c; answer = opened_as n })
  at_read : {x v : ℕ} → BeginsOrReads c (record { call = read_by c x; answer = value v })

abbrev pub OnlyWrites : List Operation → Type 0
OnlyWrites [] = Unit {0}
OnlyWrites (reads x v ∷ ops) = ⊥
OnlyWrites (writes x v ∷ ops) = OnlyWrites ops

-- Where the log has the last granted read of the transaction t of c, or its open if it read nothing.
pub record LastRead (log : List Exchange) (c : ℕ) (t : Transaction) : Type 0 where
  pub before : List Exchange
  pub there : Exchange
  pub behind : List Exchange
  pub in_log : log ≡ before ++ (there ∷ behind)
  pub begins_or_reads : BeginsOrReads c there
  -- up to there the log tells of the same transaction, with all its operations but for some writes that followed
  pub up_to_there : List Operation
  pub since : List Operation
  pub held_there : transaction_of (account_of (before ++ (there ∷ []))) c ≡ Some (record { opening_number = t.opening_number; operations = up_to_there })
  pub all_operations : t.operations ≡ up_to_there ++ since
  pub last : OnlyWrites since

-- A read made before an own write of its cell shows the serial run's cells as they stood at the last granted read; one
-- made after it shows that write.
pub record Consistent (start : List ℕ) (log : List Exchange) (c : ℕ) (t : Transaction) : Type 0 where
  pub last_read : LastRead log c t
  pub reads_alone : ReadsAlone t.operations (serial_cells start last_read.before)

abbrev pub NotCommitted : Ending → Type 0
NotCommitted by_commit = ⊥
NotCommitted by_cancel = Unit {0}
NotCommitted (by_yield w x) = Unit {0}

-- Every transaction that is still held, or ended by a cancel or a yield, is consistent.
pub record ConsistentReads (start : List ℕ) (log : List Exchange) : Type 0 where
  pub of_held : (c : ℕ) (t : Transaction) → transaction_of (account_of log) c ≡ Some t → Consistent start log c t
  pub of_ended : AllByRecursion (λ (e : EndedTransaction). NotCommitted e.how → Consistent start log e.client e.transaction) (account_of log).ended

-- ---- caused yields

-- the granted operations of the transaction that c holds
abbrev pub operations_of : Account → ℕ → List Operation
operations_of a c = maybe (transaction_of a c) [] (λ t. t.operations)

-- the call asks to touch, or to write, the cell x for the client c
abbrev pub AsksToTouch : Call → ℕ → ℕ → Type 0
AsksToTouch (open_by d) c x = ⊥
AsksToTouch (read_by d y) c x = (d ≡ c) × (y ≡ x)
AsksToTouch (write_by d y v) c x = (d ≡ c) × (y ≡ x)
AsksToTouch (close_by d) c x = ⊥
AsksToTouch (cancel_by d) c x = ⊥

abbrev pub AsksToWrite : Call → ℕ → ℕ → Type 0
AsksToWrite (open_by d) c x = ⊥
AsksToWrite (read_by d y) c x = ⊥
AsksToWrite (write_by d y v) c x = (d ≡ c) × (y ≡ x)
AsksToWrite (close_by d) c x = ⊥
AsksToWrite (cancel_by d) c x = ⊥

-- By the granted operations that the log tells of, with the request of the call counted.
abbrev pub TouchedBy : Account → Call → ℕ → ℕ → Type 0
TouchedBy a k c x = HasTouchedCell x (operations_of a c) ⊎ AsksToTouch k c x

abbrev pub WrittenBy : Account → Call → ℕ → ℕ → Type 0
WrittenBy a k c x = HasWrittenCell x (operations_of a c) ⊎ AsksToWrite k c x

abbrev pub IsOpen : Standing → Type 0
IsOpen idle = ⊥
IsOpen (open_with n es) = Unit {0}
IsOpen (marked w x) = ⊥

abbrev pub IsUnmarked : Standing → Type 0
IsUnmarked idle = Unit {0}
IsUnmarked (open_with n es) = Unit {0}
IsUnmarked (marked w x) = ⊥

-- The call puts the cell x to the rule: it is a read of it, by a caller that has not touched it, a write of it, by one that
-- has not written it, or a close, by one that has touched it.
abbrev pub JudgedOn : Account → Call → ℕ → Type 0
JudgedOn a (open_by d) x = ⊥
JudgedOn a (read_by d y) x = (y ≡ x) × (HasTouchedCell x (operations_of a d) → ⊥)
JudgedOn a (write_by d y v) x = (y ≡ x) × (HasWrittenCell x (operations_of a d) → ⊥)
JudgedOn a (close_by d) x = HasTouchedCell x (operations_of a d)
JudgedOn a (cancel_by d) x = ⊥

-- What the log tells of the client d: the entry that its granted operations leave for the cell x, and its opening number.
abbrev pub entry_told : Account → ℕ → ℕ → Option Entry
entry_told a d x = entry_of x (table_of (operations_of a d))

abbrev pub number_told : Account → ℕ → ℕ
number_told a d = maybe (transaction_of a d) 0 (λ t. t.opening_number)

-- (an open and a cancel are not judged)
abbrev pub event_of : Call → Event
event_of (open_by c) = event.Close
event_of (read_by c x) = event.Read
event_of (write_by c x v) = event.Write
event_of (close_by c) = event.Close
event_of (cancel_by c) = event.Close

abbrev pub is_read : Call → Bool
is_read (open_by c) = false
is_read (read_by c x) = true
is_read (write_by c x v) = false
is_read (close_by c) = false
is_read (cancel_by c) = false

abbrev pub is_write : Call → Bool
is_write (open_by c) = false
is_write (read_by c x) = false
is_write (write_by c x v) = true
is_write (close_by c) = false
is_write (cancel_by c) = false

-- The contact of the caller with the client d on the cell x, as the log tells it: the caller's side with its request, and
-- the other side.
abbrev pub side_of_caller : Account → Call → ℕ → Side
side_of_caller a k x = record {
  client = caller_of k;
  number = number_told a (caller_of k);
  read = is_read k || was_read (entry_told a (caller_of k) x);
  written = is_write k || was_written (entry_told a (caller_of k) x);
}

abbrev pub side_of_other : Account → ℕ → ℕ → Side
side_of_other a d x = record { client = d; number = number_told a d; read = was_read (entry_told a d x); written = was_written (entry_told a d x) }

abbrev pub contact_told : Account → Call → ℕ → ℕ → Contact
contact_told a k d x = record { event = event_of k; cell = x; caller = side_of_caller a k x; other = side_of_other a d x }

-- The rule's verdict on their contact on x is that c yields to w: c calls and the caller yields, or w calls and the other yields.
abbrev pub Ruled : (Contact → Verdict) → Account → Call → (c w x : ℕ) → Type 0
Ruled v a k c w x = ((c ≡ caller_of k) × (v (contact_told a k w x) ≡ CallerYields)) ⊎ ((w ≡ caller_of k) × (v (contact_told a k c x) ≡ OtherYields))

-- Under the rule v, when the call k is made in the state s and with the account a of the log so far, the client c has a
-- cause to yield to w over x.
pub record CauseToYield (v : Contact → Verdict) (s : State) (a : Account) (k : Call) (c w x : ℕ) : Type 0 where
  -- the call is judged on x, and the verdict is that c yields
  pub judged : JudgedOn a k x
  pub ruled : Ruled v a k c w x
  -- w is another client, whose transaction has begun and is neither ended nor marked
  pub another : c ≡ w → ⊥
  pub begun : transaction_of a w ≡ None → ⊥
  pub unmarked : IsOpen (slice_index_or s.clients w idle)
  -- both touched the cell, and at least one wrote it
  pub touched_by_it : TouchedBy a k c x
  pub touched_by_other : TouchedBy a k w x
  pub written : WrittenBy a k c x ⊎ WrittenBy a k w x

-- The log has the call whose judgement made the transaction t of c yield to w over x, and at that call there was a cause.
pub record MadeToYield (v : Contact → Verdict) (m : Steps) (start : List ℕ) (log : List Exchange) (c w x : ℕ) (t : Transaction) : Type 0 where
  pub before : List Exchange
  pub at : State
  pub call : Call
  pub behind : List Exchange
  pub led : Leads m start before at
  pub in_log : log ≡ before ++ (record { call = call; answer = (m at call).0 } ∷ behind)
  -- until then t was open, and since then nothing has joined it
  pub was_open : IsOpen (slice_index_or at.clients c idle)
  pub unchanged_since : transaction_of (account_of before) c ≡ Some t
  pub for_cause : CauseToYield v at (account_of before) call c w x
  -- the call is one of w, which was granted and left c marked, or one of c, which was answered so
  pub by_whom : ((w ≡ caller_of call) × (declined_with (m at call).0 ≡ None) × (slice_index_or (m at call).1.clients c idle ≡ marked w x)) ⊎ ((c ≡ caller_of call) × ((m at call).0 ≡ yields w x))

-- The call k, made after the log, is answered that its caller yields to w over x: the transaction that the caller held was
-- made to yield by this call or by an earlier one.
pub record YieldsForCause (v : Contact → Verdict) (m : Steps) (start : List ℕ) (log : List Exchange) (k : Call) (w x : ℕ) : Type 0 where
  pub transaction : Transaction
  pub held : transaction_of (account_of log) (caller_of k) ≡ Some transaction
  pub made_to_yield : MadeToYield v m start (and_then log k (yields w x)) (caller_of k) w x transaction

-- The client c stands marked with w and x: the transaction that it holds was made to yield by a call of w.
pub record MarkedForCause (v : Contact → Verdict) (m : Steps) (start : List ℕ) (log : List Exchange) (c w x : ℕ) : Type 0 where
  pub transaction : Transaction
  pub held : transaction_of (account_of log) c ≡ Some transaction
  pub made_to_yield : MadeToYield v m start log c w x transaction
  pub by_winner : w ≡ caller_of made_to_yield.call

pub record CausedYields (v : Contact → Verdict) (m : Steps) (start : List ℕ) (log : List Exchange) (s : State) : Type 0 where
  pub of_every_yield : (before behind : List Exchange) (k : Call) (w x : ℕ) → log ≡ before ++ (record { call = k; answer = yields w x } ∷ behind) → YieldsForCause v m start before k w x
  pub of_marked : (c w x : ℕ) → slice_index_or s.clients c idle ≡ marked w x → MarkedForCause v m start log c w x

-- ---- how a client may change at a call

-- From one standing to the next under the rule v, at a call k that is answered r in the state s, with the account a of the
-- log so far.
-- There is no other way for a transaction to begin, to go on, to be marked or to end.
pub data Change (v : Contact → Verdict) (s : State) (a : Account) (k : Call) (r : Answer) (c : ℕ) : Standing → Standing → Type 0 where
  does_not_call : {st : Standing} → (c ≢ caller_of k) → Change v s a k r c st st
  is_refused : {st : Standing} {n : ℕ} → IsUnmarked st → r ≡ refused n → Change v s a k r c st st
  begins : {n : ℕ} → k ≡ open_by c → r ≡ opened_as n → Change v s a k r c idle (open_with n [])
  reads_on : {n x i : ℕ} {es next : List Entry} → k ≡ read_by c x → r ≡ value i → Change v s a k r c (open_with n es) (open_with n next)
  writes_on : {n x i : ℕ} {es next : List Entry} → k ≡ write_by c x i → r ≡ ok → Change v s a k r c (open_with n es) (open_with n next)
  commits : {n i : ℕ} {es : List Entry} → k ≡ close_by c → r ≡ committed_as i → Change v s a k r c (open_with n es) idle
  cancels : {n : ℕ} {es : List Entry} → k ≡ cancel_by c → r ≡ ok → Change v s a k r c (open_with n es) idle
  -- by its own call, which names the cause
  yields_at_once : {n w x : ℕ} {es : List Entry} → c ≡ caller_of k → r ≡ yields w x → CauseToYield v s a k c w x → Change v s a k r c (open_with n es) idle
  -- by the granted call of another, for a cause
  gets_marked : {n x : ℕ} {es : List Entry} → declined_with r ≡ None → CauseToYield v s a k c (caller_of k) x → Change v s a k r c (open_with n es) (marked (caller_of k) x)
  -- a marked client that calls is refused an open, and at any other call ends with the same two names
  stays_marked : {w x : ℕ} → k ≡ open_by c → r ≡ refused 2 → Change v s a k r c (marked w x) (marked w x)
  ends_marked : {w x : ℕ} → c ≡ caller_of k → (k ≢ open_by c) → r ≡ yields w x → Change v s a k r c (marked w x) idle

abbrev pub Changes : (Contact → Verdict) → State → Account → Call → Answer → State → Type 0
Changes v s a k r t = (c : ℕ) → Change v s a k r c (slice_index_or s.clients c idle) (slice_index_or t.clients c idle)
