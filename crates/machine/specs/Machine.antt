-- The step machine: what each call answers, and the state that it leaves. Assumes nothing.
use Rattle.std.specs.Prelude.{ℕ, suc, ◌+◌, Bool, true, false, cond, List, [], ◌∷◌, ◌++◌, map, length, replicate, is_some, Some, None, Option, ◌==◌, nat_lt, slice_index, slice_index_or, slice_set}
use Rattle.rule.specs.declared.Contact.{Contact}
use Rattle.rule.specs.declared.Event.{Event}
use Rattle.rule.specs.declared.Event.TheVariants.{Read, Write, Close}
use Rattle.rule.specs.declared.Verdict.{Verdict}
use Rattle.rule.specs.declared.Verdict.TheVariants.{BothStand, CallerYields, OtherYields}
use Rattle.machine.specs.declared.Entry.{Entry}

-- ---- states, calls and answers

-- How a client stands: idle, with no transaction; open, with its opening number and its entries in order of first touch;
-- or marked, with a transaction that has to yield, to a winner over a cell.
pub data Standing : Type 0 where
  idle : Standing
  open_with : ℕ → List Entry → Standing
  marked : ℕ → ℕ → Standing

pub record State : Type 0 where
  pub cells : List ℕ
  pub opened : ℕ
  pub committed : ℕ
  pub yielded : ℕ
  pub cancelled : ℕ
  pub clients : List Standing

-- client; client and cell; client, cell and value
pub data Call : Type 0 where
  open_by : ℕ → Call
  read_by : ℕ → ℕ → Call
  write_by : ℕ → ℕ → ℕ → Call
  close_by : ℕ → Call
  cancel_by : ℕ → Call

-- The four ways to grant a call, and the two to decline one: with number 5, the client that is yielded to and the cell,
-- or with another number.
pub data Answer : Type 0 where
  opened_as : ℕ → Answer
  value : ℕ → Answer
  ok : Answer
  committed_as : ℕ → Answer
  yields : ℕ → ℕ → Answer
  refused : ℕ → Answer

-- the client that makes the call
abbrev pub caller_of : Call → ℕ
caller_of (open_by c) = c
caller_of (read_by c x) = c
caller_of (write_by c x v) = c
caller_of (close_by c) = c
caller_of (cancel_by c) = c

-- the number with which a call is declined; none if it is granted
abbrev pub declined_with : Answer → Option ℕ
declined_with (opened_as n) = None
declined_with (value v) = None
declined_with ok = None
declined_with (committed_as n) = None
declined_with (yields w x) = Some 5
declined_with (refused n) = Some n

-- a new engine over the cells
abbrev pub fresh : List ℕ → State
fresh cells = record { cells = cells; opened = 0; committed = 0; yielded = 0; cancelled = 0; clients = replicate 8 idle }

-- ---- tables

-- a value by whether there is one
abbrev pub maybe : {A B : Type 0} → Option A → B → (A → B) → B
maybe None none some = none
maybe (Some a) none some = some a

-- the first entry for the cell x
abbrev pub entry_of : ℕ → List Entry → Option Entry
entry_of x [] = None
entry_of x (e ∷ es) = cond (e.cell == x) (Some e) (entry_of x es)

abbrev pub was_read : Option Entry → Bool
was_read None = false
was_read (Some e) = is_some e.read

abbrev pub was_written : Option Entry → Bool
was_written None = false
was_written (Some e) = is_some e.written

-- What a repeated read of the cell replies: the value written, or else the value read. (No entry of a run has neither.)
abbrev pub known : Entry → ℕ
known e = maybe e.written (maybe e.read 0 (λ v. v)) (λ w. w)

-- a new entry for a cell that was read, or written; an entry that gets a value to be written
abbrev pub read_entry : ℕ → ℕ → Entry
read_entry x v = record { cell = x; read = Some v; written = None }

abbrev pub write_entry : ℕ → ℕ → Entry
write_entry x v = record { cell = x; read = None; written = Some v }

abbrev pub with_written : Entry → ℕ → Entry
with_written e v = record { cell = e.cell; read = e.read; written = Some v }

-- the entry for the cell x gets the value v to be written, or there is a new one
abbrev pub fill : List Entry → ℕ → ℕ → List Entry
fill [] x v = write_entry x v ∷ []
fill (e ∷ es) x v = cond (e.cell == x) (with_written e v ∷ es) (e ∷ fill es x v)

-- each written entry goes to the cells, in table order
abbrev pub put : Option ℕ → ℕ → List ℕ → List ℕ
put None x cells = cells
put (Some v) x cells = slice_set cells x v

abbrev pub store : List Entry → List ℕ → List ℕ
store [] cells = cells
store (e ∷ es) cells = store es (put e.written e.cell cells)

-- ---- contacts

-- A cell of the caller that is put to the rule, with what the caller has done to it, the request included.
pub record Point : Type 0 where
  pub cell : ℕ
  pub read : Bool
  pub written : Bool

abbrev pub point_of : Entry → Point
point_of e = record { cell = e.cell; read = is_some e.read; written = is_some e.written }

-- What is judged: the event, the caller with its opening number, and its points.
pub record Request : Type 0 where
  pub event : Event
  pub caller : ℕ
  pub number : ℕ
  pub points : List Point

-- a read of the cell x; a write of it, by a caller that has or has not read it; a close, with the whole table
abbrev pub read_request : ℕ → ℕ → ℕ → Request
read_request c n x = record { event = Read; caller = c; number = n; points = record { cell = x; read = true; written = false } ∷ [] }

abbrev pub write_request : ℕ → ℕ → ℕ → Bool → Request
write_request c n x r = record { event = Write; caller = c; number = n; points = record { cell = x; read = r; written = true } ∷ [] }

abbrev pub close_request : ℕ → ℕ → List Entry → Request
close_request c n es = record { event = Close; caller = c; number = n; points = map point_of es }

-- the contact at the point p with the client o, which is open with n and es
abbrev pub contact_at : Request → ℕ → ℕ → List Entry → Point → Contact
contact_at q o n es p = record {
  event = q.event;
  cell = p.cell;
  caller = record { client = q.caller; number = q.number; read = p.read; written = p.written };
  other = record { client = o; number = n; read = was_read (entry_of p.cell es); written = was_written (entry_of p.cell es) };
}

-- the contacts with the client o, in the order of the caller's table
abbrev pub contacts_with : Request → ℕ → Standing → List Contact
contacts_with q o idle = []
contacts_with q o (marked w x) = []
contacts_with q o (open_with n es) = cond (o == q.caller) [] (map (contact_at q o n es) q.points)

-- the contacts with the clients from i on, by client number and then in the order of the caller's table
abbrev pub contacts_from : Request → ℕ → List Standing → List Contact
contacts_from q i [] = []
contacts_from q i (s ∷ ss) = contacts_with q i s ++ contacts_from q (suc i) ss

-- ---- judgement

abbrev pub is_caller_yields : Verdict → Bool
is_caller_yields BothStand = false
is_caller_yields CallerYields = true
is_caller_yields OtherYields = false

abbrev pub is_other_yields : Verdict → Bool
is_other_yields BothStand = false
is_other_yields CallerYields = false
is_other_yields OtherYields = true

abbrev pub first_that : (Contact → Bool) → List Contact → Option Contact
first_that f [] = None
first_that f (k ∷ ks) = cond (f k) (Some k) (first_that f ks)

-- the first contact at which the caller yields
abbrev pub first_yield : (Contact → Verdict) → Request → List Standing → Option Contact
first_yield v q ss = first_that (λ k. is_caller_yields (v k)) (contacts_from q 0 ss)

-- a client with a contact at which the other yields is marked, with the caller and the first such cell
abbrev pub mark_one : (Contact → Verdict) → Request → ℕ → Standing → Standing
mark_one v q i s = maybe (first_that (λ k. is_other_yields (v k)) (contacts_with q i s)) s (λ k. marked q.caller k.cell)

abbrev pub mark_from : (Contact → Verdict) → Request → ℕ → List Standing → List Standing
mark_from v q i [] = []
mark_from v q i (s ∷ ss) = mark_one v q i s ∷ mark_from v q (suc i) ss

abbrev pub with_clients : State → List Standing → State
with_clients s ss = record { cells = s.cells; opened = s.opened; committed = s.committed; yielded = s.yielded; cancelled = s.cancelled; clients = ss }

-- the transaction of c ends by yielding
abbrev pub end_yielding : State → ℕ → State
end_yielding s c = record { cells = s.cells; opened = s.opened; committed = s.committed; yielded = s.yielded + 1; cancelled = s.cancelled; clients = slice_set s.clients c idle }

-- The caller yields, and then nobody is marked; or the marks are set, and the request goes on.
abbrev pub judged : (Contact → Verdict) → State → Request → (State → Answer × State) → Answer × State
judged v s q go = maybe (first_yield v q s.clients) (go (with_clients s (mark_from v q 0 s.clients))) (λ k. (yields k.other.client k.cell, end_yielding s q.caller))

-- ---- the calls of a client c that is open with n and es

abbrev pub put_standing : State → ℕ → Standing → State
put_standing s c t = with_clients s (slice_set s.clients c t)

abbrev pub read_granted : State → ℕ → ℕ → List Entry → ℕ → State → Answer × State
read_granted s c n es x t = (value (slice_index s.cells x), put_standing t c (open_with n (es ++ (read_entry x (slice_index s.cells x) ∷ []))))

-- a cell with no entry: is there room for one (else 7)? does judgement let the caller stand (else 5)?
abbrev pub first_read : (Contact → Verdict) → State → ℕ → ℕ → List Entry → ℕ → Answer × State
first_read v s c n es x = cond (nat_lt (length es) 64) (judged v s (read_request c n x) (read_granted s c n es x)) (refused 7, s)

-- is there such a cell (else 6)? One with an entry is answered from it
abbrev pub do_read : (Contact → Verdict) → State → ℕ → ℕ → List Entry → ℕ → Answer × State
do_read v s c n es x = cond (nat_lt x (length s.cells)) (maybe (entry_of x es) (first_read v s c n es x) (λ e. (value (known e), s))) (refused 6, s)

abbrev pub write_granted : ℕ → ℕ → List Entry → ℕ → ℕ → State → Answer × State
write_granted c n es x w t = (ok, put_standing t c (open_with n (fill es x w)))

abbrev pub judged_write : (Contact → Verdict) → State → ℕ → ℕ → List Entry → ℕ → ℕ → Bool → Answer × State
judged_write v s c n es x w r = judged v s (write_request c n x r) (write_granted c n es x w)

-- is there such a cell (else 6)? an entry, or room for one (else 7)? A cell already written is not judged again
abbrev pub do_write : (Contact → Verdict) → State → ℕ → ℕ → List Entry → ℕ → ℕ → Answer × State
do_write v s c n es x w = cond (nat_lt x (length s.cells))
    (maybe (entry_of x es)
    (cond (nat_lt (length es) 64) (judged_write v s c n es x w false) (refused 7, s))
    (λ e. maybe e.written (judged_write v s c n es x w (is_some e.read)) (λ old. write_granted c n es x w s)))
    (refused 6, s)

abbrev pub close_granted : ℕ → List Entry → State → Answer × State
close_granted c es t = (committed_as (t.committed + 1), record { cells = store es t.cells; opened = t.opened; committed = t.committed + 1; yielded = t.yielded; cancelled = t.cancelled; clients = slice_set t.clients c idle })

abbrev pub do_close : (Contact → Verdict) → State → ℕ → ℕ → List Entry → Answer × State
do_close v s c n es = judged v s (close_request c n es) (close_granted c es)

abbrev pub do_cancel : State → ℕ → Answer × State
do_cancel s c = (ok, record { cells = s.cells; opened = s.opened; committed = s.committed; yielded = s.yielded; cancelled = s.cancelled + 1; clients = slice_set s.clients c idle })

-- ---- any call

-- the client c gets a new transaction
abbrev pub with_opened : State → ℕ → State
with_opened s c = record { cells = s.cells; opened = s.opened + 1; committed = s.committed; yielded = s.yielded; cancelled = s.cancelled; clients = slice_set s.clients c (open_with (s.opened + 1) []) }

-- is there an opening number left (else 3)?
abbrev pub do_open : State → ℕ → Answer × State
do_open s c = cond (nat_lt s.opened 4000000000) (opened_as (s.opened + 1), with_opened s c) (refused 3, s)

-- a value by how a client stands
abbrev pub by_standing : {B : Type 0} → Standing → B → (ℕ → List Entry → B) → (ℕ → ℕ → B) → B
by_standing idle i f g = i
by_standing (open_with n es) i f g = f n es
by_standing (marked w x) i f g = g w x

-- is there such a client (else 1)? does it hold a transaction (else 4)? is it unmarked (else 5)? f is for one that is open
abbrev pub if_open : State → ℕ → (ℕ → List Entry → Answer × State) → Answer × State
if_open s c f = cond (nat_lt c 8) (by_standing (slice_index_or s.clients c idle) (refused 4, s) f (λ w x. (yields w x, end_yielding s c))) (refused 1, s)

-- of an open: is there such a client (else 1)? is it idle (else 2)?
abbrev pub step : (Contact → Verdict) → State → Call → Answer × State
step v s (open_by c) = cond (nat_lt c 8) (by_standing (slice_index_or s.clients c idle) (do_open s c) (λ n es. (refused 2, s)) (λ w x. (refused 2, s))) (refused 1, s)
step v s (read_by c x) = if_open s c (λ n es. do_read v s c n es x)
step v s (write_by c x w) = if_open s c (λ n es. do_write v s c n es x w)
step v s (close_by c) = if_open s c (λ n es. do_close v s c n es)
step v s (cancel_by c) = if_open s c (λ n es. do_cancel s c)
