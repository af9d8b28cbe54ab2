-- What one more call and its answer tell, case by case. Assumes nothing.
use Rattle.std.proofs.Common.{◌≡◌, ℕ, List, [], ◌∷◌, ◌++◌, Some, None, refl, get_or-set_other}
use Rattle.machine.specs.Machine.{Call, open_by, read_by, write_by, close_by, cancel_by, caller_of, Answer, opened_as, value, ok, committed_as, yields, refused}
use Rattle.machine.specs.Log.{Exchange, reads, writes, Transaction, by_commit, by_cancel, by_yield, Account, transaction_of, put_held, one_more, ended_as, recorded, recorded_all}
use Rattle.machine.proofs.Contacts.{maybe_both}

pub data Turn (a : Account) : Call → Answer → Account → Type 0 where
  none : {k : Call} {r : Answer} → Turn a k r a
  begins : {k : Call} {n : ℕ} → Turn a k (opened_as n) (put_held a (caller_of k) (Some (record { opening_number = n; operations = [] })))
  reads_on : {c x v : ℕ} (t : Transaction) → transaction_of a c ≡ Some t → Turn a (read_by c x) (value v) (put_held a c (Some (one_more t (reads x v))))
  writes_on : {c x v : ℕ} (t : Transaction) → transaction_of a c ≡ Some t → Turn a (write_by c x v) ok (put_held a c (Some (one_more t (writes x v))))
  ends_commit : {k : Call} {n : ℕ} (t : Transaction) → transaction_of a (caller_of k) ≡ Some t → Turn a k (committed_as n) (ended_as a (caller_of k) by_commit t)
  ends_cancel : {c : ℕ} (t : Transaction) → transaction_of a c ≡ Some t → Turn a (cancel_by c) ok (ended_as a c by_cancel t)
  ends_yield : {k : Call} {w x : ℕ} (t : Transaction) → transaction_of a (caller_of k) ≡ Some t → Turn a k (yields w x) (ended_as a (caller_of k) (by_yield w x) t)

turn_value : (a : Account) (k : Call) (v : ℕ) → Turn a k (value v) (recorded a k (value v))
turn_value a (open_by c) v = none
turn_value a (read_by c x) v = maybe_both (Turn a (read_by c x) (value v)) (transaction_of a c) a (λ t. put_held a c (Some (one_more t (reads x v)))) (λ e. none) reads_on
turn_value a (write_by c x w) v = none
turn_value a (close_by c) v = none
turn_value a (cancel_by c) v = none

turn_ok : (a : Account) (k : Call) → Turn a k ok (recorded a k ok)
turn_ok a (open_by c) = none
turn_ok a (read_by c x) = none
turn_ok a (write_by c x v) = maybe_both (Turn a (write_by c x v) ok) (transaction_of a c) a (λ t. put_held a c (Some (one_more t (writes x v)))) (λ e. none) writes_on
turn_ok a (close_by c) = none
turn_ok a (cancel_by c) = maybe_both (Turn a (cancel_by c) ok) (transaction_of a c) a (ended_as a c by_cancel) (λ e. none) ends_cancel

pub turn : (a : Account) (k : Call) (r : Answer) → Turn a k r (recorded a k r)
turn a k (opened_as n) = begins
turn a k (value v) = turn_value a k v
turn a k ok = turn_ok a k
turn a k (committed_as n) = maybe_both (Turn a k (committed_as n)) (transaction_of a (caller_of k)) a (ended_as a (caller_of k) by_commit) (λ e. none) ends_commit
turn a k (yields w x) = maybe_both (Turn a k (yields w x)) (transaction_of a (caller_of k)) a (ended_as a (caller_of k) (by_yield w x)) (λ e. none) ends_yield
turn a k (refused n) = none

turn_other : {a b : Account} {k : Call} {r : Answer} → Turn a k r b → (d : ℕ) → (d ≡ caller_of k → ⊥) → transaction_of b d ≡ transaction_of a d
turn_other none d ne = refl
turn_other {a = a} (begins {k = k}) d ne = get_or-set_other a.held (caller_of k) d _ None ne
turn_other {a = a} (reads_on {c = c} t e) d ne = get_or-set_other a.held c d _ None ne
turn_other {a = a} (writes_on {c = c} t e) d ne = get_or-set_other a.held c d _ None ne
turn_other {a = a} (ends_commit {k = k} t e) d ne = get_or-set_other a.held (caller_of k) d _ None ne
turn_other {a = a} (ends_cancel {c = c} t e) d ne = get_or-set_other a.held c d _ None ne
turn_other {a = a} (ends_yield {k = k} t e) d ne = get_or-set_other a.held (caller_of k) d _ None ne

-- of who does not call nothing new is told
pub recorded_other : (a : Account) (k : Call) (r : Answer) (d : ℕ) → (d ≡ caller_of k → ⊥) → transaction_of (recorded a k r) d ≡ transaction_of a d
recorded_other a k r d ne = turn_other (turn a k r) d ne

pub recorded_push : (a : Account) (log : List Exchange) (e : Exchange) → recorded_all a (log ++ (e ∷ [])) ≡ recorded (recorded_all a log) e.call e.answer
recorded_push a [] e = refl
recorded_push a (d ∷ log) e = recorded_push (recorded a d.call d.answer) log e
