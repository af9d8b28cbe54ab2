-- What a step grants, and that every operation that a log tells of is on a cell of the bank. Assumes nothing.
use Rattle.std.proofs.Common.{◌≡◌, ℕ, ◌<◌, List, [], ◌∷◌, ◌++◌, length, get_or, Some, None, sym, refl, ◌∙◌, subst, get_or-set_same}
use Rattle.std.proofs.ByRecursion.{All-set, All-push}
use Rattle.rule.specs.declared.Contact.{Contact}
use Rattle.rule.specs.declared.Verdict.{Verdict}
use Rattle.machine.specs.Machine.{State, idle, Call, open_by, read_by, write_by, close_by, cancel_by, caller_of, Answer, opened_as, value, ok, committed_as, yields, refused, read_request, mark_from, step}
use Rattle.machine.specs.Log.{Exchange, Operation, reads, writes, Transaction, Ending, EndedTransaction, Account, transaction_of, one_more, ended_as, account_of}
use Rattle.machine.specs.Runs.{Leads, new, more, IsOpen}
use Rattle.machine.specs.States.{Within, WithinHeld, AccountWithin}
use Rattle.machine.proofs.Places.{all_places}
use Rattle.machine.proofs.Contacts.{length-mark}
use Rattle.machine.proofs.Turns.{Turn, none, begins, reads_on, writes_on, ends_commit, ends_cancel, ends_yield, turn, recorded_push}
use Rattle.machine.proofs.Outcomes.{Outcome, declines, declines_marked, opens, ends_marked, loses, reads_again, reads_first, writes_again, writes_first, commits, cancels, outcome}
use Rattle.machine.proofs.Sound.{sound}

-- ---- what a step grants

abbrev ValueWithin : ℕ → Call → Type 0
ValueWithin n (open_by c) = Unit {0}
ValueWithin n (read_by c x) = x < n
ValueWithin n (write_by c x w) = Unit {0}
ValueWithin n (close_by c) = Unit {0}
ValueWithin n (cancel_by c) = Unit {0}

abbrev OkWithin : ℕ → Call → Type 0
OkWithin n (open_by c) = Unit {0}
OkWithin n (read_by c x) = Unit {0}
OkWithin n (write_by c x w) = x < n
OkWithin n (close_by c) = Unit {0}
OkWithin n (cancel_by c) = Unit {0}

-- Only an open is answered with an opening number; a granted read or write is of one of the first n cells; the caller is
-- open after a granted read, and before a commit.
abbrev pub Grants : ℕ → State → Call → Answer → State → Type 0
Grants n s k (opened_as i) t = k ≡ open_by (caller_of k)
Grants n s k (value v) t = ValueWithin n k × IsOpen (get_or t.clients (caller_of k) idle)
Grants n s k ok t = OkWithin n k
Grants n s k (committed_as i) t = IsOpen (get_or s.clients (caller_of k) idle)
Grants n s k (yields w x) t = Unit {0}
Grants n s k (refused i) t = Unit {0}

step_grants : (v : Contact → Verdict) (s : State) {k : Call} {r : Answer × State} → length s.clients ≡ 8 → Outcome v s k r → Grants (length s.cells) s k r.0 r.1
step_grants v s e (declines n u) = tt
step_grants v s e (declines_marked l p) = tt
step_grants v s e (opens l p m) = refl
step_grants v s e (ends_marked g l p) = tt
step_grants v s e (loses q m at of p) = tt
step_grants v s e (reads_again d at l p) = (l, subst IsOpen (sym at.stands) tt)
step_grants v s e (reads_first {c = c} {n = n} {x = x} at l p m f) =
    (l, subst IsOpen (sym (get_or-set_same (mark_from v (read_request c n x) 0 s.clients) c _ idle (subst (λ (z : ℕ). c < z) (sym (length-mark v (read_request c n x) 0 s.clients ∙ e)) at.below))) tt)
step_grants v s e (writes_again d at l p) = l
step_grants v s e (writes_first r at l b u m f) = l
step_grants v s e (commits at f) = subst IsOpen (sym at.stands) tt
step_grants v s e (cancels at) = tt

pub grants : (v : Contact → Verdict) (start : List ℕ) {log : List Exchange} {s : State} → Leads (step v) start log s → (k : Call) → Grants (length start) s k (step v s k).0 (step v s k).1
grants v start {s = s} r k = subst (λ (n : ℕ). Grants n s k (step v s k).0 (step v s k).1) (sound v start r).as_many_cells (step_grants v s (sound v start r).eight (outcome v s k))

-- ---- the operations

within_push : (n : ℕ) (ops : List Operation) (o : Operation) → Within n ops → Within n (o ∷ []) → Within n (ops ++ (o ∷ []))
within_push n [] o h k = k
within_push n (reads x v ∷ ops) o h k = (h.0, within_push n ops o h.1 k)
within_push n (writes x v ∷ ops) o h k = (h.0, within_push n ops o h.1 k)

-- the operations of a transaction that is held
pub within_at : (n : ℕ) (a : Account) (c : ℕ) (t : Transaction) → AccountWithin n a → transaction_of a c ≡ Some t → Within n t.operations
within_at n a c t i p = subst (WithinHeld n) p (all_places (WithinHeld n) a.held c None tt i.of_held)

ended_within : (n : ℕ) (a : Account) (c : ℕ) (e : Ending) (t : Transaction) → AccountWithin n a → transaction_of a c ≡ Some t → AccountWithin n (ended_as a c e t)
ended_within n a c e t i p = record {
  of_held = All-set (WithinHeld n) a.held c None tt i.of_held;
  of_ended = All-push (λ (d : EndedTransaction). Within n d.transaction.operations) a.ended _ i.of_ended (within_at n a c t i p);
}

turn_within : (n : ℕ) (s t : State) {a b : Account} {k : Call} {r : Answer} → Turn a k r b → AccountWithin n a → Grants n s k r t → AccountWithin n b
turn_within n s t none i g = i
turn_within n s t {a = a} (begins {k = k}) i g = record { of_held = All-set (WithinHeld n) a.held (caller_of k) _ tt i.of_held; of_ended = i.of_ended }
turn_within n s t {a = a} (reads_on {c = c} {x = x} {v = v} u p) i g = record {
  of_held = All-set (WithinHeld n) a.held c (Some (one_more u (reads x v))) (within_push n u.operations (reads x v) (within_at n a c u i p) (g.0, tt)) i.of_held;
  of_ended = i.of_ended;
}
turn_within n s t {a = a} (writes_on {c = c} {x = x} {v = v} u p) i g = record {
  of_held = All-set (WithinHeld n) a.held c (Some (one_more u (writes x v))) (within_push n u.operations (writes x v) (within_at n a c u i p) (g, tt)) i.of_held;
  of_ended = i.of_ended;
}
turn_within n s t {a = a} (ends_commit {k = k} u p) i g = ended_within n a (caller_of k) _ u i p
turn_within n s t {a = a} (ends_cancel {c = c} u p) i g = ended_within n a c _ u i p
turn_within n s t {a = a} (ends_yield {k = k} u p) i g = ended_within n a (caller_of k) _ u i p

pub within : (v : Contact → Verdict) (start : List ℕ) {log : List Exchange} {s : State} → Leads (step v) start log s → AccountWithin (length start) (account_of log)
within v start new = record { of_held = (tt, (tt, (tt, (tt, (tt, (tt, (tt, (tt, tt)))))))); of_ended = tt }
within v start (more {log = log} {s = s} r k) = subst (AccountWithin (length start)) (sym (recorded_push _ log _))
    (turn_within (length start) s (step v s k).1 (turn (account_of log) k (step v s k).0) (within v start r) (grants v start r k))
