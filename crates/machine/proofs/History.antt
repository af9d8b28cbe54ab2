-- Where the log has the last granted read of each transaction, and that its reads are those of the cells then. Assumes nothing.
use Rattle.std.proofs.Common.{◌≡◌, ℕ, zero, suc, ◌⊎◌, List, [], ◌∷◌, ◌++◌, length, get_or, set, Some, None, Option, sym, refl, ap, ◌∙◌, subst, inl, inr, append_assoc, append-nil}
use Rattle.std.specs.List.{AllByRecursion}
use Rattle.std.proofs.ByRecursion.{All-weaker, All-push}
use Rattle.rule.specs.Verdicts.{Lawful}
use Rattle.rule.specs.declared.Contact.{Contact}
use Rattle.rule.specs.declared.Verdict.{Verdict}
use Rattle.machine.specs.Machine.{State, Call, open_by, caller_of, Answer, opened_as, step}
use Rattle.machine.specs.Log.{Exchange, and_then, Operation, reads, writes, Transaction, Ending, EndedTransaction, Account, transaction_of, one_more, recorded, account_of, serial_cells, committed_in}
use Rattle.machine.specs.Runs.{Leads, new, more, BeginsOrReads, at_open, at_read, OnlyWrites, LastRead, Consistent, NotCommitted, ConsistentReads}
use Rattle.machine.proofs.Places.{same_places}
use Rattle.machine.proofs.Operations.{Alone, alone_write}
use Rattle.machine.proofs.Tables.{some≢none, some_same}
use Rattle.machine.proofs.Turns.{Turn, none, begins, reads_on, writes_on, ends_commit, ends_cancel, ends_yield, turn, recorded_push}
use Rattle.machine.proofs.Ties.{Tied, open_alone, tied}
use Rattle.machine.specs.States.{Within}
use Rattle.machine.proofs.Within.{Grants, within_at, grants, within}
use Rattle.machine.proofs.Meaning.{left_all_long, reads_alone}

-- ---- one place of the transactions held

set_some : (ts : List (Option Transaction)) (c d : ℕ) (u t : Transaction) → get_or (set ts c (Some u)) d None ≡ Some t → ((d ≡ c) × (u ≡ t)) ⊎ (get_or ts d None ≡ Some t)
set_some [] c d u t p = inr p
set_some (o ∷ ts) zero zero u t p = inl (refl, some_same u t p)
set_some (o ∷ ts) zero (suc d) u t p = inr p
set_some (o ∷ ts) (suc c) zero u t p = inr p
set_some (o ∷ ts) (suc c) (suc d) u t p = elim (set_some ts c d u t p) [ inl h ↦ inl (ap suc h.0, h.1) | inr h ↦ inr h ]

set_none : (ts : List (Option Transaction)) (c d : ℕ) (t : Transaction) → get_or (set ts c None) d None ≡ Some t → get_or ts d None ≡ Some t
set_none [] c d t p = p
set_none (o ∷ ts) zero zero t p = absurd (some≢none t None p refl)
set_none (o ∷ ts) zero (suc d) t p = p
set_none (o ∷ ts) (suc c) zero t p = p
set_none (o ∷ ts) (suc c) (suc d) t p = set_none ts c d t p

-- ---- one more call

only_push : (ops : List Operation) (x v : ℕ) → OnlyWrites ops → OnlyWrites (ops ++ (writes x v ∷ []))
only_push [] x v h = tt
only_push (reads y u ∷ ops) x v h = h
only_push (writes y u ∷ ops) x v h = only_push ops x v h

-- the transaction read as if it were run alone on the serial run's cells as they stood at its last granted read
record Seen (start : List ℕ) (log : List Exchange) (c : ℕ) (t : Transaction) : Type 0 where
  last_read : LastRead log c t
  alone : Alone t.operations (serial_cells start last_read.before)

longer : (start : List ℕ) (log : List Exchange) (i : Exchange) (c : ℕ) (t : Transaction) → Seen start log c t → Seen start (log ++ (i ∷ [])) c t
longer start log i c t h = let l = h.last_read in record {
  last_read = record {
    before = l.before;
    there = l.there;
    behind = l.behind ++ (i ∷ []);
    in_log = ap (λ (z : List Exchange). z ++ (i ∷ [])) l.in_log ∙ append_assoc l.before (l.there ∷ l.behind) (i ∷ []);
    begins_or_reads = l.begins_or_reads;
    up_to_there = l.up_to_there;
    since = l.since;
    held_there = l.held_there;
    all_operations = l.all_operations;
    last = l.last;
  };
  alone = h.alone;
}

-- the call was the last granted read, or the open
this : (start : List ℕ) (log : List Exchange) (i : Exchange) (c : ℕ) (t : Transaction) → BeginsOrReads c i → transaction_of (account_of (log ++ (i ∷ []))) c ≡ Some t → Alone t.operations (serial_cells start log) → Seen start (log ++ (i ∷ [])) c t
this start log i c t b p h = record {
  last_read = record {
    before = log;
    there = i;
    behind = [];
    in_log = refl;
    begins_or_reads = b;
    up_to_there = t.operations;
    since = [];
    held_there = p;
    all_operations = sym (append-nil t.operations);
    last = tt;
  };
  alone = h;
}

-- the call was a write
written : (start : List ℕ) (log : List Exchange) (c x v : ℕ) (t : Transaction) → Seen start log c t → Seen start log c (one_more t (writes x v))
written start log c x v t h = let l = h.last_read in record {
  last_read = record {
    before = l.before;
    there = l.there;
    behind = l.behind;
    in_log = l.in_log;
    begins_or_reads = l.begins_or_reads;
    up_to_there = l.up_to_there;
    since = l.since ++ (writes x v ∷ []);
    held_there = l.held_there;
    all_operations = ap (λ (z : List Operation). z ++ (writes x v ∷ [])) l.all_operations ∙ append_assoc l.up_to_there l.since (writes x v ∷ []);
    last = only_push l.since x v l.last;
  };
  alone = alone_write t.operations _ x v h.alone;
}

abbrev SeenHeld : List ℕ → List Exchange → Account → Type 0
SeenHeld start log a = (c : ℕ) (t : Transaction) → transaction_of a c ≡ Some t → Seen start log c t

abbrev SeenEnded : List ℕ → List Exchange → List EndedTransaction → Type 0
SeenEnded start log es = AllByRecursion (λ (e : EndedTransaction). Seen start log e.client e.transaction) es

module _ (start : List ℕ) (log : List Exchange) (held : SeenHeld start log (account_of log)) where
  held_turn : (s u : State) (n : ℕ) {k : Call} {r : Answer} {b : Account} → Turn (account_of log) k r b → account_of (and_then log k r) ≡ b → Grants n s k r u → Tied start u b → SeenHeld start (and_then log k r) b
  held_turn s u n none e g i d t p = longer start log _ d t (held d t p)
  held_turn s u n (begins {k = k} {n = m}) e g i d t p = elim (set_some (account_of log).held (caller_of k) d _ t p) [
    | inl h ↦ this start log _ d t (subst (λ (z : Call). BeginsOrReads d (record { call = z; answer = opened_as m })) (sym (g ∙ ap open_by (sym h.0))) at_open) (ap (λ (a : Account). transaction_of a d) e ∙ p) (subst (λ (z : Transaction). Alone z.operations (serial_cells start log)) h.1 tt)
    | inr h ↦ longer start log _ d t (held d t h)
  ]
  held_turn s u n {b = b} (reads_on {c = c} w q) e g i d t p = elim (set_some (account_of log).held c d _ t p) [
    | inl h ↦ this start log _ d t (rw h.0 at_read) (ap (λ (a : Account). transaction_of a d) e ∙ p) (open_alone start u b d t i (rw h.0 g.1) p)
    | inr h ↦ longer start log _ d t (held d t h)
  ]
  held_turn s u n (writes_on {c = c} {x = x} {v = v} w q) e g i d t p = elim (set_some (account_of log).held c d _ t p) [
    | inl h ↦ subst (Seen start _ d) h.1 (rw h.0 (longer start log _ c (one_more w (writes x v)) (written start log c x v w (held c w q))))
    | inr h ↦ longer start log _ d t (held d t h)
  ]
  held_turn s u n (ends_commit {k = k} w q) e g i d t p = longer start log _ d t (held d t (set_none (account_of log).held (caller_of k) d t p))
  held_turn s u n (ends_cancel {c = c} w q) e g i d t p = longer start log _ d t (held d t (set_none (account_of log).held c d t p))
  held_turn s u n (ends_yield {k = k} w q) e g i d t p = longer start log _ d t (held d t (set_none (account_of log).held (caller_of k) d t p))

  all_longer : (i : Exchange) (es : List EndedTransaction) → SeenEnded start log es → SeenEnded start (log ++ (i ∷ [])) es
  all_longer i es h = All-weaker (λ (e : EndedTransaction). Seen start log e.client e.transaction) _ (λ e l. longer start log i e.client e.transaction l) es h

  one_ended : (i : Exchange) (c : ℕ) (t : Transaction) (w : Ending) → transaction_of (account_of log) c ≡ Some t → SeenEnded start log (account_of log).ended → SeenEnded start (log ++ (i ∷ [])) ((account_of log).ended ++ (record { client = c; transaction = t; how = w } ∷ []))
  one_ended i c t w p h = All-push (λ (e : EndedTransaction). Seen start (log ++ (i ∷ [])) e.client e.transaction) (account_of log).ended _ (all_longer i _ h) (longer start log i c t (held c t p))

  ended_turn : {k : Call} {r : Answer} {b : Account} → Turn (account_of log) k r b → SeenEnded start log (account_of log).ended → SeenEnded start (and_then log k r) b.ended
  ended_turn none h = all_longer _ _ h
  ended_turn begins h = all_longer _ _ h
  ended_turn (reads_on t q) h = all_longer _ _ h
  ended_turn (writes_on t q) h = all_longer _ _ h
  ended_turn (ends_commit {k = k} t q) h = one_ended _ (caller_of k) t _ q h
  ended_turn (ends_cancel {c = c} t q) h = one_ended _ c t _ q h
  ended_turn (ends_yield {k = k} t q) h = one_ended _ (caller_of k) t _ q h

-- ---- a run

history : (v : Contact → Verdict) → Lawful v → (start : List ℕ) {log : List Exchange} {s : State} → Leads (step v) start log s → SeenHeld start log (account_of log) × SeenEnded start log (account_of log).ended
history v law start new = (λ c t p. absurd (some≢none t _ p (same_places 8 c None)), tt)
history v law start (more {log = log} {s = s} r k) =
    let e : account_of (and_then log k (step v s k).0) ≡ recorded (account_of log) k (step v s k).0 = recorded_push _ log _ in
    let old = history v law start r in
    let one = turn (account_of log) k (step v s k).0 in (
      subst (SeenHeld start (and_then log k (step v s k).0)) (sym e) (held_turn start log old.0 s (step v s k).1 (length start) one e (grants v start r k) (subst (Tied start (step v s k).1) e (tied v law start (more r k)))),
      subst (λ (b : Account). SeenEnded start (and_then log k (step v s k).0) b.ended) (sym e) (ended_turn start log old.0 one old.1),
    )

seen_consistent : (start : List ℕ) (log : List Exchange) (c : ℕ) (t : Transaction) → Within (length start) t.operations → Seen start log c t → Consistent start log c t
seen_consistent start log c t w h = record {
  last_read = h.last_read;
  reads_alone = reads_alone t.operations _ (subst (λ (n : ℕ). Within n t.operations) (sym (left_all_long (committed_in h.last_read.before) start)) w) h.alone;
}

all_by : (start : List ℕ) (log : List Exchange) (es : List EndedTransaction) → AllByRecursion (λ (e : EndedTransaction). Within (length start) e.transaction.operations) es → SeenEnded start log es
    → AllByRecursion (λ (e : EndedTransaction). NotCommitted e.how → Consistent start log e.client e.transaction) es
all_by start log [] w h = tt
all_by start log (e ∷ es) w h = (λ _. seen_consistent start log e.client e.transaction w.0 h.0, all_by start log es w.1 h.1)

pub consistent : (v : Contact → Verdict) → Lawful v → (start : List ℕ) {log : List Exchange} {s : State} → Leads (step v) start log s → ConsistentReads start log
consistent v law start {log = log} r = record {
  of_held = λ c t p. seen_consistent start log c t (within_at (length start) (account_of log) c t (within v start r) p) ((history v law start r).0 c t p);
  of_ended = all_by start log (account_of log).ended (within v start r).of_ended (history v law start r).1;
}
