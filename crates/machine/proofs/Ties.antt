-- What ties the machine's state to the account of its log, and that each step keeps it. Assumes nothing.
use Rattle.std.proofs.Common.{◌≡◌, ℕ, zero, suc, ◌+◌, List, [], ◌∷◌, ◌++◌, length, get_or, set, replicate, Some, None, Option, sym, refl, ap, ◌∙◌, subst, zero-add, suc-ne-zero, length-set}
use native.Mathlib.Nat.{suc_inj}
use lib.Seq.{set-get_or}
use Rattle.std.specs.List.{AllByRecursion}
use Rattle.rule.specs.Verdicts.{Lawful, Proper}
use Rattle.rule.specs.declared.Contact.{Contact}
use Rattle.rule.specs.declared.Verdict.{Verdict}
use Rattle.machine.specs.declared.Entry.{Entry}
use Rattle.machine.specs.Machine.{State, Standing, idle, open_with, marked, Call, caller_of, Answer, known, read_entry, fill, store, maybe, Request, read_request, write_request, close_request, write_granted, close_granted, contacts_with, first_that, is_caller_yields, is_other_yields, mark_one, mark_from, first_yield, end_yielding, with_opened, do_cancel, step}
use Rattle.machine.specs.Log.{Exchange, Operation, reads, writes, Transaction, Ending, by_commit, by_cancel, by_yield, EndedTransaction, Account, transaction_of, put_held, one_more, joins, ended_as, ends, recorded, account_of, if_commit, commits_of, left_by, left_by_all}
use Rattle.machine.specs.Runs.{Leads, new, more, IsOpen}
use Rattle.machine.proofs.Places.{same_places}
use Rattle.machine.proofs.Operations.{Alone}
use Rattle.machine.proofs.Tables.{length-store}
use Rattle.machine.proofs.Holds.{Holds, holds_open, holds_moved, holds_known, holds_first_read, holds_write, holds_now}
use Rattle.machine.proofs.Contacts.{maybe_both, contacts_none, mark_at, length-mark, clear, agrees_clear}
use Rattle.machine.proofs.Turns.{recorded_push}
use Rattle.machine.proofs.Outcomes.{OpenAt, marking, Outcome, declines, declines_marked, opens, ends_marked, loses, reads_again, reads_first, writes_again, writes_first, commits, cancels, outcome}
use Rattle.machine.proofs.Proper.{proper_at, table_asks}

-- how a client stands fits what the log tells of it
abbrev pub Fits : List ℕ → Standing → Option Transaction → Type 0
Fits cells idle None = Unit {0}
Fits cells idle (Some t) = ⊥
Fits cells (open_with n es) None = ⊥
Fits cells (open_with n es) (Some t) = Holds cells es t.operations × (t.opening_number ≡ n)
Fits cells (marked w x) None = ⊥
Fits cells (marked w x) (Some t) = Unit {0}

pub record Tied (start : List ℕ) (s : State) (a : Account) : Type 0 where
  pub same : s.cells ≡ left_by_all (commits_of a.ended) start
  pub eight : length s.clients ≡ 8
  pub as_many : length a.held ≡ 8
  pub fits : (c : ℕ) → Fits s.cells (get_or s.clients c idle) (transaction_of a c)

-- ---- the transaction of a client that holds one

pub fits_open : (cells : List ℕ) (st : Standing) (o : Option Transaction) (n : ℕ) (es : List Entry) → Fits cells st o → st ≡ open_with n es → (t : Transaction) × (o ≡ Some t) × Holds cells es t.operations × (t.opening_number ≡ n)
fits_open cells st o n es h p = from o (subst (λ (z : Standing). Fits cells z o) p h)
  where
    from : (o : Option Transaction) → Fits cells (open_with n es) o → (t : Transaction) × (o ≡ Some t) × Holds cells es t.operations × (t.opening_number ≡ n)
    from None g = absurd g
    from (Some t) g = (t, refl, g.0, g.1)

pub fits_marked : (cells : List ℕ) (st : Standing) (o : Option Transaction) (w x : ℕ) → Fits cells st o → st ≡ marked w x → (t : Transaction) × (o ≡ Some t)
fits_marked cells st o w x h p = from o (subst (λ (z : Standing). Fits cells z o) p h)
  where
    from : (o : Option Transaction) → Fits cells (marked w x) o → (t : Transaction) × (o ≡ Some t)
    from None g = absurd g
    from (Some t) g = (t, refl)

-- an open transaction reads as if it were run alone on the cells as they stand
fits_alone : (cells : List ℕ) (st : Standing) (t : Transaction) → Fits cells st (Some t) → IsOpen st → Alone t.operations cells
fits_alone cells idle t h o = absurd o
fits_alone cells (open_with n es) t h o = holds_now cells es t.operations h.0
fits_alone cells (marked w x) t h o = absurd o

pub open_alone : (start : List ℕ) (s : State) (a : Account) (c : ℕ) (t : Transaction) → Tied start s a → IsOpen (get_or s.clients c idle) → transaction_of a c ≡ Some t → Alone t.operations (left_by_all (commits_of a.ended) start)
open_alone start s a c t i o p = subst (Alone t.operations) i.same (fits_alone s.cells (get_or s.clients c idle) t (subst (Fits s.cells (get_or s.clients c idle)) p (i.fits c)) o)

joins_some : (a : Account) (c : ℕ) (o : Operation) (t : Transaction) → transaction_of a c ≡ Some t → joins a c o ≡ put_held a c (Some (one_more t o))
joins_some a c o t p = ap (λ (z : Option Transaction). maybe z a (λ t. put_held a c (Some (one_more t o)))) p

ends_some : (a : Account) (c : ℕ) (e : Ending) (t : Transaction) → transaction_of a c ≡ Some t → ends a c e ≡ ended_as a c e t
ends_some a c e t p = ap (λ (z : Option Transaction). maybe z a (ended_as a c e)) p

-- ---- one more that ended

if_commit_push : (e : Ending) (ops : List Operation) (rest last : List (List Operation)) → if_commit e ops (rest ++ last) ≡ if_commit e ops rest ++ last
if_commit_push by_commit ops rest last = refl
if_commit_push by_cancel ops rest last = refl
if_commit_push (by_yield w x) ops rest last = refl

pub commits_push : (es : List EndedTransaction) (e : EndedTransaction) → commits_of (es ++ (e ∷ [])) ≡ commits_of es ++ if_commit e.how e.transaction.operations []
commits_push [] e = refl
commits_push (d ∷ es) e = ap (if_commit d.how d.transaction.operations) (commits_push es e) ∙ if_commit_push d.how d.transaction.operations (commits_of es) _

left_push : (ts : List (List Operation)) (t : List Operation) (cells : List ℕ) → left_by_all (ts ++ (t ∷ [])) cells ≡ left_by t (left_by_all ts cells)
left_push [] t cells = refl
left_push (u ∷ ts) t cells = left_push ts t (left_by u cells)

left_nil : (ts : List (List Operation)) (cells : List ℕ) → left_by_all (ts ++ []) cells ≡ left_by_all ts cells
left_nil [] cells = refl
left_nil (u ∷ ts) cells = left_nil ts (left_by u cells)

-- ---- one client's place is written, on both sides

fits_set : (cells : List ℕ) (ss : List Standing) (ts : List (Option Transaction)) (c : ℕ) (s : Standing) (t : Option Transaction) → length ss ≡ length ts → Fits cells s t
    → ((d : ℕ) → (d ≡ c → ⊥) → Fits cells (get_or ss d idle) (get_or ts d None)) → (d : ℕ) → Fits cells (get_or (set ss c s) d idle) (get_or (set ts c t) d None)
fits_set cells [] [] c s t e h f d = tt
fits_set cells [] (t₀ ∷ ts) c s t e h f d = absurd (suc-ne-zero _ (sym e))
fits_set cells (s₀ ∷ ss) [] c s t e h f d = absurd (suc-ne-zero _ e)
fits_set cells (s₀ ∷ ss) (t₀ ∷ ts) zero s t e h f zero = h
fits_set cells (s₀ ∷ ss) (t₀ ∷ ts) zero s t e h f (suc d) = f (suc d) (λ p. suc-ne-zero _ p)
fits_set cells (s₀ ∷ ss) (t₀ ∷ ts) (suc c) s t e h f zero = f zero (λ p. suc-ne-zero _ (sym p))
fits_set cells (s₀ ∷ ss) (t₀ ∷ ts) (suc c) s t e h f (suc d) = fits_set cells ss ts c s t (suc_inj e) h (λ k n. f (suc k) (λ p. n (suc_inj p))) d

module _ (start : List ℕ) where
  -- the new state u and the new account b have the old places but for that of c
  place : (u : State) (b : Account) (ss : List Standing) (ts : List (Option Transaction)) (c : ℕ) (st : Standing) (o : Option Transaction) → u.clients ≡ set ss c st → b.held ≡ set ts c o → length ss ≡ 8 → length ts ≡ 8
      → u.cells ≡ left_by_all (commits_of b.ended) start → Fits u.cells st o → ((d : ℕ) → (d ≡ c → ⊥) → Fits u.cells (get_or ss d idle) (get_or ts d None)) → Tied start u b
  place u b ss ts c st o p q l m e h f = record {
    same = e;
    eight = ap length p ∙ length-set ss c st ∙ l;
    as_many = ap length q ∙ length-set ts c o ∙ m;
    fits = λ d. rw (p, q) (fits_set u.cells ss ts c st o (l ∙ sym m) h f d);
  }

  ended_same : (a : Account) (c : ℕ) (e : Ending) (t : Transaction) → if_commit e t.operations [] ≡ [] → left_by_all (commits_of (ended_as a c e t).ended) start ≡ left_by_all (commits_of a.ended) start
  ended_same a c e t n = ap (λ (z : List (List Operation)). left_by_all z start) (commits_push a.ended (record { client = c; transaction = t; how = e }) ∙ ap (λ (z : List (List Operation)). commits_of a.ended ++ z) n) ∙ left_nil (commits_of a.ended) start

  -- a transaction ends with no commit
  ends_tied : (s u : State) (a : Account) (c : ℕ) (e : Ending) (t : Transaction) → if_commit e t.operations [] ≡ [] → transaction_of a c ≡ Some t → Tied start s a → u.cells ≡ s.cells → u.clients ≡ set s.clients c idle → Tied start u (ends a c e)
  ends_tied s u a c e t n q i cells clients = rw (ends_some a c e t q)
      (place u (ended_as a c e t) s.clients a.held c idle None clients refl i.eight i.as_many (cells ∙ i.same ∙ sym (ended_same a c e t n)) tt (λ d ne. rw cells (i.fits d)))

  -- ---- marks

  fits_mark : (v : Contact → Verdict) (q : Request) (cells : List ℕ) (d : ℕ) (s : Standing) (t : Option Transaction) → Fits cells s t → Fits cells (mark_one v q d s) t
  fits_mark v q cells d idle t h = h
  fits_mark v q cells d (marked w x) t h = h
  fits_mark v q cells d (open_with n es) None h = absurd h
  fits_mark v q cells d (open_with n es) (Some t) h = maybe_both (λ z. Fits cells z (Some t)) (first_that (λ k. is_other_yields (v k)) (contacts_with q d (open_with n es))) (open_with n es) (λ k. marked q.caller k.cell) (λ e. h) (λ k e. tt)

  marks_fit : (v : Contact → Verdict) (q : Request) (s : State) (a : Account) → Tied start s a → (d : ℕ) → Fits s.cells (get_or (mark_from v q 0 s.clients) d idle) (transaction_of a d)
  marks_fit v q s a i d = subst (λ (st : Standing). Fits s.cells st (transaction_of a d)) (sym (mark_at v q 0 s.clients d d (zero-add d))) (fits_mark v q s.cells d (get_or s.clients d idle) (transaction_of a d) (i.fits d))

  -- ---- a close

  -- who is not the closer, and stays open, read nothing that the closer wrote
  fits_close : (v : Contact → Verdict) → Lawful v → (cells : List ℕ) (c n d : ℕ) (es : List Entry) (s : Standing) (t : Option Transaction) → (d ≡ c → ⊥) → Fits cells s t
      → first_that (λ k. is_caller_yields (v k)) (contacts_with (close_request c n es) d s) ≡ None → AllByRecursion Proper (contacts_with (close_request c n es) d s) → Fits (store es cells) (mark_one v (close_request c n es) d s) t
  fits_close v law cells c n d es idle None ne h e proper = tt
  fits_close v law cells c n d es idle (Some t) ne h e proper = h
  fits_close v law cells c n d es (marked w x) None ne h e proper = h
  fits_close v law cells c n d es (marked w x) (Some t) ne h e proper = tt
  fits_close v law cells c n d es (open_with m es') None ne h e proper = absurd h
  fits_close v law cells c n d es (open_with m es') (Some t) ne h e proper = maybe_both (λ z. Fits (store es cells) z (Some t)) (first_that (λ k. is_other_yields (v k)) (contacts_with (close_request c n es) d (open_with m es'))) (open_with m es') (λ k. marked c k.cell)
      (λ g. (holds_moved cells (store es cells) es' t.operations h.0 (length-store es cells) (agrees_clear es es' cells (clear v law c n d m es es' ne e g proper) h.0.agrees), h.1))
      (λ k g. tt)

  -- ---- a step

  module _ (v : Contact → Verdict) (law : Lawful v) (s : State) (a : Account) (i : Tied start s a) where
    -- an open client goes on, with one more operation
    goes_on : (u : State) (c n : ℕ) (next : List Entry) (ss : List Standing) (o : Operation) (t : Transaction) → transaction_of a c ≡ Some t → t.opening_number ≡ n → Holds s.cells next (t.operations ++ (o ∷ []))
        → u.cells ≡ s.cells → u.clients ≡ set ss c (open_with n next) → length ss ≡ 8 → ((d : ℕ) → Fits s.cells (get_or ss d idle) (transaction_of a d)) → Tied start u (joins a c o)
    goes_on u c n next ss o t q e h cells clients l f = rw (joins_some a c o t q)
        (place u (put_held a c (Some (one_more t o))) ss a.held c (open_with n next) (Some (one_more t o)) clients refl l i.as_many (cells ∙ i.same) (rw cells h, e) (λ d ne. rw cells (f d)))

    marked_on : (q : Request) (c n : ℕ) (next : List Entry) (o : Operation) (t : Transaction) → transaction_of a c ≡ Some t → t.opening_number ≡ n → Holds s.cells next (t.operations ++ (o ∷ []))
        → (u : State) → u.cells ≡ s.cells → u.clients ≡ set (mark_from v q 0 s.clients) c (open_with n next) → Tied start u (joins a c o)
    marked_on q c n next o t p e h u cells clients = goes_on u c n next (mark_from v q 0 s.clients) o t p e h cells clients (length-mark v q 0 s.clients ∙ i.eight) (marks_fit v q s a i)

    held_open : (c n : ℕ) (es : List Entry) → OpenAt s c n es → (t : Transaction) × (transaction_of a c ≡ Some t) × Holds s.cells es t.operations × (t.opening_number ≡ n)
    held_open c n es at = fits_open s.cells (get_or s.clients c idle) (transaction_of a c) n es (i.fits c) at.stands

    commit : (c n : ℕ) (es : List Entry) → OpenAt s c n es → first_yield v (close_request c n es) s.clients ≡ None → Tied start (close_granted c es (marking v s (close_request c n es))).1 (ends a c by_commit)
    commit c n es at none = let h = held_open c n es at in rw (ends_some a c by_commit h.0 h.1)
        (place (close_granted c es (marking v s (close_request c n es))).1 (ended_as a c by_commit h.0) (mark_from v (close_request c n es) 0 s.clients) a.held c idle None refl refl (length-mark v (close_request c n es) 0 s.clients ∙ i.eight) i.as_many
        (sym (h.2.left s.cells refl) ∙ ap (left_by h.0.operations) i.same ∙ sym (left_push (commits_of a.ended) h.0.operations start)
        ∙ ap (λ (z : List (List Operation)). left_by_all z start) (sym (commits_push a.ended (record { client = c; transaction = h.0; how = by_commit }))))
        tt
        (λ d ne. subst (λ (st : Standing). Fits (store es s.cells) st (transaction_of a d)) (sym (mark_at v (close_request c n es) 0 s.clients d d (zero-add d)))
        (fits_close v law s.cells c n d es (get_or s.clients d idle) (transaction_of a d) ne (i.fits d) (contacts_none (λ k. is_caller_yields (v k)) (close_request c n es) 0 s.clients d d (zero-add d) none)
        (proper_at (close_request c n es) s.clients d i.eight at.below (table_asks c n es es h.2.table)))))

    step_tied : {k : Call} {r : Answer × State} → Outcome v s k r → Tied start r.1 (recorded a k r.0)
    step_tied (declines n u) = i
    step_tied (declines_marked l p) = i
    step_tied (opens {c = c} l p m) = place (with_opened s c) _ s.clients a.held c (open_with (s.opened + 1) []) (Some (record { opening_number = s.opened + 1; operations = [] })) refl refl i.eight i.as_many i.same (holds_open s.cells, refl) (λ d ne. i.fits d)
    step_tied (ends_marked {k = k} {w = w} {x = x} g l p) = let h = fits_marked s.cells (get_or s.clients (caller_of k) idle) (transaction_of a (caller_of k)) w x (i.fits (caller_of k)) p in
        ends_tied s (end_yielding s (caller_of k)) a (caller_of k) (by_yield w x) h.0 refl h.1 i refl refl
    step_tied (loses {k = k} {n = n} {es = es} q m at of p) = let h = held_open (caller_of k) n es at in
        ends_tied s (end_yielding s (caller_of k)) a (caller_of k) (by_yield m.other.client m.cell) h.0 refl h.1 i refl refl
    step_tied (reads_again {c = c} {n = n} {x = x} {es = es} e at l p) = let h = held_open c n es at in
        goes_on s c n es s.clients (reads x (known e)) h.0 h.1 h.3 (holds_known s.cells es h.0.operations x e h.2 p l) refl (subst (λ (st : Standing). s.clients ≡ set s.clients c st) at.stands (sym (set-get_or s.clients c idle))) i.eight i.fits
    step_tied (reads_first {c = c} {n = n} {x = x} {es = es} at l p m f) = let h = held_open c n es at in
        marked_on (read_request c n x) c n (es ++ (read_entry x (get_or s.cells x 0) ∷ [])) (reads x (get_or s.cells x 0)) h.0 h.1 h.3 (holds_first_read s.cells es h.0.operations x _ h.2 p refl) _ refl refl
    step_tied (writes_again {c = c} {n = n} {x = x} {w = w} {es = es} e at l p) = let h = held_open c n es at in
        goes_on (write_granted c n es x w s).1 c n (fill es x w) s.clients (writes x w) h.0 h.1 h.3 (holds_write s.cells es h.0.operations x w h.2) refl refl i.eight i.fits
    step_tied (writes_first {c = c} {n = n} {x = x} {w = w} {es = es} r at l b u m f) = let h = held_open c n es at in
        marked_on (write_request c n x r) c n (fill es x w) (writes x w) h.0 h.1 h.3 (holds_write s.cells es h.0.operations x w h.2) _ refl refl
    step_tied (commits {c = c} {n = n} {es = es} at f) = commit c n es at f
    step_tied (cancels {c = c} {n = n} {es = es} at) = let h = held_open c n es at in ends_tied s (do_cancel s c).1 a c by_cancel h.0 refl h.1 i refl refl

-- ---- a run

all_idle : (cells : List ℕ) (c : ℕ) → Fits cells (get_or (replicate 8 idle) c idle) (get_or (replicate 8 None) c None)
all_idle cells c = rw (same_places 8 c idle, same_places {X = Option Transaction} 8 c None) tt

pub tied : (v : Contact → Verdict) → Lawful v → (start : List ℕ) {log : List Exchange} {s : State} → Leads (step v) start log s → Tied start s (account_of log)
tied v law start new = record { same = refl; eight = refl; as_many = refl; fits = all_idle start }
tied v law start (more {log = log} {s = s} r k) = subst (Tied start (step v s k).1) (sym (recorded_push _ log _)) (step_tied start v law s (account_of log) (tied v law start r) (outcome v s k))
