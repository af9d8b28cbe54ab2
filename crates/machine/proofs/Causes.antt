-- How each client stands after a call, and the causes. Assumes nothing.
use Rattle.std.proofs.Common.{◌≡◌, ℕ, zero, suc, ◌+◌, ◌<◌, Bool, true, false, ◌||◌, eqb, ltb, List, [], ◌∷◌, map, length, get_or, set, is_some, Some, None, Option, sym, refl, ap, ◌∙◌, subst, inl, inr, add-zero, zero-add, arith, get_or-set_other, get_or-set_same}
use Rattle.std.specs.List.{AllByRecursion}
use Rattle.std.proofs.ByRecursion.{All-weaker, All-map, All-append}
use Rattle.std.proofs.lemmas.Bool.{cond_both, cases_eq, cases_Bool, cond-true, cond-false, eqb-false, ltb-true, ltb-false, or_cases, true≢false, false≢true}
use Rattle.rule.specs.Verdicts.{Lawful, Proper, touched}
use Rattle.rule.specs.declared.Contact.{Contact}
use Rattle.rule.specs.declared.Event.{Event}
use Rattle.rule.specs.declared.Side.{Side}
use Rattle.rule.specs.declared.Verdict.{Verdict}
use Rattle.rule.specs.declared.Verdict.TheVariants.{BothStand, CallerYields, OtherYields}
use Rattle.machine.specs.declared.Entry.{Entry}
use Rattle.machine.specs.Machine.{State, Standing, idle, open_with, marked, Call, open_by, read_by, write_by, close_by, cancel_by, caller_of, Answer, declined_with, entry_of, was_read, was_written, maybe, Point, point_of, Request, read_request, write_request, close_request, contact_at, contacts_with, contacts_from, first_that, is_caller_yields, is_other_yields, mark_one, mark_from, first_yield, step}
use Rattle.machine.specs.Log.{Exchange, Transaction, Account, transaction_of, account_of, table_of}
use Rattle.machine.specs.Runs.{Leads, HasTouchedCell, HasWrittenCell, operations_of, entry_told, number_told, event_of, side_of_caller, side_of_other, contact_told, JudgedOn, TouchedBy, WrittenBy, IsOpen, IsUnmarked, CauseToYield, Change, does_not_call, is_refused, begins, reads_on, writes_on, yields_at_once, gets_marked, stays_marked, Changes}
use Rattle.machine.specs.Runs as run
use Rattle.machine.specs.States.{SoundTable}
use Rattle.machine.proofs.Operations.{writes_touches}
use Rattle.machine.proofs.Tables.{some≢none, some_same, entry_here, entry_there}
use Rattle.machine.proofs.Contacts.{maybe_both, mark_at, length-mark}
use Rattle.machine.proofs.Proper.{own_side, Asks, past_idle, open_below}
use Rattle.machine.proofs.Ties.{Tied, fits_open, tied}
use Rattle.machine.proofs.Outcomes.{OpenAt, RequestOf, of_read, of_write, of_close, Outcome, declines, declines_marked, opens, ends_marked, loses, reads_again, reads_first, writes_again, writes_first, commits, cancels, outcome}

caller_yields_not : (r : Verdict) → is_caller_yields r ≡ true → r ≡ BothStand → ⊥
caller_yields_not r p q = true≢false (sym p ∙ ap is_caller_yields q)

caller_yields_is : (r : Verdict) → is_caller_yields r ≡ true → r ≡ CallerYields
caller_yields_is BothStand p = absurd (false≢true p)
caller_yields_is CallerYields p = refl
caller_yields_is OtherYields p = absurd (false≢true p)

other_yields_is : (r : Verdict) → is_other_yields r ≡ true → r ≡ OtherYields
other_yields_is BothStand p = absurd (false≢true p)
other_yields_is CallerYields p = absurd (false≢true p)
other_yields_is OtherYields p = refl

side_same : (c n m : ℕ) (r r' w w' : Bool) → n ≡ m → r ≡ r' → w ≡ w' → ◌≡◌ {A = Side} (record { client = c; number = n; read = r; written = w }) (record { client = c; number = m; read = r'; written = w' })
side_same c n m r r' w w' p q t = cc

contact_same : (e e' : Event) (x : ℕ) (c c' o o' : Side) → e ≡ e' → c ≡ c' → o ≡ o' → ◌≡◌ {A = Contact} (record { event = e; cell = x; caller = c; other = o }) (record { event = e'; cell = x; caller = c'; other = o' })
contact_same e e' x c c' o o' p q t = cc

other_yields_not : (r : Verdict) → is_other_yields r ≡ true → r ≡ BothStand → ⊥
other_yields_not r p q = true≢false (sym p ∙ ap is_other_yields q)

request_caller : {c n : ℕ} {es : List Entry} {k : Call} {q : Request} → RequestOf c n es k q → q.caller ≡ c
request_caller (of_read z) = refl
request_caller (of_write f z) = refl
request_caller of_close = refl

-- the first that passes a test passes it, and is as all are
first_is : (P : Contact → Type 0) (f : Contact → Bool) (ks : List Contact) (m : Contact) → AllByRecursion P ks → first_that f ks ≡ Some m → (f m ≡ true) × P m
first_is P f [] m h p = absurd (some≢none m None p refl)
first_is P f (k ∷ ks) m h p = elim (cases_Bool (f k)) [
  | inl t ↦ let e = some_same k m (sym (cond-true (f k) (Some k) (first_that f ks) t) ∙ p) in (subst (λ (z : Contact). f z ≡ true) e t, subst P e h.0)
  | inr t ↦ first_is P f ks m h.1 (sym (cond-false (f k) (Some k) (first_that f ks) t) ∙ p)
]

module _ (start : List ℕ) (s : State) (a : Account) (i : Tied start s a) where
  -- ---- flags of a table as operations of the account

  -- of a client that is open: its transaction, whose operations its table tells
  record Tells (d n : ℕ) (es : List Entry) : Type 0 where
    number_is : n ≡ number_told a d
    table_is : es ≡ table_of (operations_of a d)
    begun : transaction_of a d ≡ None → ⊥
    table : SoundTable es
    touch : (x : ℕ) → (was_read (entry_of x es) || was_written (entry_of x es)) ≡ true → HasTouchedCell x (operations_of a d)
    write : (x : ℕ) → was_written (entry_of x es) ≡ true → HasWrittenCell x (operations_of a d)
    untouched : (x : ℕ) → entry_of x es ≡ None → HasTouchedCell x (operations_of a d) → ⊥
    unwritten : (x : ℕ) → was_written (entry_of x es) ≡ false → HasWrittenCell x (operations_of a d) → ⊥

  table_tells : (d n : ℕ) (es : List Entry) → get_or s.clients d idle ≡ open_with n es → Tells d n es
  table_tells d n es p =
      let h = fits_open s.cells (get_or s.clients d idle) (transaction_of a d) n es (i.fits d) p in
      let o : h.0.operations ≡ operations_of a d = sym (ap (λ (z : Option Transaction). maybe z [] (λ t. t.operations)) h.1) in
      record {
        number_is = sym h.3 ∙ sym (ap (λ (z : Option Transaction). maybe z 0 (λ t. t.opening_number)) h.1);
        table_is = h.2.is_table ∙ ap table_of o;
        begun = some≢none h.0 (transaction_of a d) h.1;
        table = h.2.table;
        touch = λ x t. subst (HasTouchedCell x) o (elim (or_cases (was_read (entry_of x es)) (was_written (entry_of x es)) t) [ inl r ↦ h.2.touch x r | inr w ↦ writes_touches h.0.operations x (h.2.write x w) ]);
        write = λ x w. subst (HasWrittenCell x) o (h.2.write x w);
        untouched = λ x n t. h.2.untouched x n (subst (HasTouchedCell x) (sym o) t);
        unwritten = λ x n t. h.2.unwritten x n (subst (HasWrittenCell x) (sym o) t);
      }

  -- ---- contacts

  -- what the caller's side of a point says of the operations, the request counted
  record Asked (k : Call) (q : Request) (p : Point) : Type 0 where
    requested : Asks q p
    judged : JudgedOn a k p.cell
    event_is : q.event ≡ event_of k
    side_is : own_side q p ≡ side_of_caller a k p.cell
    touches : (p.read || p.written) ≡ true → TouchedBy a k (caller_of k) p.cell
    writes : p.written ≡ true → WrittenBy a k (caller_of k) p.cell

  -- each entry of a table is the one of its cell
  own_entries : (es : List Entry) → SoundTable es → AllByRecursion (λ (e : Entry). (entry_of e.cell es ≡ Some e) × ((is_some e.read || is_some e.written) ≡ true)) es
  own_entries [] h = tt
  own_entries (e ∷ es) h = (
    (entry_here e es e.cell refl, h.1),
    All-weaker _ (λ (d : Entry). (entry_of d.cell (e ∷ es) ≡ Some d) × ((is_some d.read || is_some d.written) ≡ true))
        (λ d p. (entry_there e es d.cell (λ q. some≢none d _ (ap (λ (z : ℕ). entry_of z es) q ∙ p.0) h.0) ∙ p.0, p.1)) es (own_entries es h.2),
  )

  asked_of : {k : Call} {q : Request} (c n : ℕ) (es : List Entry) → get_or s.clients c idle ≡ open_with n es → RequestOf c n es k q → AllByRecursion (Asked k q) q.points
  asked_of c n es p (of_read {x = x} z) = let h = table_tells c n es p in (
    record {
      requested = refl;
      judged = (refl, h.untouched x z);
      event_is = refl;
      side_is = side_same c n (number_told a c) true true false (was_written (entry_told a c x)) h.number_is refl (sym (ap (λ (t : List Entry). was_written (entry_of x t)) (sym h.table_is) ∙ ap was_written z));
      touches = λ t. inr (refl, refl);
      writes = λ t. absurd (false≢true t);
    },
    tt,
  )
  asked_of c n es p (of_write {x = x} {r = r} f z) = let h = table_tells c n es p in (
    record {
      requested = refl;
      judged = (refl, h.unwritten x z);
      event_is = refl;
      side_is = side_same c n (number_told a c) r (was_read (entry_told a c x)) true true h.number_is (f ∙ ap (λ (t : List Entry). was_read (entry_of x t)) h.table_is) refl;
      touches = λ t. inr (refl, refl);
      writes = λ t. inr (refl, refl);
    },
    tt,
  )
  asked_of c n es p of_close = let h = table_tells c n es p in
      All-map (Asked (close_by c) (close_request c n es)) point_of es (All-weaker _ (λ (d : Entry). Asked (close_by c) (close_request c n es) (point_of d)) (λ d o. record {
        requested = o.1;
        judged = h.touch d.cell (subst (λ (z : Option Entry). (was_read z || was_written z) ≡ true) (sym o.0) o.1);
        event_is = refl;
        side_is = side_same c n (number_told a c) (is_some d.read) (was_read (entry_told a c d.cell)) (is_some d.written) (was_written (entry_told a c d.cell)) h.number_is
            (sym (ap was_read o.0) ∙ ap (λ (t : List Entry). was_read (entry_of d.cell t)) h.table_is) (sym (ap was_written o.0) ∙ ap (λ (t : List Entry). was_written (entry_of d.cell t)) h.table_is);
        touches = λ t. inl (h.touch d.cell (subst (λ (z : Option Entry). (was_read z || was_written z) ≡ true) (sym o.0) t));
        writes = λ t. inl (h.write d.cell (ap was_written o.0 ∙ t));
      }) es (own_entries es h.table))

  record Met (k : Call) (m : Contact) : Type 0 where
    proper : Proper m
    judged : JudgedOn a k m.cell
    is_told : m ≡ contact_told a k m.other.client m.cell
    apart : m.other.client ≡ caller_of k → ⊥
    other_begun : transaction_of a m.other.client ≡ None → ⊥
    other_open : IsOpen (get_or s.clients m.other.client idle)
    touches : touched m.caller ≡ true → TouchedBy a k (caller_of k) m.cell
    writes : m.caller.written ≡ true → WrittenBy a k (caller_of k) m.cell
    other_touches : touched m.other ≡ true → HasTouchedCell m.cell (operations_of a m.other.client)
    other_writes : m.other.written ≡ true → HasWrittenCell m.cell (operations_of a m.other.client)

  module _ (k : Call) (q : Request) (c : q.caller ≡ caller_of k) (l : caller_of k < 8) (asked : AllByRecursion (Asked k q) q.points) where
    met_with : (d : ℕ) (st : Standing) → get_or s.clients d idle ≡ st → AllByRecursion (λ (m : Contact). Met k m × (m.other.client ≡ d)) (contacts_with q d st)
    met_with d idle p = tt
    met_with d (marked w x) p = tt
    met_with d (open_with n es) p = cond_both (eqb d q.caller) [] (map (contact_at q d n es) q.points) (AllByRecursion (λ (m : Contact). Met k m × (m.other.client ≡ d)))
        (λ e. tt)
        (λ e. let t = table_tells d n es p in All-map (λ (m : Contact). Met k m × (m.other.client ≡ d)) (contact_at q d n es) q.points (All-weaker (Asked k q) _ (λ r h. (
          record {
            proper = record { requested = h.requested; apart = λ z. eqb-false d q.caller e (sym z); caller_below = rw c l; other_below = open_below s.clients d n es i.eight p };
            judged = h.judged;
            is_told = contact_same q.event (event_of k) r.cell (own_side q r) (side_of_caller a k r.cell) _ (side_of_other a d r.cell) h.event_is h.side_is
                (side_same d n (number_told a d) _ _ _ _ t.number_is (ap (λ (z : List Entry). was_read (entry_of r.cell z)) t.table_is) (ap (λ (z : List Entry). was_written (entry_of r.cell z)) t.table_is));
            apart = λ z. eqb-false d q.caller e (z ∙ sym c);
            other_begun = t.begun;
            other_open = subst IsOpen (sym p) tt;
            touches = h.touches;
            writes = h.writes;
            other_touches = t.touch r.cell;
            other_writes = t.write r.cell;
          },
          refl,
        )) q.points asked))

    met_from : (j : ℕ) (ss : List Standing) → ((d e : ℕ) → j + d ≡ e → AllByRecursion (Met k) (contacts_with q e (get_or ss d idle))) → AllByRecursion (Met k) (contacts_from q j ss)
    met_from j [] f = tt
    met_from j (u ∷ ss) f = All-append (Met k) (contacts_with q j u) (contacts_from q (suc j) ss) (f zero j (add-zero j)) (met_from (suc j) ss (λ d e p. f (suc d) e (omega arith)))

    met : AllByRecursion (Met k) (contacts_from q 0 s.clients)
    met = met_from 0 s.clients (λ d e z. All-weaker (λ (m : Contact). Met k m × (m.other.client ≡ e)) (Met k) (λ m h. h.0) _
        (met_with e (get_or s.clients d idle) (ap (λ (n : ℕ). get_or s.clients n idle) (sym z ∙ zero-add d))))

    -- ---- causes

    caller_cause : (v : Contact → Verdict) → Lawful v → (m : Contact) → Met k m → is_caller_yields (v m) ≡ true → CauseToYield v s a k (caller_of k) m.other.client m.cell
    caller_cause v law m h y = let why = law.cause m h.proper (caller_yields_not (v m) y) in record {
      judged = h.judged;
      ruled = inl (refl, ap v (sym h.is_told) ∙ caller_yields_is (v m) y);
      another = λ e. h.apart (sym e);
      begun = h.other_begun;
      unmarked = h.other_open;
      touched_by_it = h.touches why.0;
      touched_by_other = inl (h.other_touches why.1);
      written = elim why.2 [ inl w ↦ inl (h.writes w) | inr w ↦ inr (inl (h.other_writes w)) ];
    }

    lose_cause : (v : Contact → Verdict) → Lawful v → (m : Contact) → first_yield v q s.clients ≡ Some m → CauseToYield v s a k (caller_of k) m.other.client m.cell
    lose_cause v law m p = let good = first_is (Met k) (λ k. is_caller_yields (v k)) (contacts_from q 0 s.clients) m met p in caller_cause v law m good.1 good.0

    module _ (n : ℕ) (es : List Entry) (here : get_or s.clients (caller_of k) idle ≡ open_with n es) where
      other_cause : (v : Contact → Verdict) → Lawful v → (m : Contact) → Met k m → is_other_yields (v m) ≡ true → CauseToYield v s a k m.other.client (caller_of k) m.cell
      other_cause v law m h y = let why = law.cause m h.proper (other_yields_not (v m) y) in record {
        judged = h.judged;
        ruled = inr (refl, ap v (sym h.is_told) ∙ other_yields_is (v m) y);
        another = h.apart;
        begun = (table_tells (caller_of k) _ es here).begun;
        unmarked = subst IsOpen (sym here) tt;
        touched_by_it = inl (h.other_touches why.1);
        touched_by_other = h.touches why.0;
        written = elim why.2 [ inl w ↦ inr (h.writes w) | inr w ↦ inl (inl (h.other_writes w)) ];
      }

      mark_change : (v : Contact → Verdict) → Lawful v → (r : Answer) → declined_with r ≡ None → (d : ℕ) → (d ≡ caller_of k → ⊥) → (st : Standing) → get_or s.clients d idle ≡ st → Change v s a k r d st (mark_one v q d st)
      mark_change v law r g d ne idle p = does_not_call ne
      mark_change v law r g d ne (marked w x) p = does_not_call ne
      mark_change v law r g d ne (open_with i es') p = maybe_both (Change v s a k r d (open_with i es')) (first_that (λ k. is_other_yields (v k)) (contacts_with q d (open_with i es'))) (open_with i es') (λ m. marked q.caller m.cell)
          (λ e. does_not_call ne)
          (λ m e. let good = first_is (λ (m : Contact). Met k m × (m.other.client ≡ d)) (λ k. is_other_yields (v k)) (contacts_with q d (open_with i es')) m (met_with d (open_with i es') p) e in
          rw c (gets_marked g (subst (λ (z : ℕ). CauseToYield v s a k z (caller_of k) m.cell) good.1.1 (other_cause v law m good.1.0 good.0))))

      marks_change : (v : Contact → Verdict) → Lawful v → (r : Answer) → declined_with r ≡ None → (d : ℕ) → (d ≡ caller_of k → ⊥) → Change v s a k r d (get_or s.clients d idle) (get_or (mark_from v q 0 s.clients) d idle)
      marks_change v law r g d ne = subst (Change v s a k r d (get_or s.clients d idle)) (sym (mark_at v q 0 s.clients d d (zero-add d))) (mark_change v law r g d ne (get_or s.clients d idle) refl)

  -- ---- the caller's place is written, and the others are those of ss

  module _ (v : Contact → Verdict) (law : Lawful v) where
    abbrev ChangesTo : Call → Answer → List Standing → Type 0
    ChangesTo k r ss = (d : ℕ) → Change v s a k r d (get_or s.clients d idle) (get_or ss d idle)

    abbrev OthersTo : Call → Answer → List Standing → Type 0
    OthersTo k r ss = (d : ℕ) → (d ≡ caller_of k → ⊥) → Change v s a k r d (get_or s.clients d idle) (get_or ss d idle)

    placed : (k : Call) (r : Answer) (ss : List Standing) (st : Standing) → length ss ≡ 8 → caller_of k < 8 → Change v s a k r (caller_of k) (get_or s.clients (caller_of k) idle) st → OthersTo k r ss → ChangesTo k r (set ss (caller_of k) st)
    placed k r ss st e l own others d = elim (cases_eq d (caller_of k)) [
      | inl z ↦ rw (z, get_or-set_same ss (caller_of k) st idle (subst (λ (n : ℕ). caller_of k < n) (sym e) l)) own
      | inr z ↦ rw (get_or-set_other ss (caller_of k) d st idle z) (others d z)
    ]

    alone_changed : (k : Call) (r : Answer) (st : Standing) → caller_of k < 8 → Change v s a k r (caller_of k) (get_or s.clients (caller_of k) idle) st → ChangesTo k r (set s.clients (caller_of k) st)
    alone_changed k r st l own = placed k r s.clients st i.eight l own (λ d ne. does_not_call ne)

    -- the request of an open client is granted
    granted : (k : Call) (r : Answer) (n : ℕ) (es : List Entry) (q : Request) (st : Standing) → OpenAt s (caller_of k) n es → RequestOf (caller_of k) n es k q
        → declined_with r ≡ None → Change v s a k r (caller_of k) (open_with n es) st → ChangesTo k r (set (mark_from v q 0 s.clients) (caller_of k) st)
    granted k r n es q st at of g own = placed k r (mark_from v q 0 s.clients) st (length-mark v q 0 s.clients ∙ i.eight) at.below (rw at.stands own)
        (marks_change k q (request_caller of) at.below (asked_of (caller_of k) n es at.stands of) n es at.stands v law r g)

    caller_unmarked : (c : ℕ) → (c < 8 → IsUnmarked (get_or s.clients c idle)) → IsUnmarked (get_or s.clients c idle)
    caller_unmarked c u = elim (cases_Bool (ltb c 8)) [
      | inl l ↦ u (ltb-true _ _ l)
      | inr l ↦ subst IsUnmarked (sym (past_idle s.clients c i.eight (ltb-false _ _ l))) tt
    ]

    step_changes : {k : Call} {r : Answer × State} → Outcome v s k r → Changes v s a k r.0 r.1
    step_changes (declines {k = k} n u) = λ d. elim (cases_eq d (caller_of k)) [
      | inl z ↦ is_refused (rw z (caller_unmarked (caller_of k) u)) refl
      | inr z ↦ does_not_call z
    ]
    step_changes (declines_marked {c = c} l p) = λ d. elim (cases_eq d c) [
      | inl z ↦ rw (z, p) (stays_marked refl refl)
      | inr z ↦ does_not_call z
    ]
    step_changes (opens {c = c} l p m) = alone_changed (open_by c) _ _ l (rw p (begins refl refl))
    step_changes (ends_marked {k = k} g l p) = alone_changed k _ idle l (rw p (run.ends_marked refl g refl))
    step_changes (loses {k = k} {n = n} {es = es} q m at of p) = alone_changed k _ idle at.below
        (rw at.stands (yields_at_once refl refl (lose_cause k q (request_caller of) at.below (asked_of (caller_of k) n es at.stands of) v law m p)))
    step_changes (reads_again {c = c} {x = x} e at l p) = λ d. elim (cases_eq d c) [
      | inl z ↦ rw (z, at.stands) (reads_on refl refl)
      | inr z ↦ does_not_call z
    ]
    step_changes (reads_first {c = c} {n = n} {x = x} {es = es} at l p m f) = granted (read_by c x) _ n es (read_request c n x) _ at (of_read p) refl (reads_on refl refl)
    step_changes (writes_again {c = c} {x = x} {w = w} e at l p) = alone_changed (write_by c x w) _ _ at.below (rw at.stands (writes_on refl refl))
    step_changes (writes_first {c = c} {n = n} {x = x} {w = w} {es = es} r at l b u m f) = granted (write_by c x w) _ n es (write_request c n x r) _ at (of_write b u) refl (writes_on refl refl)
    step_changes (commits {c = c} {n = n} {es = es} at f) = granted (close_by c) _ n es (close_request c n es) idle at of_close refl (run.commits refl refl)
    step_changes (cancels {c = c} at) = alone_changed (cancel_by c) _ idle at.below (rw at.stands (run.cancels refl refl))

pub changes : (v : Contact → Verdict) → Lawful v → (start : List ℕ) {log : List Exchange} {s : State} → Leads (step v) start log s → (k : Call) → Changes v s (account_of log) k (step v s k).0 (step v s k).1
changes v law start {log = log} {s = s} r k = step_changes start s (account_of log) (tied v law start r) v law (outcome v s k)
