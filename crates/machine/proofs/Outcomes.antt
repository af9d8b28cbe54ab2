-- The ways in which a step can go. Each property of the step is proved by these. Assumes nothing.
use Rattle.std.proofs.Common.{◌≡◌, ℕ, ◌+◌, ◌<◌, Bool, false, cond, ltb, List, length, get_or, is_some, Some, None, sym, refl, ap, ◌∙◌, subst, arith}
use Rattle.std.proofs.lemmas.Bool.{cond_both, ltb-true, ltb-false}
use Rattle.rule.specs.declared.Contact.{Contact}
use Rattle.rule.specs.declared.Verdict.{Verdict}
use Rattle.machine.specs.declared.Entry.{Entry}
use Rattle.machine.specs.Machine.{State, idle, open_with, marked, Call, open_by, read_by, write_by, close_by, cancel_by, caller_of, Answer, opened_as, value, yields, refused, entry_of, was_read, was_written, known, maybe, Request, read_request, write_request, close_request, mark_from, first_yield, with_clients, end_yielding, judged, read_granted, first_read, do_read, write_granted, judged_write, do_write, close_granted, do_close, do_cancel, with_opened, do_open, if_open, step}
use Rattle.machine.specs.Runs.{IsUnmarked}
use Rattle.machine.proofs.Tables.{some≢none}
use Rattle.machine.proofs.Contacts.{maybe_both, by_standing_both}

-- the client c is open with n and es
pub record OpenAt (s : State) (c n : ℕ) (es : List Entry) : Type 0 where
  pub below : c < 8
  pub stands : get_or s.clients c idle ≡ open_with n es

-- the request q that the call k of such a client puts to the rule
pub data RequestOf (c n : ℕ) (es : List Entry) : Call → Request → Type 0 where
  of_read : {x : ℕ} → entry_of x es ≡ None → RequestOf c n es (read_by c x) (read_request c n x)
  of_write : {x w : ℕ} {r : Bool} → r ≡ was_read (entry_of x es) → was_written (entry_of x es) ≡ false → RequestOf c n es (write_by c x w) (write_request c n x r)
  of_close : RequestOf c n es (close_by c) (close_request c n es)

-- the state with the marks of the request
abbrev pub marking : (Contact → Verdict) → State → Request → State
marking v s q = with_clients s (mark_from v q 0 s.clients)

pub data Outcome (v : Contact → Verdict) (s : State) : Call → Answer × State → Type 0 where
  declines : {k : Call} {n : ℕ} → (n ≡ 5 → ⊥) → (caller_of k < 8 → IsUnmarked (get_or s.clients (caller_of k) idle)) → Outcome v s k (refused n, s)
  declines_marked : {c w x : ℕ} → c < 8 → get_or s.clients c idle ≡ marked w x → Outcome v s (open_by c) (refused 2, s)
  opens : {c : ℕ} → c < 8 → get_or s.clients c idle ≡ idle → s.opened < 4000000000 → Outcome v s (open_by c) (opened_as (s.opened + 1), with_opened s c)
  ends_marked : {k : Call} {w x : ℕ} → (k ≡ open_by (caller_of k) → ⊥) → caller_of k < 8 → get_or s.clients (caller_of k) idle ≡ marked w x → Outcome v s k (yields w x, end_yielding s (caller_of k))
  loses : {k : Call} {n : ℕ} {es : List Entry} (q : Request) (m : Contact) → OpenAt s (caller_of k) n es → RequestOf (caller_of k) n es k q → first_yield v q s.clients ≡ Some m
      → Outcome v s k (yields m.other.client m.cell, end_yielding s (caller_of k))
  reads_again : {c n x : ℕ} {es : List Entry} (e : Entry) → OpenAt s c n es → x < length s.cells → entry_of x es ≡ Some e → Outcome v s (read_by c x) (value (known e), s)
  reads_first : {c n x : ℕ} {es : List Entry} → OpenAt s c n es → x < length s.cells → entry_of x es ≡ None → length es < 64 → first_yield v (read_request c n x) s.clients ≡ None
      → Outcome v s (read_by c x) (read_granted s c n es x (marking v s (read_request c n x)))
  writes_again : {c n x w : ℕ} {es : List Entry} (e : Entry) → OpenAt s c n es → x < length s.cells → entry_of x es ≡ Some e → Outcome v s (write_by c x w) (write_granted c n es x w s)
  writes_first : {c n x w : ℕ} {es : List Entry} (r : Bool) → OpenAt s c n es → x < length s.cells → r ≡ was_read (entry_of x es) → was_written (entry_of x es) ≡ false → (entry_of x es ≡ None → length es < 64) → first_yield v (write_request c n x r) s.clients ≡ None
      → Outcome v s (write_by c x w) (write_granted c n es x w (marking v s (write_request c n x r)))
  commits : {c n : ℕ} {es : List Entry} → OpenAt s c n es → first_yield v (close_request c n es) s.clients ≡ None → Outcome v s (close_by c) (close_granted c es (marking v s (close_request c n es)))
  cancels : {c n : ℕ} {es : List Entry} → OpenAt s c n es → Outcome v s (cancel_by c) (do_cancel s c)

abbrev IsOpenCall : Call → Type 0
IsOpenCall (open_by c) = Unit {0}
IsOpenCall (read_by c x) = ⊥
IsOpenCall (write_by c x w) = ⊥
IsOpenCall (close_by c) = ⊥
IsOpenCall (cancel_by c) = ⊥

module _ (v : Contact → Verdict) (s : State) where
  abbrev Goes : Call → Answer × State → Type 0
  Goes k r = Outcome v s k r

  judged_goes : (k : Call) (n : ℕ) (es : List Entry) (q : Request) (go : State → Answer × State) → OpenAt s (caller_of k) n es → RequestOf (caller_of k) n es k q → q.caller ≡ caller_of k
      → (first_yield v q s.clients ≡ None → Goes k (go (marking v s q))) → Goes k (judged v s q go)
  judged_goes k n es q go at of e h = maybe_both (Goes k) (first_yield v q s.clients) (go (marking v s q)) (λ m. (yields m.other.client m.cell, end_yielding s q.caller)) h
      (λ m p. rw e (loses q m at of p))

  module _ (c n : ℕ) (es : List Entry) (at : OpenAt s c n es) where
    open_unmarked : c < 8 → IsUnmarked (get_or s.clients c idle)
    open_unmarked l = subst IsUnmarked (sym at.stands) tt

    read_goes : (x : ℕ) → Goes (read_by c x) (do_read v s c n es x)
    read_goes x = cond_both (ltb x (length s.cells)) _ _ (Goes (read_by c x))
        (λ l. maybe_both (Goes (read_by c x)) (entry_of x es) (first_read v s c n es x) (λ e. (value (known e), s))
        (λ p. cond_both (ltb (length es) 64) _ _ (Goes (read_by c x))
        (λ m. judged_goes (read_by c x) n es (read_request c n x) (read_granted s c n es x) at (of_read p) refl (reads_first at (ltb-true _ _ l) p (ltb-true _ _ m)))
        (λ m. declines (λ z. omega arith) open_unmarked))
        (λ e p. reads_again e at (ltb-true _ _ l) p))
        (λ l. declines (λ z. omega arith) open_unmarked)

    judged_write_goes : (x w : ℕ) (r : Bool) → x < length s.cells → r ≡ was_read (entry_of x es) → was_written (entry_of x es) ≡ false → (entry_of x es ≡ None → length es < 64) → Goes (write_by c x w) (judged_write v s c n es x w r)
    judged_write_goes x w r l f u m = judged_goes (write_by c x w) n es (write_request c n x r) (write_granted c n es x w) at (of_write f u) refl (writes_first r at l f u m)

    write_goes : (x w : ℕ) → Goes (write_by c x w) (do_write v s c n es x w)
    write_goes x w = cond_both (ltb x (length s.cells)) _ _ (Goes (write_by c x w))
        (λ l. maybe_both (Goes (write_by c x w)) (entry_of x es)
        (cond (ltb (length es) 64) (judged_write v s c n es x w false) (refused 7, s))
        (λ e. maybe e.written (judged_write v s c n es x w (is_some e.read)) (λ old. write_granted c n es x w s))
        (λ p. cond_both (ltb (length es) 64) _ _ (Goes (write_by c x w)) (λ m. judged_write_goes x w false (ltb-true _ _ l) (sym (ap was_read p)) (ap was_written p) (λ _. ltb-true _ _ m)) (λ m. declines (λ z. omega arith) open_unmarked))
        (λ e p. maybe_both (Goes (write_by c x w)) e.written (judged_write v s c n es x w (is_some e.read)) (λ old. write_granted c n es x w s)
        (λ u. judged_write_goes x w (is_some e.read) (ltb-true _ _ l) (sym (ap was_read p)) (ap was_written p ∙ ap is_some u) (λ none. absurd (some≢none e _ p none)))
        (λ old u. writes_again e at (ltb-true _ _ l) p)))
        (λ l. declines (λ z. omega arith) open_unmarked)

    close_goes : Goes (close_by c) (do_close v s c n es)
    close_goes = judged_goes (close_by c) n es (close_request c n es) (close_granted c es) at of_close refl (commits at)

  past_eight : (k : Call) → ltb (caller_of k) 8 ≡ false → caller_of k < 8 → IsUnmarked (get_or s.clients (caller_of k) idle)
  past_eight k l m = let h = ltb-false _ _ l in let z : ⊥ = omega arith in absurd z

  held_goes : (k : Call) (f : ℕ → List Entry → Answer × State) → (k ≡ open_by (caller_of k) → ⊥) → ((n : ℕ) (es : List Entry) → OpenAt s (caller_of k) n es → Goes k (f n es)) → Goes k (if_open s (caller_of k) f)
  held_goes k f g h = cond_both (ltb (caller_of k) 8) _ _ (Goes k)
      (λ l. by_standing_both (Goes k) (get_or s.clients (caller_of k) idle) (refused 4, s) f (λ w x. (yields w x, end_yielding s (caller_of k)))
      (λ p. declines (λ z. omega arith) (λ _. subst IsUnmarked (sym p) tt))
      (λ n es p. h n es (record { below = ltb-true _ _ l; stands = p }))
      (λ w x p. ends_marked g (ltb-true _ _ l) p))
      (λ l. declines (λ z. omega arith) (past_eight k l))

  goes : (k : Call) → Goes k (step v s k)
  goes (open_by c) = cond_both (ltb c 8) _ _ (Goes (open_by c))
      (λ l. by_standing_both (Goes (open_by c)) (get_or s.clients c idle) (do_open s c) (λ n es. (refused 2, s)) (λ w x. (refused 2, s))
      (λ p. cond_both (ltb s.opened 4000000000) _ _ (Goes (open_by c)) (λ m. opens (ltb-true _ _ l) p (ltb-true _ _ m)) (λ m. declines (λ z. omega arith) (λ _. subst IsUnmarked (sym p) tt)))
      (λ n es p. declines (λ z. omega arith) (λ _. subst IsUnmarked (sym p) tt))
      (λ w x p. declines_marked (ltb-true _ _ l) p))
      (λ l. declines (λ z. omega arith) (past_eight (open_by c) l))
  goes (read_by c x) = held_goes (read_by c x) (λ n es. do_read v s c n es x) (λ e. subst IsOpenCall (sym e) tt) (λ n es at. read_goes c n es at x)
  goes (write_by c x w) = held_goes (write_by c x w) (λ n es. do_write v s c n es x w) (λ e. subst IsOpenCall (sym e) tt) (λ n es at. write_goes c n es at x w)
  goes (close_by c) = held_goes (close_by c) (λ n es. do_close v s c n es) (λ e. subst IsOpenCall (sym e) tt) (λ n es at. close_goes c n es at)
  goes (cancel_by c) = held_goes (cancel_by c) (λ n es. do_cancel s c) (λ e. subst IsOpenCall (sym e) tt) (λ n es at. cancels at)

pub outcome : (v : Contact → Verdict) (s : State) (k : Call) → Outcome v s k (step v s k)
outcome v s k = goes v s k
