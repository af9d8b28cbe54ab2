-- What holds of every state that a log leads to. Assumes nothing.
use Rattle.std.proofs.Common.{◌≡◌, ℕ, zero, suc, ◌+◌, ◌<◌, ◌≤◌, List, [], ◌∷◌, length, get_or, set, Some, None, sym, refl, ap, ◌∙◌, subst, inl, inr, zero-add, arith, length-append, length-set}
use Rattle.std.specs.List.{AllByRecursion}
use Rattle.std.proofs.ByRecursion.{All-set}
use Rattle.rule.specs.declared.Contact.{Contact}
use Rattle.rule.specs.declared.Verdict.{Verdict}
use Rattle.machine.specs.declared.Entry.{Entry}
use Rattle.machine.specs.Machine.{State, Standing, idle, open_with, marked, Call, caller_of, Answer, entry_of, read_entry, fill, Request, read_request, write_request, close_request, write_granted, close_granted, contacts_with, first_that, is_other_yields, mark_one, mark_from, put_standing, end_yielding, with_opened, do_cancel, step}
use Rattle.machine.specs.Log.{Exchange}
use Rattle.machine.specs.Runs.{Leads, new, more}
use Rattle.machine.specs.States.{holding, held_count, SoundStanding, Sound}
use Rattle.machine.proofs.Places.{all_places}
use Rattle.machine.proofs.Tables.{some≢none, option_cases, entry_there, first_or_not, fill_here, fill_there, table_push, table_fill, length-store}
use Rattle.machine.proofs.Contacts.{maybe_both, mark_at, length-mark}
use Rattle.machine.proofs.Outcomes.{OpenAt, marking, Outcome, declines, declines_marked, opens, ends_marked, loses, reads_again, reads_first, writes_again, writes_first, commits, cancels, outcome}

-- ---- how many clients hold a transaction

count_set : (ss : List Standing) (c : ℕ) (st : Standing) → c < length ss → held_count (set ss c st) + holding (get_or ss c idle) ≡ held_count ss + holding st
count_set [] c st l = let z : ⊥ = omega arith in absurd z
count_set (s ∷ ss) zero st l = omega arith
count_set (s ∷ ss) (suc c) st l = let h = count_set ss c st (omega arith) in omega arith

count_most : (ss : List Standing) → held_count ss ≤ length ss
count_most [] = omega arith
count_most (idle ∷ ss) = let h = count_most ss in omega arith
count_most (open_with n es ∷ ss) = let h = count_most ss in omega arith
count_most (marked w x ∷ ss) = let h = count_most ss in omega arith

count_eight : (ss : List Standing) → length ss ≡ 8 → held_count ss ≤ 8
count_eight ss e = subst (λ (n : ℕ). held_count ss ≤ n) e (count_most ss)

holding_mark : (v : Contact → Verdict) (q : Request) (i : ℕ) (s : Standing) → holding (mark_one v q i s) ≡ holding s
holding_mark v q i idle = refl
holding_mark v q i (marked w x) = refl
holding_mark v q i (open_with n es) = maybe_both (λ (z : Standing). holding z ≡ 1) (first_that (λ k. is_other_yields (v k)) (contacts_with q i (open_with n es))) (open_with n es) (λ k. marked q.caller k.cell) (λ e. refl) (λ k e. refl)

count_mark : (v : Contact → Verdict) (q : Request) (i : ℕ) (ss : List Standing) → held_count (mark_from v q i ss) ≡ held_count ss
count_mark v q i [] = refl
count_mark v q i (s ∷ ss) = let h = holding_mark v q i s in let r = count_mark v q (suc i) ss in cc

bounded_mark : (v : Contact → Verdict) (q : Request) (i : ℕ) (ss : List Standing) → AllByRecursion SoundStanding ss → AllByRecursion SoundStanding (mark_from v q i ss)
bounded_mark v q i [] h = tt
bounded_mark v q i (s ∷ ss) h = (maybe_both SoundStanding (first_that (λ k. is_other_yields (v k)) (contacts_with q i s)) s (λ k. marked q.caller k.cell) (λ e. h.0) (λ k e. tt), bounded_mark v q (suc i) ss h.1)

-- ---- how long a table gets

length-fill-new : (es : List Entry) (x w : ℕ) → length (fill es x w) ≤ suc (length es)
length-fill-new [] x w = omega arith
length-fill-new (e ∷ es) x w = elim (first_or_not e x) [
  | inl k ↦ let p = ap length (fill_here e es x w k) in omega arith
  | inr k ↦ let p = ap length (fill_there e es x w k) in let r = length-fill-new es x w in omega arith
]

length-fill-old : (es : List Entry) (x w : ℕ) (e : Entry) → entry_of x es ≡ Some e → length (fill es x w) ≡ length es
length-fill-old [] x w e h = absurd (some≢none e _ h refl)
length-fill-old (d ∷ es) x w e h = elim (first_or_not d x) [
  | inl k ↦ ap length (fill_here d es x w k)
  | inr k ↦ ap length (fill_there d es x w k) ∙ ap suc (length-fill-old es x w e (sym (entry_there d es x k) ∙ h))
]

-- how long a table is after a write: there was room, or the cell had an entry
length-fill : (es : List Entry) (x w : ℕ) → (entry_of x es ≡ None → length es < 64) → length es ≤ 64 → length (fill es x w) ≤ 64
length-fill es x w room h = elim (option_cases (entry_of x es)) [
  | inl n ↦ let l = room n in let m = length-fill-new es x w in omega arith
  | inr e ↦ subst (λ (z : ℕ). z ≤ 64) (sym (length-fill-old es x w e.0 e.1)) h
]

-- ---- one client's place is written

module _ (start : List ℕ) where
  placed : (s u : State) (c : ℕ) (st : Standing) → Sound start s → c < 8 → u.clients ≡ set s.clients c st → SoundStanding st → length u.cells ≡ length s.cells → u.opened ≤ 4000000000
      → u.opened + (s.committed + s.yielded + s.cancelled) + holding (get_or s.clients c idle) ≡ s.opened + (u.committed + u.yielded + u.cancelled) + holding st → Sound start u
  placed s u c st i l p b m top even = record {
    all_counted = let f = count_set s.clients c st (subst (λ (z : ℕ). c < z) (sym i.eight) l) in let g = ap held_count p in let t = i.all_counted in omega arith;
    at_most_eight = count_eight u.clients (ap length p ∙ length-set s.clients c st ∙ i.eight);
    limit = top;
    eight = ap length p ∙ length-set s.clients c st ∙ i.eight;
    tables = subst (AllByRecursion SoundStanding) (sym p) (All-set SoundStanding s.clients c st b i.tables);
    as_many_cells = m ∙ i.as_many_cells;
  }

  marks_sound : (v : Contact → Verdict) (q : Request) (s : State) → Sound start s → Sound start (marking v s q)
  marks_sound v q s i = record {
    all_counted = let f = count_mark v q 0 s.clients in let t = i.all_counted in omega arith;
    at_most_eight = count_eight (mark_from v q 0 s.clients) (length-mark v q 0 s.clients ∙ i.eight);
    limit = i.limit;
    eight = length-mark v q 0 s.clients ∙ i.eight;
    tables = bounded_mark v q 0 s.clients i.tables;
    as_many_cells = i.as_many_cells;
  }

  -- the table of a client that is open
  bounded_at : (s : State) (c n : ℕ) (es : List Entry) → Sound start s → OpenAt s c n es → SoundStanding (open_with n es)
  bounded_at s c n es i at = subst SoundStanding at.stands (all_places SoundStanding s.clients c idle tt i.tables)

  holding_marks : (v : Contact → Verdict) (q : Request) (s : State) (c n : ℕ) (es : List Entry) → OpenAt s c n es → holding (get_or (mark_from v q 0 s.clients) c idle) ≡ 1
  holding_marks v q s c n es at = ap holding (mark_at v q 0 s.clients c c (zero-add c)) ∙ holding_mark v q c (get_or s.clients c idle) ∙ ap holding at.stands

  -- the transaction of a client that holds one ends by yielding
  yields_sound : (s : State) (c : ℕ) → Sound start s → c < 8 → holding (get_or s.clients c idle) ≡ 1 → Sound start (end_yielding s c)
  yields_sound s c i l h = placed s (end_yielding s c) c idle i l refl tt refl i.limit (omega arith)

  -- an open client goes on with another table
  goes_sound : (v : Contact → Verdict) (q : Request) (s : State) (c n : ℕ) (es next : List Entry) → Sound start s → OpenAt s c n es → SoundStanding (open_with n next)
      → Sound start (put_standing (marking v s q) c (open_with n next))
  goes_sound v q s c n es next i at b = let h = holding_marks v q s c n es at in
      placed (marking v s q) (put_standing (marking v s q) c (open_with n next)) c (open_with n next) (marks_sound v q s i) at.below refl b refl i.limit (omega arith)

  step_sound : (v : Contact → Verdict) (s : State) {k : Call} {r : Answer × State} → Outcome v s k r → Sound start s → Sound start r.1
  step_sound v s (declines n u) i = i
  step_sound v s (declines_marked l p) i = i
  step_sound v s (opens {c = c} l p m) i = let none = ap holding p in placed s (with_opened s c) c (open_with (s.opened + 1) []) i l refl (omega arith, tt) refl (omega arith) (omega arith)
  step_sound v s (ends_marked {k = k} g l p) i = yields_sound s (caller_of k) i l (ap holding p)
  step_sound v s (loses {k = k} q m at of p) i = yields_sound s (caller_of k) i at.below (ap holding at.stands)
  step_sound v s (reads_again e at l p) i = i
  step_sound v s (reads_first {c = c} {n = n} {x = x} {es = es} at l p m f) i = goes_sound v (read_request c n x) s c n es _ i at (
    let long = length-append es (read_entry x (get_or s.cells x 0) ∷ []) in omega arith,
    table_push es (read_entry x (get_or s.cells x 0)) (bounded_at s c n es i at).1 p refl,
  )
  step_sound v s (writes_again {c = c} {n = n} {x = x} {w = w} {es = es} e at l p) i = let one = ap holding at.stands in let b = bounded_at s c n es i at in
      placed s (write_granted c n es x w s).1 c (open_with n (fill es x w)) i at.below refl (length-fill es x w (λ none. absurd (some≢none e _ p none)) b.0, table_fill es x w b.1) refl i.limit (omega arith)
  step_sound v s (writes_first {c = c} {n = n} {x = x} {w = w} {es = es} r at l y u m f) i = let b = bounded_at s c n es i at in
      goes_sound v (write_request c n x r) s c n es (fill es x w) i at (length-fill es x w m b.0, table_fill es x w b.1)
  step_sound v s (commits {c = c} {n = n} {es = es} at f) i = let h = holding_marks v (close_request c n es) s c n es at in
      placed (marking v s (close_request c n es)) (close_granted c es (marking v s (close_request c n es))).1 c idle (marks_sound v (close_request c n es) s i) at.below refl tt (length-store es s.cells) i.limit (omega arith)
  step_sound v s (cancels {c = c} at) i = let one = ap holding at.stands in placed s (do_cancel s c).1 c idle i at.below refl tt refl i.limit (omega arith)

pub sound : (v : Contact → Verdict) (start : List ℕ) {log : List Exchange} {s : State} → Leads (step v) start log s → Sound start s
sound v start new = record { all_counted = refl; at_most_eight = omega arith; limit = omega arith; eight = refl; tables = (tt, (tt, (tt, (tt, (tt, (tt, (tt, (tt, tt)))))))); as_many_cells = refl }
sound v start (more {s = s} r k) = step_sound start v s (outcome v s k) (sound v start r)
