-- The counts are those of the log. Assumes nothing.
use Rattle.std.proofs.Common.{◌≡◌, ℕ, ◌+◌, List, [], ◌∷◌, ◌++◌, sym, refl, ap, ◌∙◌, append_assoc, append-nil, add-one, arith}
use Rattle.rule.specs.declared.Contact.{Contact}
use Rattle.rule.specs.declared.Verdict.{Verdict}
use Rattle.machine.specs.Machine.{State, Call, caller_of, Answer, opened_as, value, ok, committed_as, yields, refused, end_yielding, step}
use Rattle.machine.specs.Log.{Exchange, and_then}
use Rattle.machine.specs.Runs.{Leads, new, more}
use Rattle.machine.specs.States.{up_to, open_number, commit_number, numbers_in, one_yield, one_cancel, how_many, CountsOf}
use Rattle.machine.proofs.Outcomes.{Outcome, declines, declines_marked, opens, ends_marked, loses, reads_again, reads_first, writes_again, writes_first, commits, cancels, outcome}

-- what the answer to the call k adds to each count
record Adds (s t : State) (o c y x : ℕ) : Type 0 where
  open_answers : t.opened ≡ s.opened + o
  commit_answers : t.committed ≡ s.committed + c
  yield_answers : t.yielded ≡ s.yielded + y
  cancel_answers : t.cancelled ≡ s.cancelled + x

abbrev Counted : State → Call → Answer × State → Type 0
Counted s k r = elim r.0 [
  | opened_as n ↦ (n ≡ s.opened + 1) × Adds s r.1 1 0 0 0
  | value v ↦ Adds s r.1 0 0 0 0
  | ok ↦ Adds s r.1 0 0 0 (one_cancel k ok)
  | committed_as n ↦ (n ≡ s.committed + 1) × Adds s r.1 0 1 0 0
  | yields w x ↦ Adds s r.1 0 0 1 0
  | refused n ↦ Adds s r.1 0 0 0 0
]

none : (s t : State) → t.opened ≡ s.opened → t.committed ≡ s.committed → t.yielded ≡ s.yielded → t.cancelled ≡ s.cancelled → Adds s t 0 0 0 0
none s t o c y x = record { open_answers = omega arith; commit_answers = omega arith; yield_answers = omega arith; cancel_answers = omega arith }

same : (s : State) → Adds s s 0 0 0 0
same s = none s s refl refl refl refl

yields_one : (s : State) (c : ℕ) → Adds s (end_yielding s c) 0 0 1 0
yields_one s c = record { open_answers = omega arith; commit_answers = omega arith; yield_answers = omega arith; cancel_answers = omega arith }

step_counts : (v : Contact → Verdict) (s : State) {k : Call} {r : Answer × State} → Outcome v s k r → Counted s k r
step_counts v s (declines n u) = same s
step_counts v s (declines_marked l p) = same s
step_counts v s (opens l p m) = (refl, record { open_answers = refl; commit_answers = omega arith; yield_answers = omega arith; cancel_answers = omega arith })
step_counts v s (ends_marked {k = k} g l p) = yields_one s (caller_of k)
step_counts v s (loses {k = k} q m at of p) = yields_one s (caller_of k)
step_counts v s (reads_again e at l p) = same s
step_counts v s (reads_first at l p m f) = none s _ refl refl refl refl
step_counts v s (writes_again e at l p) = none s _ refl refl refl refl
step_counts v s (writes_first r at l b u m f) = none s _ refl refl refl refl
step_counts v s (commits at f) = (refl, record { open_answers = omega arith; commit_answers = refl; yield_answers = omega arith; cancel_answers = omega arith })
step_counts v s (cancels at) = record { open_answers = omega arith; commit_answers = omega arith; yield_answers = omega arith; cancel_answers = refl }

-- ---- one more call

numbers_push : (f : Answer → List ℕ) (log : List Exchange) (e : Exchange) → numbers_in f (log ++ (e ∷ [])) ≡ numbers_in f log ++ f e.answer
numbers_push f [] e = append-nil (f e.answer)
numbers_push f (d ∷ log) e = ap (λ (z : List ℕ). f d.answer ++ z) (numbers_push f log e) ∙ sym (append_assoc (f d.answer) (numbers_in f log) (f e.answer))

many_push : (f : Call → Answer → ℕ) (log : List Exchange) (e : Exchange) → how_many f (log ++ (e ∷ [])) ≡ how_many f log + f e.call e.answer
many_push f [] e = omega arith
many_push f (d ∷ log) e = let h = many_push f log e in omega arith

one_longer : (xs : List ℕ) (n m o : ℕ) → xs ≡ up_to n → m ≡ n + 1 → o ≡ n + 1 → xs ++ (m ∷ []) ≡ up_to o
one_longer xs n m o h p q = rw (h, p, q, add-one)

as_long : (xs : List ℕ) (n o : ℕ) → xs ≡ up_to n → o ≡ n + 0 → xs ++ [] ≡ up_to o
as_long xs n o h p = let e : n ≡ o = omega arith in append-nil xs ∙ h ∙ ap up_to e

module _ (log : List Exchange) (s t : State) (h : CountsOf log s) where
  next : (k : Call) (r : Answer) → numbers_in open_number log ++ open_number r ≡ up_to t.opened → numbers_in commit_number log ++ commit_number r ≡ up_to t.committed
      → t.yielded ≡ s.yielded + one_yield k r → t.cancelled ≡ s.cancelled + one_cancel k r → CountsOf (and_then log k r) t
  next k r o c y x = record {
    open_answers = numbers_push open_number log _ ∙ o;
    commit_answers = numbers_push commit_number log _ ∙ c;
    yield_answers = y ∙ ap (λ (n : ℕ). n + one_yield k r) h.yield_answers ∙ sym (many_push one_yield log _);
    cancel_answers = x ∙ ap (λ (n : ℕ). n + one_cancel k r) h.cancel_answers ∙ sym (many_push one_cancel log _);
  }

  -- an answer with no number
  plain : (k : Call) (r : Answer) → open_number r ≡ [] → commit_number r ≡ [] → Adds s t 0 0 (one_yield k r) (one_cancel k r) → CountsOf (and_then log k r) t
  plain k r p q g = next k r (rw p (as_long (numbers_in open_number log) s.opened t.opened h.open_answers g.open_answers))
      (rw q (as_long (numbers_in commit_number log) s.committed t.committed h.commit_answers g.commit_answers)) g.yield_answers g.cancel_answers

  and_one : (k : Call) (r : Answer) → Counted s k (r, t) → CountsOf (and_then log k r) t
  and_one k (opened_as n) g = next k (opened_as n) (one_longer (numbers_in open_number log) s.opened n t.opened h.open_answers g.0 g.1.open_answers)
      (as_long (numbers_in commit_number log) s.committed t.committed h.commit_answers g.1.commit_answers) g.1.yield_answers g.1.cancel_answers
  and_one k (value v) g = plain k (value v) refl refl g
  and_one k ok g = plain k ok refl refl g
  and_one k (committed_as n) g = next k (committed_as n) (as_long (numbers_in open_number log) s.opened t.opened h.open_answers g.1.open_answers)
      (one_longer (numbers_in commit_number log) s.committed n t.committed h.commit_answers g.0 g.1.commit_answers) g.1.yield_answers g.1.cancel_answers
  and_one k (yields w x) g = plain k (yields w x) refl refl g
  and_one k (refused n) g = plain k (refused n) refl refl g

pub counts : (v : Contact → Verdict) (start : List ℕ) {log : List Exchange} {s : State} → Leads (step v) start log s → CountsOf log s
counts v start new = record { open_answers = refl; commit_answers = refl; yield_answers = refl; cancel_answers = refl }
counts v start (more {log = log} {s = s} r k) = and_one log s (step v s k).1 (counts v start r) k (step v s k).0 (step_counts v s (outcome v s k))
