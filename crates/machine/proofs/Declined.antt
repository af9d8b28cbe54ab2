-- What a declined call leaves. Assumes nothing.
use Rattle.std.proofs.Common.{◌≡◌, ℕ, None, sym, refl, arith}
use Rattle.rule.specs.declared.Contact.{Contact}
use Rattle.rule.specs.declared.Verdict.{Verdict}
use Rattle.machine.specs.Machine.{State, Call, caller_of, Answer, yields, refused, declined_with, end_yielding}
use Rattle.machine.specs.States.{IfDeclined, DeclinedCallsChangeNothing}
use Rattle.machine.proofs.Tables.{some≢none, some_same}
use Rattle.machine.proofs.Outcomes.{Outcome, declines, declines_marked, opens, ends_marked, loses, reads_again, reads_first, writes_again, writes_first, commits, cancels, outcome}

granted : (s : State) (k : Call) (r : Answer) (t : State) → declined_with r ≡ None → IfDeclined s k r t
granted s k r t g = record { unchanged = λ n e ne. absurd (some≢none n _ e g); on_yield = λ e. absurd (some≢none 5 _ e g) }

yielded : (s : State) (k : Call) (w x : ℕ) → IfDeclined s k (yields w x) (end_yielding s (caller_of k))
yielded s k w x = record {
  unchanged = λ n e ne. absurd (ne (sym (some_same 5 n e)));
  on_yield = λ e. ((w, x, refl), record { counted = refl; left_idle = refl; same_cells = refl; same_opened = refl; same_committed = refl; same_cancelled = refl });
}

not_five : (s : State) (k : Call) (n : ℕ) → (n ≡ 5 → ⊥) → IfDeclined s k (refused n) s
not_five s k n ne = record { unchanged = λ m e z. refl; on_yield = λ e. absurd (ne (some_same n 5 e)) }

step_declines : (v : Contact → Verdict) (s : State) {k : Call} {r : Answer × State} → Outcome v s k r → IfDeclined s k r.0 r.1
step_declines v s (declines {k = k} {n = n} ne u) = not_five s k n ne
step_declines v s (declines_marked l p) = not_five s _ 2 (λ z. omega arith)
step_declines v s (opens l p m) = granted s _ _ _ refl
step_declines v s (ends_marked {k = k} {w = w} {x = x} g l p) = yielded s k w x
step_declines v s (loses {k = k} q m at of p) = yielded s k m.other.client m.cell
step_declines v s (reads_again e at l p) = granted s _ _ _ refl
step_declines v s (reads_first at l p m f) = granted s _ _ _ refl
step_declines v s (writes_again e at l p) = granted s _ _ _ refl
step_declines v s (writes_first r at l b u m f) = granted s _ _ _ refl
step_declines v s (commits at f) = granted s _ _ _ refl
step_declines v s (cancels at) = granted s _ _ _ refl

pub if_declined : DeclinedCallsChangeNothing
if_declined v s k = step_declines v s (outcome v s k)
