-- Which changes lead to a mark, which to a yield, and which to an end. Assumes nothing.
use Rattle.std.proofs.Common.{◌≡◌, ℕ, ◌⊎◌, None, sym, refl, ap, subst, inl, inr, arith}
use Rattle.rule.specs.declared.Contact.{Contact}
use Rattle.rule.specs.declared.Verdict.{Verdict}
use Rattle.machine.specs.Machine.{State, Standing, idle, open_with, marked, Call, caller_of, Answer, yields, declined_with}
use Rattle.machine.specs.Log.{Account, transaction_of, recorded}
use Rattle.machine.specs.Runs.{IsOpen, IsUnmarked, CauseToYield, Change, does_not_call, is_refused, begins, reads_on, writes_on, commits, cancels, yields_at_once, gets_marked, stays_marked, ends_marked}
use Rattle.machine.proofs.Turns.{recorded_other}
use Rattle.machine.proofs.Tables.{some≢none}

abbrev pub IsMarked : Standing → Type 0
IsMarked idle = ⊥
IsMarked (open_with n es) = ⊥
IsMarked (marked w x) = Unit {0}

-- the client was open, and the call, which was granted, gave it a cause to yield to the caller over x
abbrev pub Marks : (Contact → Verdict) → State → Account → Call → Answer → (c w x : ℕ) → Standing → Type 0
Marks v s a k r c w x st = IsOpen st × (w ≡ caller_of k) × (declined_with r ≡ None) × CauseToYield v s a k c w x

pub to_marked : {v : Contact → Verdict} {s : State} {a : Account} {k : Call} {r : Answer} {c : ℕ} {st next : Standing} (w x : ℕ) → Change v s a k r c st next → next ≡ marked w x → ((st ≡ marked w x) × (transaction_of (recorded a k r) c ≡ transaction_of a c)) ⊎ Marks v s a k r c w x st
to_marked {a = a} {k = k} {r = r} {c = c} w x (does_not_call ne) p = inl (p, recorded_other a k r c ne)
to_marked w x (is_refused u e) p = absurd (subst IsUnmarked p u)
to_marked w x (begins i j) p = absurd (subst IsMarked (sym p) tt)
to_marked w x (reads_on i j) p = absurd (subst IsMarked (sym p) tt)
to_marked w x (writes_on i j) p = absurd (subst IsMarked (sym p) tt)
to_marked w x (commits i j) p = absurd (subst IsMarked (sym p) tt)
to_marked w x (cancels i j) p = absurd (subst IsMarked (sym p) tt)
to_marked w x (yields_at_once i j h) p = absurd (subst IsMarked (sym p) tt)
to_marked {k = k} w x (gets_marked {x = y} g h) p =
    let w-is : w ≡ caller_of k = cc in
    let x-is : x ≡ y = cc in
    inr (tt, w-is, g, rw (w-is, x-is) h)
to_marked w x (stays_marked i e) p = inl (p, rw e refl)
to_marked w x (ends_marked i g j) p = absurd (subst IsMarked (sym p) tt)

five≢none : (r : Answer) (w x : ℕ) → r ≡ yields w x → declined_with r ≡ None → ⊥
five≢none r w x e n = some≢none 5 _ (ap declined_with e) n

pub to_yield : {v : Contact → Verdict} {s : State} {a : Account} {k : Call} {r : Answer} {c : ℕ} {st next : Standing} (w x : ℕ) → Change v s a k r c st next → c ≡ caller_of k → r ≡ yields w x → (IsOpen st × CauseToYield v s a k c w x) ⊎ (st ≡ marked w x)
to_yield w x (does_not_call ne) e y = absurd (ne e)
to_yield w x (is_refused u i) e y = let z : ◌≡◌ {A = ℕ} 0 1 = cc in let n : ⊥ = omega arith in absurd n
to_yield {r = r} w x (begins i j) e y = absurd (five≢none r w x y (ap declined_with j))
to_yield {r = r} w x (reads_on i j) e y = absurd (five≢none r w x y (ap declined_with j))
to_yield {r = r} w x (writes_on i j) e y = absurd (five≢none r w x y (ap declined_with j))
to_yield {r = r} w x (commits i j) e y = absurd (five≢none r w x y (ap declined_with j))
to_yield {r = r} w x (cancels i j) e y = absurd (five≢none r w x y (ap declined_with j))
to_yield w x (yields_at_once {w = w'} {x = u} i j h) e y =
    let w-is : w ≡ w' = cc in
    let x-is : x ≡ u = cc in
    inl (tt, rw (w-is, x-is) h)
to_yield {r = r} w x (gets_marked g h) e y = absurd (five≢none r w x y g)
to_yield w x (stays_marked i j) e y = let z : ◌≡◌ {A = ℕ} 0 1 = cc in let n : ⊥ = omega arith in absurd n
to_yield w x (ends_marked {w = w'} {x = u} i g j) e y =
    let w-is : w' ≡ w = cc in
    let x-is : u ≡ x = cc in
    inr cc

-- who was open and is idle has called
pub to_idle : {v : Contact → Verdict} {s : State} {a : Account} {k : Call} {r : Answer} {c : ℕ} {st next : Standing} → Change v s a k r c st next → IsOpen st → next ≡ idle → c ≡ caller_of k
to_idle (does_not_call ne) o p = absurd (subst IsOpen p o)
to_idle (is_refused u e) o p = absurd (subst IsOpen p o)
to_idle (begins i j) o p = absurd o
to_idle (reads_on i j) o p = sym (ap caller_of i)
to_idle (writes_on i j) o p = sym (ap caller_of i)
to_idle (commits i j) o p = sym (ap caller_of i)
to_idle (cancels i j) o p = sym (ap caller_of i)
to_idle (yields_at_once i j h) o p = i
to_idle (gets_marked g h) o p = absurd (subst IsMarked p tt)
to_idle (stays_marked i j) o p = absurd o
to_idle (ends_marked i g j) o p = absurd o
