-- From a mark, or from a yield, back to the call that made the transaction yield. Assumes nothing.
use Rattle.std.proofs.Common.{◌≡◌, ℕ, ◌⊎◌, List, [], ◌∷◌, ◌++◌, get_or, Some, sym, refl, ap, ◌∙◌, subst, inl, inr, append_assoc, arith}
use Rattle.rule.specs.Verdicts.{Lawful}
use Rattle.rule.specs.declared.Contact.{Contact}
use Rattle.rule.specs.declared.Verdict.{Verdict}
use Rattle.machine.specs.Machine.{State, Standing, idle, open_with, marked, Call, caller_of, Answer, yields, step}
use Rattle.machine.specs.Log.{Exchange, and_then, Transaction, Account, transaction_of, recorded, account_of}
use Rattle.machine.specs.Runs.{Leads, new, more, IsOpen, MadeToYield, YieldsForCause, CausedYields}
use Rattle.machine.proofs.Places.{same_places}
use Rattle.machine.proofs.Turns.{recorded_other, recorded_push}
use Rattle.machine.proofs.Changes.{IsMarked, to_marked, to_yield}
use Rattle.machine.proofs.Ties.{fits_open, fits_marked, tied}
use Rattle.machine.proofs.Causes.{changes}

-- ---- who stands marked

longer : (v : Contact → Verdict) (start : List ℕ) (log : List Exchange) (i : Exchange) (c w x : ℕ) (t : Transaction) → MadeToYield v (step v) start log c w x t → MadeToYield v (step v) start (log ++ (i ∷ [])) c w x t
longer v start log i c w x t m = record {
  before = m.before;
  at = m.at;
  call = m.call;
  behind = m.behind ++ (i ∷ []);
  led = m.led;
  in_log = ap (λ (z : List Exchange). z ++ (i ∷ [])) m.in_log ∙ append_assoc m.before (_ ∷ m.behind) (i ∷ []);
  was_open = m.was_open;
  unchanged_since = m.unchanged_since;
  for_cause = m.for_cause;
  by_whom = m.by_whom;
}

abbrev MarkedBy : (v : Contact → Verdict) → List ℕ → List Exchange → (c w x : ℕ) → Transaction → Type 0
MarkedBy v start log c w x t = (m : MadeToYield v (step v) start log c w x t) × (w ≡ caller_of m.call)

longer_marked : (v : Contact → Verdict) (start : List ℕ) (log : List Exchange) (i : Exchange) (c w x : ℕ) (t : Transaction) → MarkedBy v start log c w x t → MarkedBy v start (log ++ (i ∷ [])) c w x t
unfolding longer
longer_marked v start log i c w x t m = (longer v start log i c w x t m.0, m.1)

marked_cause : (v : Contact → Verdict) → Lawful v → (start : List ℕ) {log : List Exchange} {s : State} → Leads (step v) start log s → (c w x : ℕ) → get_or s.clients c idle ≡ marked w x
    → (t : Transaction) → transaction_of (account_of log) c ≡ Some t → MarkedBy v start log c w x t
marked_cause v law start new c w x e t p = absurd (subst IsMarked (sym e ∙ same_places 8 c idle) tt)
marked_cause v law start (more {log = log} {s = s} r k) c w x e t p = elim (to_marked w x (changes v law start r k c) e) [
  | inl h ↦ longer_marked v start log _ c w x t (marked_cause v law start r c w x h.0 t (sym h.1 ∙ q))
  | inr h ↦ (
    record {
      before = log;
      at = s;
      call = k;
      behind = [];
      led = r;
      in_log = refl;
      was_open = h.0;
      unchanged_since = sym (recorded_other (account_of log) k (step v s k).0 c (λ z. h.3.another (z ∙ sym h.1))) ∙ q;
      for_cause = h.3;
      by_whom = inl (h.1, h.2, e);
    },
    h.1,
  )
]
  where
    q : transaction_of (recorded (account_of log) k (step v s k).0) c ≡ Some t
    q = ap (λ (b : Account). transaction_of b c) (sym (recorded_push _ log _)) ∙ p

-- ---- who is answered that it yields

open_held : (v : Contact → Verdict) → Lawful v → (start : List ℕ) {log : List Exchange} {s : State} → Leads (step v) start log s → (c : ℕ) → IsOpen (get_or s.clients c idle) → (t : Transaction) × (transaction_of (account_of log) c ≡ Some t)
open_held v law start {log = log} {s = s} r c o = from (get_or s.clients c idle) refl o
  where
    from : (st : Standing) → get_or s.clients c idle ≡ st → IsOpen st → (t : Transaction) × (transaction_of (account_of log) c ≡ Some t)
    from idle p o = absurd o
    from (open_with n es) p o = let h = fits_open s.cells (get_or s.clients c idle) (transaction_of (account_of log) c) n es ((tied v law start r).fits c) p in (h.0, h.1)
    from (marked w x) p o = absurd o

marked_held : (v : Contact → Verdict) → Lawful v → (start : List ℕ) {log : List Exchange} {s : State} → Leads (step v) start log s → (c w x : ℕ) → get_or s.clients c idle ≡ marked w x → (t : Transaction) × (transaction_of (account_of log) c ≡ Some t)
marked_held v law start {log = log} {s = s} r c w x p = fits_marked s.cells (get_or s.clients c idle) (transaction_of (account_of log) c) w x ((tied v law start r).fits c) p

yields_cause : (v : Contact → Verdict) → Lawful v → (start : List ℕ) {log : List Exchange} {s : State} → Leads (step v) start log s → (k : Call) (w x : ℕ) → (step v s k).0 ≡ yields w x → YieldsForCause v (step v) start log k w x
yields_cause v law start {log = log} {s = s} r k w x e = elim (to_yield w x (changes v law start r k (caller_of k)) refl e) [
  | inl h ↦ let t = open_held v law start r (caller_of k) h.0 in record {
    transaction = t.0;
    held = t.1;
    made_to_yield = record {
      before = log;
      at = s;
      call = k;
      behind = [];
      led = r;
      in_log = ap (λ (z : Answer). and_then log k z) (sym e);
      was_open = h.0;
      unchanged_since = t.1;
      for_cause = h.1;
      by_whom = inr (refl, e);
    };
  }
  | inr h ↦ let t = marked_held v law start r (caller_of k) w x h in record {
    transaction = t.0;
    held = t.1;
    made_to_yield = longer v start log _ (caller_of k) w x t.0 (marked_cause v law start r (caller_of k) w x h t.0 t.1).0;
  }
]

-- ---- any place of the log

split_last : {X : Type 0} (xs ys zs : List X) (x y : X) → xs ++ (x ∷ []) ≡ ys ++ (y ∷ zs) → ((xs ≡ ys) × (x ≡ y)) ⊎ ((rest : List X) × (xs ≡ ys ++ (y ∷ rest)))
split_last [] [] zs x y p = inl (refl, cc)
split_last [] (u ∷ []) zs x y p = let z : ◌≡◌ {A = ℕ} 0 1 = cc in let n : ⊥ = omega arith in absurd n
split_last [] (u ∷ (v ∷ ys)) zs x y p = let z : ◌≡◌ {A = ℕ} 0 1 = cc in let n : ⊥ = omega arith in absurd n
split_last (u ∷ xs) [] zs x y p = inr (xs, cc)
split_last (u ∷ xs) (v ∷ ys) zs x y p =
    let front : u ≡ v = cc in
    let rest : xs ++ (x ∷ []) ≡ ys ++ (y ∷ zs) = cc in
    elim (split_last xs ys zs x y rest) [ inl h ↦ let a = h.0 in inl (cc, h.1) | inr h ↦ let a = h.1 in inr (h.0, cc) ]

every_yield : (v : Contact → Verdict) → Lawful v → (start : List ℕ) {log : List Exchange} {s : State} → Leads (step v) start log s
    → (before behind : List Exchange) (k : Call) (w x : ℕ) → log ≡ before ++ (record { call = k; answer = yields w x } ∷ behind) → YieldsForCause v (step v) start before k w x
every_yield v law start new [] behind k w x p = let z : ◌≡◌ {A = ℕ} 0 1 = cc in let n : ⊥ = omega arith in absurd n
every_yield v law start new (i ∷ before) behind k w x p = let z : ◌≡◌ {A = ℕ} 0 1 = cc in let n : ⊥ = omega arith in absurd n
every_yield v law start (more {log = log} {s = s} r j) before behind k w x p = elim (split_last log before behind _ _ p) [
  | inl h ↦ subst (λ (z : Call). YieldsForCause v (step v) start before z w x) (ap (λ (e : Exchange). e.call) h.1)
      (subst (λ (z : List Exchange). YieldsForCause v (step v) start z j w x) h.0 (yields_cause v law start r j w x (ap (λ (e : Exchange). e.answer) h.1)))
  | inr h ↦ every_yield v law start r before h.0 k w x h.1
]

pub caused : (v : Contact → Verdict) → Lawful v → (start : List ℕ) {log : List Exchange} {s : State} → Leads (step v) start log s → CausedYields v (step v) start log s
caused v law start r = record {
  of_every_yield = every_yield v law start r;
  of_marked = λ c w x e. let t = marked_held v law start r c w x e in let m = marked_cause v law start r c w x e t.0 t.1 in record { transaction = t.0; held = t.1; made_to_yield = m.0; by_winner = m.1 };
}
