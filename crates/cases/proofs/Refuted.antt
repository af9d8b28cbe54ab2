-- Runs in which wrong machines break a promise. Assumes nothing.
use Rattle.std.proofs.Common.{◌≡◌, ℕ, zero, suc, List, [], ◌∷◌, ◌++◌, length, get_or, take, replicate, sym, refl, ap, ◌∙◌, subst, inl, inr, arith}
use Rattle.std.proofs.lemmas.Bool.{true≢false}
use Rattle.rule.specs.Verdicts.{closer_wins, newcomer_yields, oldest_stands}
use Rattle.rule.specs.declared.Contact.{Contact}
use Rattle.rule.specs.declared.Verdict.{Verdict}
use Rattle.rule.specs.declared.Verdict.TheVariants.{BothStand, CallerYields}
use Rattle.machine.specs.declared.Entry.{Entry}
use Rattle.machine.specs.Machine.{was_read, entry_of, idle, fresh, Call, open_by, read_by, write_by, close_by, cancel_by, step}
use Rattle.machine.specs.Log.{Exchange, reads, writes, Transaction, account_of, serial_cells, table_of}
use Rattle.machine.specs.Runs.{Steps, run, Change}
use Rattle.machine.specs.Promises.{log_of}
use Rattle.machine.proofs.Changes.{IsMarked, to_marked, to_yield, to_idle}
use Rattle.machine.proofs.Promises.{lists_of_calls_lead_lem}
use Rattle.cases.specs.Wrong.{CommitsSerially, ReadsConsistently, ChangesForCause, StaysWithin, HoldsWhatIsTold, marking_open, without_marks, wrong_cell, marking_yield, marking_cancel, reading_bank, reading_beyond, writes_as_reads, without_writes, cancelling_0, both_always_stand, caller_always_yields, WrongMachinesAreRefused, BothLawsAreNeeded}

abbrev zeros : List ℕ
zeros = replicate 8 0

-- ---- runs

changes_at : (v : Contact → Verdict) (m : Steps) → ChangesForCause v m → (calls : List Call) (k : Call) (c : ℕ)
    → let s = (run m (fresh zeros) calls).1 in Change v s (account_of (log_of calls (run m (fresh zeros) calls).0)) k (m s k).0 c (get_or s.clients c idle) (get_or (m s k).1.clients c idle)
changes_at v m h calls k c = h zeros _ _ (lists_of_calls_lead_lem m zeros calls) k c

zero≢seven : ◌≡◌ {A = ℕ} 0 7 → ⊥
zero≢seven e = omega arith

-- ---- the machines

open_that_marks : ChangesForCause closer_wins marking_open → ⊥
open_that_marks h = elim (to_marked 1 0 (changes_at closer_wins marking_open h [] (open_by 0) 0) refl) [ inl p ↦ subst IsMarked (sym p.0) tt | inr m ↦ m.0 ]

-- client 0 has read what client 1 writes, and commits after it
abbrev stale : List Call
stale = open_by 0 ∷ open_by 1 ∷ read_by 0 2 ∷ write_by 1 2 7 ∷ close_by 1 ∷ close_by 0 ∷ []

close_that_does_not_mark : CommitsSerially without_marks → ⊥
close_that_does_not_mark h = zero≢seven ((h zeros _ _ (lists_of_calls_lead_lem without_marks zeros stale)).2.0.from_start [] [] 2 0 refl (λ w. w))

-- client 0 reads cell 2 before and cell 3 after client 1 has written both
abbrev mixed : List Call
mixed = open_by 0 ∷ open_by 1 ∷ read_by 0 2 ∷ write_by 1 2 7 ∷ write_by 1 3 9 ∷ close_by 1 ∷ read_by 0 3 ∷ []

abbrev mixed_log : List Exchange
mixed_log = log_of mixed (run without_marks (fresh zeros) mixed).0

-- at no place of the log has cell 2 still 0 and cell 3 already 9
nowhere : (n : ℕ) → 0 ≡ get_or (serial_cells zeros (take n mixed_log)) 2 0 → 9 ≡ get_or (serial_cells zeros (take n mixed_log)) 3 0 → ⊥
nowhere zero p q = omega arith
nowhere (suc zero) p q = omega arith
nowhere (suc (suc zero)) p q = omega arith
nowhere (suc (suc (suc zero))) p q = omega arith
nowhere (suc (suc (suc (suc zero)))) p q = omega arith
nowhere (suc (suc (suc (suc (suc zero))))) p q = omega arith
nowhere (suc (suc (suc (suc (suc (suc zero)))))) p q = omega arith
nowhere (suc (suc (suc (suc (suc (suc (suc zero))))))) p q = omega arith
nowhere (suc (suc (suc (suc (suc (suc (suc (suc n)))))))) p q = omega arith

front_is : {X : Type 0} (xs ys zs : List X) → zs ≡ xs ++ ys → xs ≡ take (length xs) zs
front_is [] ys zs p = refl
front_is (x ∷ xs) ys [] p = let z : ◌≡◌ {A = ℕ} 0 1 = cc in let n : ⊥ = omega arith in absurd n
front_is (x ∷ xs) ys (z ∷ zs) p =
    let same : x ≡ z = cc in
    let rest = front_is xs ys zs cc in
    cc

mix_without_marks : ReadsConsistently without_marks → ⊥
mix_without_marks h =
    let t : Transaction = record { opening_number = 1; operations = reads 2 0 ∷ (reads 3 9 ∷ []) } in
    let c = (h zeros mixed_log _ (lists_of_calls_lead_lem without_marks zeros mixed)).of_held 0 t refl in
    let place = front_is c.last_read.before _ mixed_log c.last_read.in_log in
    nowhere (length c.last_read.before)
    (subst (λ (b : List Exchange). 0 ≡ get_or (serial_cells zeros b) 2 0) place (c.reads_alone.from_start [] (reads 3 9 ∷ []) 2 0 refl (λ w. w)))
    (subst (λ (b : List Exchange). 9 ≡ get_or (serial_cells zeros b) 3 0) place (c.reads_alone.from_start (reads 2 0 ∷ []) [] 3 9 refl (λ w. w)))

without_enough : CommitsSerially (step both_always_stand) → ⊥
without_enough h = zero≢seven ((h zeros _ _ (lists_of_calls_lead_lem (step both_always_stand) zeros stale)).2.0.from_start [] [] 2 0 refl (λ w. w))

-- client 0 has read cell 2, which client 1 has written and closes
abbrev read_and_written : List Call
read_and_written = open_by 0 ∷ open_by 1 ∷ read_by 0 2 ∷ write_by 1 2 7 ∷ []

mark_with_the_wrong_cell : ChangesForCause closer_wins wrong_cell → ⊥
mark_with_the_wrong_cell h = elim (to_marked 1 3 (changes_at closer_wins wrong_cell h read_and_written (close_by 1) 0) refl) [
  | inl p ↦ subst IsMarked (sym p.0) tt
  | inr m ↦ elim m.3.touched_by_it [ inl t ↦ elim t [ inl e ↦ omega arith | inr z ↦ z ] | inr z ↦ z ]
]

-- client 1 writes what the elder client 0 and the younger client 2 have read
abbrev before_the_close : List Call
before_the_close = open_by 0 ∷ open_by 1 ∷ open_by 2 ∷ read_by 0 4 ∷ read_by 2 5 ∷ write_by 1 4 7 ∷ write_by 1 5 7 ∷ []

yield_that_marks_others : ChangesForCause oldest_stands marking_yield → ⊥
yield_that_marks_others h = elim (to_marked 1 5 (changes_at oldest_stands marking_yield h before_the_close (close_by 1) 2) refl) [
  | inl p ↦ subst IsMarked (sym p.0) tt
  | inr m ↦ let g = m.2 in let z : ◌≡◌ {A = ℕ} 0 1 = cc in omega arith
]

cancel_that_marks : ChangesForCause closer_wins marking_cancel → ⊥
cancel_that_marks h = elim (to_marked 1 2 (changes_at closer_wins marking_cancel h read_and_written (cancel_by 1) 0) refl) [
  | inl p ↦ subst IsMarked (sym p.0) tt
  | inr m ↦ m.3.judged
]

read_beyond_the_cells : StaysWithin reading_beyond → ⊥
read_beyond_the_cells h = let l = (h zeros _ _ (lists_of_calls_lead_lem reading_beyond zeros (open_by 0 ∷ read_by 0 8 ∷ []))).of_held.0.0 in omega arith

write_that_counts_as_read : HoldsWhatIsTold writes_as_reads → ⊥
write_that_counts_as_read h =
    let same = (h zeros _ _ (lists_of_calls_lead_lem writes_as_reads zeros (open_by 0 ∷ write_by 0 2 7 ∷ []))).of_each 0 (omega arith) in
    let one : same.0 ≡ record { opening_number = 1; operations = writes 2 7 ∷ [] } = let e = same.1 in cc in
    true≢false (ap (λ (es : List Entry). was_read (entry_of 2 es)) (same.3 ∙ ap (λ (t : Transaction). table_of t.operations) one))

read_from_the_bank : CommitsSerially reading_bank → ⊥
read_from_the_bank h = zero≢seven ((h zeros _ _ (lists_of_calls_lead_lem reading_bank zeros (open_by 0 ∷ write_by 0 2 7 ∷ read_by 0 2 ∷ close_by 0 ∷ []))).0.from_own [] [] [] 2 0 7 refl (λ w. w))

close_that_writes_nothing : CommitsSerially without_writes → ⊥
close_that_writes_nothing h = zero≢seven (ap (λ (z : List ℕ). get_or z 2 0) (h zeros _ _ (lists_of_calls_lead_lem without_writes zeros (open_by 0 ∷ write_by 0 2 7 ∷ close_by 0 ∷ []))).2)

cancel_of_another : ChangesForCause closer_wins cancelling_0 → ⊥
cancel_of_another h = let e = to_idle (changes_at closer_wins cancelling_0 h (open_by 0 ∷ open_by 1 ∷ []) (cancel_by 1) 0) tt refl in omega arith

without_cause : ChangesForCause caller_always_yields (step caller_always_yields) → ⊥
without_cause h = elim (to_yield 1 2 (changes_at caller_always_yields (step caller_always_yields) h (open_by 0 ∷ open_by 1 ∷ []) (read_by 0 2) 0) refl refl) [
  | inl m ↦ elim m.1.touched_by_other [ inl t ↦ t | inr z ↦ let e = z.0 in omega arith ]
  | inr p ↦ subst IsMarked (sym p) tt
]

another_rule : ChangesForCause newcomer_yields (step closer_wins) → ⊥
another_rule h = elim (to_marked 1 2 (changes_at newcomer_yields (step closer_wins) h read_and_written (close_by 1) 0) refl) [
  | inl p ↦ subst IsMarked (sym p.0) tt
  | inr m ↦ elim m.3.ruled [ inl r ↦ let e = r.0 in omega arith | inr r ↦ let e = r.1 in let z : ◌≡◌ {A = ℕ} 0 1 = cc in omega arith ]
]

pub wrong_machines : WrongMachinesAreRefused
wrong_machines = record {
  open_that_marks = open_that_marks;
  close_that_does_not_mark = (close_that_does_not_mark, mix_without_marks);
  mark_with_the_wrong_cell = mark_with_the_wrong_cell;
  yield_that_marks_others = yield_that_marks_others;
  read_from_the_bank = read_from_the_bank;
  close_that_writes_nothing = close_that_writes_nothing;
  another_rule = another_rule;
  cancel_of_another = cancel_of_another;
  cancel_that_marks = cancel_that_marks;
  read_beyond_the_cells = read_beyond_the_cells;
  write_that_counts_as_read = write_that_counts_as_read;
}

both_stand_not_yields : (v : Verdict) → v ≡ CallerYields → v ≡ BothStand → ⊥
both_stand_not_yields v p q = let z : ◌≡◌ {A = ℕ} 0 1 = cc in omega arith

pub both_laws : BothLawsAreNeeded
both_laws = record {
  without_enough = (λ k p n. absurd (n refl), without_enough);
  without_cause = (λ k p e w r n. both_stand_not_yields CallerYields refl n, without_cause);
}
