-- Which contacts a request has, whom it marks, and what that leaves to a close. Assumes nothing.
use Rattle.std.proofs.Common.{◌≡◌, ℕ, zero, suc, ◌+◌, Bool, true, false, eqb, List, [], ◌∷◌, ◌++◌, map, length, get_or, is_some, Some, None, Option, sym, refl, ap, ◌∙◌, subst, inl, inr, add-zero, arith}
use Rattle.std.specs.List.{AllByRecursion}
use Rattle.std.proofs.lemmas.Bool.{cases_eq, cases_Bool, true≢false, cond-true, cond-false, ne_eqb}
use Rattle.rule.specs.Verdicts.{Lawful, Proper}
use Rattle.rule.specs.declared.Contact.{Contact}
use Rattle.rule.specs.declared.Event.TheVariants.{Close}
use Rattle.rule.specs.declared.Verdict.{Verdict}
use Rattle.rule.specs.declared.Verdict.TheVariants.{BothStand, CallerYields, OtherYields}
use Rattle.machine.specs.declared.Entry.{Entry}
use Rattle.machine.specs.Machine.{Standing, idle, open_with, marked, entry_of, put, store, was_read, maybe, point_of, Request, close_request, contact_at, contacts_with, contacts_from, first_that, is_caller_yields, is_other_yields, mark_one, mark_from, by_standing}
use Rattle.machine.proofs.Tables.{some≢none, was_read_is, get_or-put_other}
use Rattle.machine.proofs.Holds.{Agrees}

pub maybe_both : {A B : Type 0} (P : B → Type 0) (o : Option A) (b : B) (f : A → B) → (o ≡ None → P b) → ((x : A) → o ≡ Some x → P (f x)) → P (maybe o b f)
maybe_both P None b f none some = none refl
maybe_both P (Some x) b f none some = some x refl

pub by_standing_both : {B : Type 0} (P : B → Type 0) (s : Standing) (b : B) (f : ℕ → List Entry → B) (g : ℕ → ℕ → B) → (s ≡ idle → P b) → ((n : ℕ) (es : List Entry) → s ≡ open_with n es → P (f n es)) → ((w x : ℕ) → s ≡ marked w x → P (g w x)) → P (by_standing s b f g)
by_standing_both P idle b f g i j k = i refl
by_standing_both P (open_with n es) b f g i j k = j n es refl
by_standing_both P (marked w x) b f g i j k = k w x refl

-- ---- the first contact that passes a test

pub none_here : (f : Contact → Bool) (k : Contact) (ks : List Contact) → first_that f (k ∷ ks) ≡ None → f k ≡ false
none_here f k ks h = elim (cases_Bool (f k)) [
  | inl t ↦ absurd (some≢none k _ (cond-true (f k) (Some k) (first_that f ks) t) h)
  | inr t ↦ t
]

pub none_there : (f : Contact → Bool) (k : Contact) (ks : List Contact) → first_that f (k ∷ ks) ≡ None → first_that f ks ≡ None
none_there f k ks h = sym (cond-false (f k) (Some k) (first_that f ks) (none_here f k ks h)) ∙ h

pub none_left : (f : Contact → Bool) (ks more : List Contact) → first_that f (ks ++ more) ≡ None → first_that f ks ≡ None
none_left f [] more h = refl
none_left f (k ∷ ks) more h = cond-false (f k) (Some k) (first_that f ks) (none_here f k (ks ++ more) h) ∙ none_left f ks more (none_there f k (ks ++ more) h)

pub none_right : (f : Contact → Bool) (ks more : List Contact) → first_that f (ks ++ more) ≡ None → first_that f more ≡ None
none_right f [] more h = h
none_right f (k ∷ ks) more h = none_right f ks more (none_there f k (ks ++ more) h)

-- ---- place by place

pub contacts_none : (f : Contact → Bool) (q : Request) (i : ℕ) (ss : List Standing) (d j : ℕ) → i + d ≡ j → first_that f (contacts_from q i ss) ≡ None → first_that f (contacts_with q j (get_or ss d idle)) ≡ None
contacts_none f q i [] d j e h = refl
contacts_none f q i (s ∷ ss) zero j e h = subst (λ (n : ℕ). first_that f (contacts_with q n s) ≡ None) (sym (add-zero i) ∙ e) (none_left f (contacts_with q i s) (contacts_from q (suc i) ss) h)
contacts_none f q i (s ∷ ss) (suc d) j e h = contacts_none f q (suc i) ss d j (omega arith) (none_right f (contacts_with q i s) (contacts_from q (suc i) ss) h)

pub mark_at : (v : Contact → Verdict) (q : Request) (i : ℕ) (ss : List Standing) (d j : ℕ) → i + d ≡ j → get_or (mark_from v q i ss) d idle ≡ mark_one v q j (get_or ss d idle)
mark_at v q i [] d j e = refl
mark_at v q i (s ∷ ss) zero j e = ap (λ (n : ℕ). mark_one v q n s) (sym (add-zero i) ∙ e)
mark_at v q i (s ∷ ss) (suc d) j e = mark_at v q (suc i) ss d j (omega arith)

pub length-mark : (v : Contact → Verdict) (q : Request) (i : ℕ) (ss : List Standing) → length (mark_from v q i ss) ≡ length ss
length-mark v q i [] = refl
length-mark v q i (s ∷ ss) = ap suc (length-mark v q (suc i) ss)

-- ---- a close

pub both_stand : (r : Verdict) → is_caller_yields r ≡ false → is_other_yields r ≡ false → r ≡ BothStand
both_stand BothStand p q = refl
both_stand CallerYields p q = absurd (true≢false p)
both_stand OtherYields p q = absurd (true≢false q)

-- the closer of es wrote no cell that es' read
abbrev Clear : List Entry → List Entry → Type 0
Clear es es' = AllByRecursion (λ (e : Entry). is_some e.written ≡ true → was_read (entry_of e.cell es') ≡ true → ⊥) es

clear_points : (v : Contact → Verdict) → Lawful v → (q : Request) → q.event ≡ Close → (d m : ℕ) (es' es : List Entry)
    → first_that (λ k. is_caller_yields (v k)) (map (contact_at q d m es') (map point_of es)) ≡ None
    → first_that (λ k. is_other_yields (v k)) (map (contact_at q d m es') (map point_of es)) ≡ None
    → AllByRecursion Proper (map (contact_at q d m es') (map point_of es)) → Clear es es'
clear_points v law q close d m es' [] h g proper = tt
clear_points v law q close d m es' (e ∷ es) h g proper = (
  λ w r. law.enough k proper.0 close w r (both_stand (v k) (none_here (λ k. is_caller_yields (v k)) k ks h) (none_here (λ k. is_other_yields (v k)) k ks g)),
  clear_points v law q close d m es' es (none_there (λ k. is_caller_yields (v k)) k ks h) (none_there (λ k. is_other_yields (v k)) k ks g) proper.1,
)
  where
    k : Contact
    k = contact_at q d m es' (point_of e)

    ks : List Contact
    ks = map (contact_at q d m es') (map point_of es)

pub clear : (v : Contact → Verdict) → Lawful v → (c n d m : ℕ) (es es' : List Entry) → (d ≡ c → ⊥)
    → first_that (λ k. is_caller_yields (v k)) (contacts_with (close_request c n es) d (open_with m es')) ≡ None
    → first_that (λ k. is_other_yields (v k)) (contacts_with (close_request c n es) d (open_with m es')) ≡ None
    → AllByRecursion Proper (contacts_with (close_request c n es) d (open_with m es')) → Clear es es'
clear v law c n d m es es' ne h g proper =
    let e = cond-false (eqb d c) [] (map (contact_at (close_request c n es) d m es') (map point_of es)) (ne_eqb d c ne) in
    clear_points v law (close_request c n es) refl d m es' es (rw e at h) (rw e at g) (rw e at proper)

put_none : (o : Option ℕ) (x : ℕ) (cells : List ℕ) → (is_some o ≡ true → ⊥) → put o x cells ≡ cells
put_none None x cells h = refl
put_none (Some v) x cells h = absurd (h refl)

pub store_clear : (es es' : List Entry) (cells : List ℕ) (x : ℕ) → Clear es es' → was_read (entry_of x es') ≡ true → get_or (store es cells) x 0 ≡ get_or cells x 0
store_clear [] es' cells x h r = refl
store_clear (e ∷ es) es' cells x h r = store_clear es es' (put e.written e.cell cells) x h.1 r ∙ elim (cases_eq e.cell x) [
  | inl p ↦ ap (λ (z : List ℕ). get_or z x 0) (put_none e.written e.cell cells (λ w. h.0 w (ap (λ (z : ℕ). was_read (entry_of z es')) p ∙ r)))
  | inr n ↦ get_or-put_other e.written e.cell x cells n
]

pub agrees_clear : (es es' : List Entry) (cells : List ℕ) → Clear es es' → Agrees es' cells → Agrees es' (store es cells)
agrees_clear es es' cells h a x v p = a x v p ∙ sym (store_clear es es' cells x h (was_read_is (entry_of x es') ∙ ap is_some p))
