-- Rules that agree on proper contacts make the same step. Assumes nothing.
use Rattle.std.proofs.Common.{◌≡◌, ℕ, suc, ◌+◌, ◌<◌, ◌≤◌, Bool, false, cond, ltb, List, [], ◌∷◌, length, get_or, is_some, Some, None, Option, sym, refl, ap, ◌∙◌, subst, inl, inr, arith}
use Rattle.std.specs.List.{AllByRecursion}
use Rattle.std.proofs.ByRecursion.{All-weaker}
use Rattle.std.proofs.lemmas.Bool.{cases_Bool, cond-false, ltb-true}
use Rattle.rule.specs.Verdicts.{Proper}
use Rattle.rule.specs.declared.Contact.{Contact}
use Rattle.rule.specs.declared.Verdict.{Verdict}
use Rattle.machine.specs.declared.Entry.{Entry}
use Rattle.machine.specs.Machine.{State, Standing, idle, open_with, marked, open_by, read_by, write_by, close_by, cancel_by, Answer, value, yields, refused, entry_of, known, maybe, by_standing, Request, read_request, write_request, close_request, contacts_with, contacts_from, first_that, is_caller_yields, is_other_yields, first_yield, mark_one, mark_from, with_clients, end_yielding, judged, read_granted, write_granted, close_granted, first_read, do_read, judged_write, do_write, do_close, if_open}
use Rattle.machine.specs.States.{SoundTable, SoundStanding, OnlyProperContactsCount}
use Rattle.machine.proofs.Places.{all_places}
use Rattle.machine.proofs.Sound.{sound}
use Rattle.machine.proofs.Proper.{Asks, table_asks, proper_with, proper_from}

first_same : (f g : Contact → Bool) (ks : List Contact) → AllByRecursion (λ (k : Contact). f k ≡ g k) ks → first_that f ks ≡ first_that g ks
first_same f g [] h = refl
first_same f g (k ∷ ks) h = ap (λ (b : Bool). cond b (Some k) (first_that f ks)) h.0 ∙ ap (λ (z : Option Contact). cond (g k) (Some k) z) (first_same f g ks h.1)

by_standing_same : {B : Type 0} (st : Standing) (b : B) (f g : ℕ → List Entry → B) (h : ℕ → ℕ → B) → ((n : ℕ) (es : List Entry) → st ≡ open_with n es → f n es ≡ g n es) → by_standing st b f h ≡ by_standing st b g h
by_standing_same idle b f g h e = refl
by_standing_same (open_with n es) b f g h e = e n es refl
by_standing_same (marked w x) b f g h e = refl

held_same : (s : State) (c : ℕ) (f g : ℕ → List Entry → Answer × State) → ((n : ℕ) (es : List Entry) → c < 8 → get_or s.clients c idle ≡ open_with n es → f n es ≡ g n es) → if_open s c f ≡ if_open s c g
held_same s c f g h = elim (cases_Bool (ltb c 8)) [
  | inl l ↦ ap (λ (z : Answer × State). cond (ltb c 8) z (refused 1, s)) (by_standing_same (get_or s.clients c idle) (refused 4, s) f g (λ w x. (yields w x, end_yielding s c)) (λ n es p. h n es (ltb-true _ _ l) p))
  | inr l ↦ cond-false (ltb c 8) _ (refused 1, s) l ∙ sym (cond-false (ltb c 8) _ (refused 1, s) l)
]

module _ (v v' : Contact → Verdict) (agree : (k : Contact) → Proper k → v k ≡ v' k) where
  same_first : (f : Verdict → Bool) (ks : List Contact) → AllByRecursion Proper ks → first_that (λ k. f (v k)) ks ≡ first_that (λ k. f (v' k)) ks
  same_first f ks h = first_same (λ k. f (v k)) (λ k. f (v' k)) ks (All-weaker Proper (λ (k : Contact). f (v k) ≡ f (v' k)) (λ k p. ap f (agree k p)) ks h)

  module _ (q : Request) (l : q.caller < 8) (h : AllByRecursion (Asks q) q.points) where
    marks_same : (i : ℕ) (ss : List Standing) → i + length ss ≤ 8 → mark_from v q i ss ≡ mark_from v' q i ss
    marks_same i [] m = refl
    marks_same i (s ∷ ss) m =
        let here = ap (λ (o : Option Contact). maybe o s (λ k. marked q.caller k.cell)) (same_first is_other_yields (contacts_with q i s) (proper_with q i s l (omega arith) h)) in
        let there = marks_same (suc i) ss (omega arith) in
        ap (λ (z : Standing). z ∷ mark_from v q (suc i) ss) here ∙ ap (λ (z : List Standing). mark_one v' q i s ∷ z) there

    judged_same : (s : State) (go : State → Answer × State) → length s.clients ≡ 8 → judged v s q go ≡ judged v' s q go
    judged_same s go e =
        let m : 0 + length s.clients ≤ 8 = omega arith in
        ap (λ (o : Option Contact). maybe o (go (with_clients s (mark_from v q 0 s.clients))) (λ k. (yields k.other.client k.cell, end_yielding s q.caller))) (same_first is_caller_yields (contacts_from q 0 s.clients) (proper_from q 0 s.clients m l h))
        ∙ ap (λ (z : List Standing). maybe (first_yield v' q s.clients) (go (with_clients s z)) (λ k. (yields k.other.client k.cell, end_yielding s q.caller))) (marks_same 0 s.clients m)

  module _ (s : State) (eight : length s.clients ≡ 8) (c n : ℕ) (es : List Entry) (l : c < 8) where
    read_same : (x : ℕ) → first_read v s c n es x ≡ first_read v' s c n es x
    read_same x = ap (λ (z : Answer × State). cond (ltb (length es) 64) z (refused 7, s)) (judged_same (read_request c n x) l (refl, tt) s (read_granted s c n es x) eight)

    write_same : (x w : ℕ) (b : Bool) → judged_write v s c n es x w b ≡ judged_write v' s c n es x w b
    write_same x w b = judged_same (write_request c n x b) l (refl, tt) s (write_granted c n es x w) eight

    do_read_same : (x : ℕ) → do_read v s c n es x ≡ do_read v' s c n es x
    do_read_same x = ap (λ (z : Answer × State). cond (ltb x (length s.cells)) (maybe (entry_of x es) z (λ e. (value (known e), s))) (refused 6, s)) (read_same x)

    by_entry : (x w : ℕ) (o : Option Entry)
        → maybe o (cond (ltb (length es) 64) (judged_write v s c n es x w false) (refused 7, s)) (λ e. maybe e.written (judged_write v s c n es x w (is_some e.read)) (λ old. write_granted c n es x w s))
        ≡ maybe o (cond (ltb (length es) 64) (judged_write v' s c n es x w false) (refused 7, s)) (λ e. maybe e.written (judged_write v' s c n es x w (is_some e.read)) (λ old. write_granted c n es x w s))
    by_entry x w None = ap (λ (z : Answer × State). cond (ltb (length es) 64) z (refused 7, s)) (write_same x w false)
    by_entry x w (Some e) = ap (λ (z : Answer × State). maybe e.written z (λ old. write_granted c n es x w s)) (write_same x w (is_some e.read))

    do_write_same : (x w : ℕ) → do_write v s c n es x w ≡ do_write v' s c n es x w
    do_write_same x w = ap (λ (z : Answer × State). cond (ltb x (length s.cells)) z (refused 6, s)) (by_entry x w (entry_of x es))

    do_close_same : SoundTable es → do_close v s c n es ≡ do_close v' s c n es
    do_close_same t = judged_same (close_request c n es) l (table_asks c n es es t) s (close_granted c es) eight

pub only_proper : OnlyProperContactsCount
only_proper v v' agree start log s r (open_by c) = refl
only_proper v v' agree start log s r (read_by c x) = held_same s c (λ n es. do_read v s c n es x) (λ n es. do_read v' s c n es x) (λ n es l p. do_read_same v v' agree s (sound v start r).eight c n es l x)
only_proper v v' agree start log s r (write_by c x w) = held_same s c (λ n es. do_write v s c n es x w) (λ n es. do_write v' s c n es x w) (λ n es l p. do_write_same v v' agree s (sound v start r).eight c n es l x w)
only_proper v v' agree start log s r (close_by c) = held_same s c (λ n es. do_close v s c n es) (λ n es. do_close v' s c n es) (λ n es l p. do_close_same v v' agree s (sound v start r).eight c n es l (subst SoundStanding p (all_places SoundStanding s.clients c idle tt (sound v start r).tables)).1)
only_proper v v' agree start log s r (cancel_by c) = refl
