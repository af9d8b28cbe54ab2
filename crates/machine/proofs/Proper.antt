-- Every contact that a request makes is proper. Assumes nothing.
use Rattle.std.proofs.Common.{◌≡◌, ℕ, suc, ◌+◌, ◌<◌, ◌≤◌, true, eqb, ltb, List, [], ◌∷◌, map, length, get_or, sym, refl, ◌∙◌, subst, inl, inr, arith}
use Rattle.std.specs.List.{AllByRecursion}
use Rattle.std.proofs.lemmas.List.{get_or_past}
use Rattle.std.proofs.ByRecursion.{All-weaker, All-map, All-append}
use Rattle.std.proofs.lemmas.Bool.{cond_both, cases_Bool, ltb-true, ltb-false, eqb-false}
use Rattle.rule.specs.Verdicts.{includes, Proper}
use Rattle.rule.specs.declared.Side.{Side}
use Rattle.machine.specs.declared.Entry.{Entry}
use Rattle.machine.specs.Machine.{Standing, idle, open_with, marked, Point, point_of, Request, read_request, write_request, close_request, contact_at, contacts_with, contacts_from}
use Rattle.machine.specs.Runs.{IsOpen}
use Rattle.machine.specs.States.{SoundTable, SoundStanding, ContactsAreProper}
use Rattle.machine.proofs.Places.{all_places}
use Rattle.machine.proofs.Sound.{sound}

-- the caller's side of a contact
abbrev pub own_side : Request → Point → Side
own_side q p = record { client = q.caller; number = q.number; read = p.read; written = p.written }

abbrev pub Asks : Request → Point → Type 0
Asks q p = includes q.event (own_side q p) ≡ true

pub table_asks : (c n : ℕ) (all es : List Entry) → SoundTable es → AllByRecursion (Asks (close_request c n all)) (map point_of es)
table_asks c n all [] h = tt
table_asks c n all (e ∷ es) h = (h.1, table_asks c n all es h.2)

pub proper_with : (q : Request) (d : ℕ) (st : Standing) → q.caller < 8 → d < 8 → AllByRecursion (Asks q) q.points → AllByRecursion Proper (contacts_with q d st)
proper_with q d idle l m h = tt
proper_with q d (marked w x) l m h = tt
proper_with q d (open_with n es) l m h = cond_both (eqb d q.caller) [] (map (contact_at q d n es) q.points) (AllByRecursion Proper) (λ e. tt)
    (λ e. All-map Proper (contact_at q d n es) q.points (All-weaker (Asks q) (λ (p : Point). Proper (contact_at q d n es p)) (λ p a. record {
      requested = a;
      apart = λ z. eqb-false d q.caller e (sym z);
      caller_below = l;
      other_below = m;
    }) q.points h))

-- a client number that is refused stands for no client
pub past_idle : (ss : List Standing) (d : ℕ) → length ss ≡ 8 → 8 ≤ d → get_or ss d idle ≡ idle
past_idle ss d e l = get_or_past ss d idle (subst (λ (z : ℕ). z ≤ d) (sym e) l)

pub proper_at : (q : Request) (ss : List Standing) (d : ℕ) → length ss ≡ 8 → q.caller < 8 → AllByRecursion (Asks q) q.points → AllByRecursion Proper (contacts_with q d (get_or ss d idle))
proper_at q ss d e l h = elim (cases_Bool (ltb d 8)) [
  | inl m ↦ proper_with q d (get_or ss d idle) l (ltb-true _ _ m) h
  | inr m ↦ subst (λ (st : Standing). AllByRecursion Proper (contacts_with q d st)) (sym (past_idle ss d e (ltb-false _ _ m))) tt
]

pub proper_from : (q : Request) (i : ℕ) (ss : List Standing) → i + length ss ≤ 8 → q.caller < 8 → AllByRecursion (Asks q) q.points → AllByRecursion Proper (contacts_from q i ss)
proper_from q i [] m l h = tt
proper_from q i (s ∷ ss) m l h = All-append Proper (contacts_with q i s) (contacts_from q (suc i) ss) (proper_with q i s l (omega arith) h) (proper_from q (suc i) ss (omega arith) l h)

-- who is open is one of the eight
pub open_below : (ss : List Standing) (c n : ℕ) (es : List Entry) → length ss ≡ 8 → get_or ss c idle ≡ open_with n es → c < 8
open_below ss c n es e p = elim (cases_Bool (ltb c 8)) [
  | inl m ↦ ltb-true _ _ m
  | inr m ↦ absurd (subst IsOpen (sym p ∙ past_idle ss c e (ltb-false _ _ m)) tt)
]

pub contacts_are_proper_lem : ContactsAreProper
contacts_are_proper_lem v start log s r c n es p =
    let i = sound v start r in
    let l = open_below s.clients c n es i.eight p in
    let m : 0 + length s.clients ≤ 8 = omega arith in
    record {
      at_read = λ x. proper_from (read_request c n x) 0 s.clients m l (refl, tt);
      at_write = λ x w. proper_from (write_request c n x w) 0 s.clients m l (refl, tt);
      at_close = proper_from (close_request c n es) 0 s.clients m l (table_asks c n es es (subst SoundStanding p (all_places SoundStanding s.clients c idle tt i.tables)).1);
    }
