-- A transaction's table: which entry a cell has, and what a store of the table leaves. Assumes nothing.
use Rattle.std.proofs.Common.{◌≡◌, ℕ, ◌<◌, true, ◌||◌, eqb, ◌⊎◌, List, [], ◌∷◌, ◌++◌, length, get_or, set, is_some, Some, None, Option, sym, refl, ap, ◌∙◌, subst, inl, inr, arith, length-set, get_or-set_other, get_or-set_same, set-set}
use lib.Seq.{set_comm}
use Rattle.std.proofs.lemmas.Bool.{eqb-true, eqb-false, ne_eqb, eq-eqb, cases_Bool, cases_eq, cond-true, cond-false, or_right}
use Rattle.machine.specs.declared.Entry.{Entry}
use Rattle.machine.specs.Machine.{entry_of, write_entry, with_written, fill, put, store, was_read, was_written, maybe}
use Rattle.machine.specs.States.{SoundTable}

-- the value that the table's entry for a cell read, and the one that it is to write
abbrev pub read_of : Option Entry → Option ℕ
read_of None = None
read_of (Some e) = e.read

abbrev pub written_of : Option Entry → Option ℕ
written_of None = None
written_of (Some e) = e.written

pub some≢none : {A : Type 0} (a : A) (o : Option A) → o ≡ Some a → o ≡ None → ⊥
some≢none a o p q = let z : ◌≡◌ {A = ℕ} 0 1 = cc in omega arith

pub some_same : {A : Type 0} (a b : A) → Some a ≡ Some b → a ≡ b
some_same a b p = cc

-- ---- which entry a cell has

pub entry_here : (e : Entry) (es : List Entry) (x : ℕ) → e.cell ≡ x → entry_of x (e ∷ es) ≡ Some e
entry_here e es x h = cond-true _ _ _ (eq-eqb e.cell x h)

pub entry_there : (e : Entry) (es : List Entry) (x : ℕ) → (e.cell ≡ x → ⊥) → entry_of x (e ∷ es) ≡ entry_of x es
entry_there e es x h = cond-false _ _ _ (ne_eqb e.cell x h)

-- a cell is that of the first entry, or it is not
pub first_or_not : (e : Entry) (x : ℕ) → (e.cell ≡ x) ⊎ (e.cell ≡ x → ⊥)
first_or_not e x = elim (cases_Bool (eqb e.cell x)) [ inl h ↦ inl (eqb-true _ _ h) | inr h ↦ inr (eqb-false _ _ h) ]

pub absent_apart : (e : Entry) (es : List Entry) (x : ℕ) → entry_of x (e ∷ es) ≡ None → (e.cell ≡ x → ⊥)
absent_apart e es x h k = some≢none e _ (entry_here e es x k) h

pub absent_rest : (e : Entry) (es : List Entry) (x : ℕ) → entry_of x (e ∷ es) ≡ None → entry_of x es ≡ None
absent_rest e es x h = sym (entry_there e es x (absent_apart e es x h)) ∙ h

pub entry_old : (es more : List Entry) (x : ℕ) (e : Entry) → entry_of x es ≡ Some e → entry_of x (es ++ more) ≡ Some e
entry_old [] more x e h = absurd (some≢none e None h refl)
entry_old (d ∷ es) more x e h = elim (first_or_not d x) [
  | inl k ↦ entry_here d (es ++ more) x k ∙ sym (entry_here d es x k) ∙ h
  | inr k ↦ entry_there d (es ++ more) x k ∙ entry_old es more x e (sym (entry_there d es x k) ∙ h)
]

pub entry_new : (es more : List Entry) (x : ℕ) → entry_of x es ≡ None → entry_of x (es ++ more) ≡ entry_of x more
entry_new [] more x h = refl
entry_new (d ∷ es) more x h = entry_there d (es ++ more) x (absent_apart d es x h) ∙ entry_new es more x (absent_rest d es x h)

pub fill_here : (e : Entry) (es : List Entry) (x v : ℕ) → e.cell ≡ x → fill (e ∷ es) x v ≡ with_written e v ∷ es
fill_here e es x v h = cond-true _ _ _ (eq-eqb e.cell x h)

pub fill_there : (e : Entry) (es : List Entry) (x v : ℕ) → (e.cell ≡ x → ⊥) → fill (e ∷ es) x v ≡ e ∷ fill es x v
fill_there e es x v h = cond-false _ _ _ (ne_eqb e.cell x h)

pub entry_fill_other : (es : List Entry) (x v y : ℕ) → (x ≡ y → ⊥) → entry_of y (fill es x v) ≡ entry_of y es
entry_fill_other [] x v y n = entry_there (write_entry x v) [] y n
entry_fill_other (e ∷ es) x v y n = elim (first_or_not e x) [
  | inl h ↦ ap (entry_of y) (fill_here e es x v h) ∙ entry_there (with_written e v) es y (λ k. n (sym h ∙ k)) ∙ sym (entry_there e es y (λ k. n (sym h ∙ k)))
  | inr h ↦ ap (entry_of y) (fill_there e es x v h) ∙ elim (first_or_not e y) [
    | inl k ↦ entry_here e (fill es x v) y k ∙ sym (entry_here e es y k)
    | inr k ↦ entry_there e (fill es x v) y k ∙ entry_fill_other es x v y n ∙ sym (entry_there e es y k)
  ]
]

pub entry_fill_same : (es : List Entry) (x v : ℕ) → written_of (entry_of x (fill es x v)) ≡ Some v
entry_fill_same [] x v = ap written_of (entry_here (write_entry x v) [] x refl)
entry_fill_same (e ∷ es) x v = elim (first_or_not e x) [
  | inl h ↦ ap (λ (t : List Entry). written_of (entry_of x t)) (fill_here e es x v h) ∙ ap written_of (entry_here (with_written e v) es x h)
  | inr h ↦ ap (λ (t : List Entry). written_of (entry_of x t)) (fill_there e es x v h) ∙ ap written_of (entry_there e (fill es x v) x h) ∙ entry_fill_same es x v
]

pub read_fill_same : (es : List Entry) (x v : ℕ) → read_of (entry_of x (fill es x v)) ≡ read_of (entry_of x es)
read_fill_same [] x v = ap read_of (entry_here (write_entry x v) [] x refl)
read_fill_same (e ∷ es) x v = elim (first_or_not e x) [
  | inl h ↦ ap (λ (t : List Entry). read_of (entry_of x t)) (fill_here e es x v h) ∙ ap read_of (entry_here (with_written e v) es x h) ∙ sym (ap read_of (entry_here e es x h))
  | inr h ↦ ap (λ (t : List Entry). read_of (entry_of x t)) (fill_there e es x v h) ∙ ap read_of (entry_there e (fill es x v) x h) ∙ read_fill_same es x v ∙ sym (ap read_of (entry_there e es x h))
]

pub read_fill : (es : List Entry) (x v y : ℕ) → read_of (entry_of y (fill es x v)) ≡ read_of (entry_of y es)
read_fill es x v y = elim (cases_eq x y) [
  | inl h ↦ subst (λ (z : ℕ). read_of (entry_of z (fill es x v)) ≡ read_of (entry_of z es)) h (read_fill_same es x v)
  | inr h ↦ ap read_of (entry_fill_other es x v y h)
]

-- ---- the shape of a table

pub table_push : (es : List Entry) (e : Entry) → SoundTable es → entry_of e.cell es ≡ None → (is_some e.read || is_some e.written) ≡ true → SoundTable (es ++ (e ∷ []))
table_push [] e h n k = (refl, k, tt)
table_push (d ∷ es) e h n k = (
  entry_new es (e ∷ []) d.cell h.0 ∙ entry_there e [] d.cell (λ p. absent_apart d es e.cell n (sym p)),
  h.1,
  table_push es e h.2 (absent_rest d es e.cell n) k,
)

pub table_fill : (es : List Entry) (x v : ℕ) → SoundTable es → SoundTable (fill es x v)
table_fill [] x v h = (refl, refl, tt)
table_fill (e ∷ es) x v h = elim (first_or_not e x) [
  | inl k ↦ subst SoundTable (sym (fill_here e es x v k)) (h.0, or_right (is_some e.read) true refl, h.2)
  | inr k ↦ subst SoundTable (sym (fill_there e es x v k)) (entry_fill_other es x v e.cell (λ p. k (sym p)) ∙ h.0, h.1, table_fill es x v h.2)
]

pub table_known : (es : List Entry) (x : ℕ) (e : Entry) → SoundTable es → entry_of x es ≡ Some e → (is_some e.read || is_some e.written) ≡ true
table_known [] x e h p = absurd (some≢none e None p refl)
table_known (d ∷ es) x e h p = elim (first_or_not d x) [
  | inl k ↦ subst (λ (z : Entry). (is_some z.read || is_some z.written) ≡ true) (some_same d e (sym (entry_here d es x k) ∙ p)) h.1
  | inr k ↦ table_known es x e h.2 (sym (entry_there d es x k) ∙ p)
]

-- ---- what a store leaves

pub length-put : (o : Option ℕ) (x : ℕ) (cells : List ℕ) → length (put o x cells) ≡ length cells
length-put None x cells = refl
length-put (Some v) x cells = length-set cells x v

pub length-store : (es : List Entry) (cells : List ℕ) → length (store es cells) ≡ length cells
length-store [] cells = refl
length-store (e ∷ es) cells = length-store es (put e.written e.cell cells) ∙ length-put e.written e.cell cells

put_set_other : (o : Option ℕ) (y x v : ℕ) (cells : List ℕ) → (y ≡ x → ⊥) → put o y (set cells x v) ≡ set (put o y cells) x v
put_set_other None y x v cells n = refl
put_set_other (Some u) y x v cells n = set_comm cells x y v u (λ p. n (sym p))

put_set_same : (o : Option ℕ) (x v : ℕ) (cells : List ℕ) → set (put o x cells) x v ≡ set cells x v
put_set_same None x v cells = refl
put_set_same (Some u) x v cells = set-set cells x u v

pub get_or-put_other : (o : Option ℕ) (y x : ℕ) (cells : List ℕ) → (y ≡ x → ⊥) → get_or (put o y cells) x 0 ≡ get_or cells x 0
get_or-put_other None y x cells n = refl
get_or-put_other (Some u) y x cells n = get_or-set_other cells y x u 0 (λ p. n (sym p))

store_set : (es : List Entry) (x v : ℕ) (cells : List ℕ) → entry_of x es ≡ None → store es (set cells x v) ≡ set (store es cells) x v
store_set [] x v cells h = refl
store_set (e ∷ es) x v cells h = ap (store es) (put_set_other e.written e.cell x v cells (absent_apart e es x h)) ∙ store_set es x v (put e.written e.cell cells) (absent_rest e es x h)

pub store_fill : (es : List Entry) (x v : ℕ) (cells : List ℕ) → SoundTable es → store (fill es x v) cells ≡ set (store es cells) x v
store_fill [] x v cells h = refl
store_fill (e ∷ es) x v cells h = elim (first_or_not e x) [
  | inl k ↦ ap (λ (t : List Entry). store t cells) (fill_here e es x v k)
      ∙ ap (λ (z : ℕ). store es (set cells z v)) k
      ∙ ap (store es) (sym (put_set_same e.written x v cells))
      ∙ store_set es x v (put e.written x cells) (ap (λ (z : ℕ). entry_of z es) (sym k) ∙ h.0)
      ∙ ap (λ (z : ℕ). set (store es (put e.written z cells)) x v) (sym k)
  | inr k ↦ ap (λ (t : List Entry). store t cells) (fill_there e es x v k) ∙ store_fill es x v (put e.written e.cell cells) h.2
]

pub store_absent : (es : List Entry) (x : ℕ) (cells : List ℕ) → entry_of x es ≡ None → get_or (store es cells) x 0 ≡ get_or cells x 0
store_absent [] x cells h = refl
store_absent (e ∷ es) x cells h = store_absent es x (put e.written e.cell cells) (absent_rest e es x h) ∙ get_or-put_other e.written e.cell x cells (absent_apart e es x h)

-- a cell's value after the store: the one to be written, if any, or the old one
pub store_at : (es : List Entry) (x : ℕ) (cells : List ℕ) → SoundTable es → x < length cells → get_or (store es cells) x 0 ≡ maybe (written_of (entry_of x es)) (get_or cells x 0) (λ w. w)
store_at [] x cells h l = refl
store_at (e ∷ es) x cells h l = elim (first_or_not e x) [
  | inl k ↦ store_absent es x (put e.written e.cell cells) (ap (λ (z : ℕ). entry_of z es) (sym k) ∙ h.0) ∙ put_here e.written k
      ∙ ap (λ (o : Option Entry). maybe (written_of o) (get_or cells x 0) (λ w. w)) (sym (entry_here e es x k))
  | inr k ↦ store_at es x (put e.written e.cell cells) h.2 (subst (λ (n : ℕ). x < n) (sym (length-put e.written e.cell cells)) l)
      ∙ ap (λ (z : ℕ). maybe (written_of (entry_of x es)) z (λ w. w)) (get_or-put_other e.written e.cell x cells k)
      ∙ ap (λ (o : Option Entry). maybe (written_of o) (get_or cells x 0) (λ w. w)) (sym (entry_there e es x k))
]
  where
    put_here : (o : Option ℕ) → e.cell ≡ x → get_or (put o e.cell cells) x 0 ≡ maybe o (get_or cells x 0) (λ w. w)
    put_here None k = refl
    put_here (Some u) k = ap (λ (z : ℕ). get_or (set cells z u) x 0) k ∙ get_or-set_same cells x u 0 l

pub store_push : (es : List Entry) (e : Entry) (cells : List ℕ) → e.written ≡ None → store (es ++ (e ∷ [])) cells ≡ store es cells
store_push [] e cells h = ap (λ (o : Option ℕ). put o e.cell cells) h
store_push (d ∷ es) e cells h = store_push es e (put d.written d.cell cells) h

-- ---- one more entry

pub option_cases : {A : Type 0} (o : Option A) → (o ≡ None) ⊎ ((a : A) × (o ≡ Some a))
option_cases None = inl refl
option_cases (Some a) = inr (a, refl)

pub entry_push : (es : List Entry) (e : Entry) (y : ℕ) → (entry_of y (es ++ (e ∷ [])) ≡ entry_of y es) ⊎ ((e.cell ≡ y) × (entry_of y (es ++ (e ∷ [])) ≡ Some e))
entry_push es e y = elim (option_cases (entry_of y es)) [
  | inr k ↦ inl (entry_old es (e ∷ []) y k.0 k.1 ∙ sym k.1)
  | inl n ↦ elim (first_or_not e y) [
    | inl h ↦ inr (h, entry_new es (e ∷ []) y n ∙ entry_here e [] y h)
    | inr h ↦ inl (entry_new es (e ∷ []) y n ∙ entry_there e [] y h ∙ sym n)
  ]
]

pub was_read_is : (o : Option Entry) → was_read o ≡ is_some (read_of o)
was_read_is None = refl
was_read_is (Some e) = refl

pub was_written_is : (o : Option Entry) → was_written o ≡ is_some (written_of o)
was_written_is None = refl
was_written_is (Some e) = refl
