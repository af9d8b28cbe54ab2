-- What a table holds of a transaction's operations. Assumes nothing.
use Rattle.std.proofs.Common.{◌≡◌, ℕ, ◌<◌, true, false, ◌||◌, List, [], ◌∷◌, ◌++◌, length, get_or, set, is_some, Some, None, Option, sym, refl, ap, ◌∙◌, subst, inl, inr}
use Rattle.std.proofs.lemmas.Bool.{cases_eq, false≢true, true≢false}
use Rattle.machine.specs.declared.Entry.{Entry}
use Rattle.machine.specs.Machine.{entry_of, known, read_entry, fill, store, was_read, was_written, maybe}
use Rattle.machine.specs.Log.{Operation, reads, writes, left_by, tabled, tabled_all, table_of}
use Rattle.machine.specs.Runs.{HasTouchedCell, HasWrittenCell}
use Rattle.machine.proofs.Operations.{Alone, left_read, left_write, alone_read, alone_write, touches_old, touches_new, touches_split, writes_old, writes_new, writes_split}
use Rattle.machine.specs.States.{SoundTable}
use Rattle.machine.proofs.Tables.{read_of, written_of, some≢none, some_same, entry_old, entry_new, entry_here, entry_push, was_read_is, was_written_is, read_fill, entry_fill_same, entry_fill_other, table_push, table_fill, table_known, store_fill, store_absent, store_at, store_push, option_cases}

-- the values that the table read are those of the cells
abbrev pub Agrees : List Entry → List ℕ → Type 0
Agrees es cells = (x v : ℕ) → read_of (entry_of x es) ≡ Some v → v ≡ get_or cells x 0

-- The table tells what the operations do to any cells that agree with what it read, and agrees with the cells as they stand.
pub record Holds (cells : List ℕ) (es : List Entry) (ops : List Operation) : Type 0 where
  pub agrees : Agrees es cells
  pub table : SoundTable es
  pub alone : (cs : List ℕ) → length cs ≡ length cells → Agrees es cs → Alone ops cs
  pub left : (cs : List ℕ) → length cs ≡ length cells → left_by ops cs ≡ store es cs
  pub touch : (x : ℕ) → was_read (entry_of x es) ≡ true → HasTouchedCell x ops
  pub write : (x : ℕ) → was_written (entry_of x es) ≡ true → HasWrittenCell x ops
  pub is_table : es ≡ table_of ops
  pub untouched : (x : ℕ) → entry_of x es ≡ None → HasTouchedCell x ops → ⊥
  pub unwritten : (x : ℕ) → was_written (entry_of x es) ≡ false → HasWrittenCell x ops → ⊥

-- the table after one more operation
tabled_push : (es : List Entry) (ops : List Operation) (o : Operation) → tabled_all es (ops ++ (o ∷ [])) ≡ tabled (tabled_all es ops) o
tabled_push es [] o = refl
tabled_push es (u ∷ ops) o = tabled_push (tabled es u) ops o

table_grows : (es : List Entry) (ops : List Operation) (o : Operation) → es ≡ table_of ops → table_of (ops ++ (o ∷ [])) ≡ tabled es o
table_grows es ops o e = tabled_push [] ops o ∙ ap (λ (z : List Entry). tabled z o) (sym e)

pub holds_open : (cells : List ℕ) → Holds cells [] []
holds_open cells = record {
  agrees = λ x v p. absurd (some≢none v None p refl);
  table = tt;
  alone = λ cs l a. tt;
  left = λ cs l. refl;
  touch = λ x p. absurd (false≢true p);
  write = λ x p. absurd (false≢true p);
  is_table = refl;
  untouched = λ x p t. t;
  unwritten = λ x p t. t;
}

-- other cells that the table agrees with
pub holds_moved : (cells next : List ℕ) (es : List Entry) (ops : List Operation) → Holds cells es ops → length next ≡ length cells → Agrees es next → Holds next es ops
holds_moved cells next es ops h l a = record {
  agrees = a;
  table = h.table;
  alone = λ cs k b. h.alone cs (k ∙ l) b;
  left = λ cs k. h.left cs (k ∙ l);
  touch = h.touch;
  write = h.write;
  is_table = h.is_table;
  untouched = h.untouched;
  unwritten = h.unwritten;
}

-- ---- a read that the table answers

known_value : (r w : Option ℕ) (z : ℕ) → (is_some r || is_some w) ≡ true → ((v : ℕ) → r ≡ Some v → v ≡ z) → maybe w (maybe r 0 (λ v. v)) (λ u. u) ≡ maybe w z (λ u. u)
known_value r (Some u) z h f = refl
known_value (Some v) None z h f = f v refl
known_value None None z h f = absurd (false≢true h)

pub holds_known : (cells : List ℕ) (es : List Entry) (ops : List Operation) (x : ℕ) (e : Entry) → Holds cells es ops → entry_of x es ≡ Some e → x < length cells → Holds cells es (ops ++ (reads x (known e) ∷ []))
holds_known cells es ops x e h p l = record {
  agrees = h.agrees;
  table = h.table;
  alone = λ cs m a. alone_read ops cs x (known e) (h.alone cs m a) (shown cs m a ∙ sym (ap (λ (z : List ℕ). get_or z x 0) (h.left cs m)));
  left = λ cs m. left_read ops cs x (known e) ∙ h.left cs m;
  touch = λ y q. touches_old ops _ y (h.touch y q);
  write = λ y q. writes_old ops _ y (h.write y q);
  is_table = sym (table_grows es ops (reads x (known e)) h.is_table ∙ ap (λ (o : Option Entry). maybe o (es ++ (read_entry x (known e) ∷ [])) (λ e. es)) p);
  untouched = λ y n t. elim (touches_split ops _ y t) [ inl o ↦ h.untouched y n o | inr o ↦ elim o [ inl q ↦ some≢none e _ (ap (λ (z : ℕ). entry_of z es) (sym q) ∙ p) n | inr z ↦ z ] ];
  unwritten = λ y n t. elim (writes_split ops _ y t) [ inl o ↦ h.unwritten y n o | inr z ↦ z ];
}
  where
    shown : (cs : List ℕ) → length cs ≡ length cells → Agrees es cs → known e ≡ get_or (store es cs) x 0
    shown cs m a = known_value e.read e.written (get_or cs x 0) (table_known es x e h.table p) (λ v q. a x v (ap read_of p ∙ q))
        ∙ sym (store_at es x cs h.table (subst (λ (n : ℕ). x < n) (sym m) l) ∙ ap (λ (o : Option Entry). maybe (written_of o) (get_or cs x 0) (λ u. u)) p)

-- ---- a read of a new cell

agrees_old : (es more : List Entry) (cs : List ℕ) → Agrees (es ++ more) cs → Agrees es cs
agrees_old es more cs a x v p = elim (option_cases (entry_of x es)) [
  | inl n ↦ absurd (some≢none v _ p (ap read_of n))
  | inr k ↦ a x v (ap read_of (entry_old es more x k.0 k.1) ∙ sym (ap read_of k.1) ∙ p)
]

agrees_new : (es : List Entry) (cs : List ℕ) (x v : ℕ) → entry_of x es ≡ None → Agrees (es ++ (read_entry x v ∷ [])) cs → v ≡ get_or cs x 0
agrees_new es cs x v n a = a x v (ap read_of (entry_new es (read_entry x v ∷ []) x n) ∙ ap read_of (entry_here (read_entry x v) [] x refl))

agrees_push : (es : List Entry) (cs : List ℕ) (x v : ℕ) → Agrees es cs → v ≡ get_or cs x 0 → Agrees (es ++ (read_entry x v ∷ [])) cs
agrees_push es cs x v a q y u p = elim (entry_push es (read_entry x v) y) [
  | inl k ↦ a y u (sym (ap read_of k) ∙ p)
  | inr k ↦ some_same u v (sym p ∙ ap read_of k.1) ∙ q ∙ ap (λ (z : ℕ). get_or cs z 0) k.0
]

pub holds_first_read : (cells : List ℕ) (es : List Entry) (ops : List Operation) (x v : ℕ) → Holds cells es ops → entry_of x es ≡ None → v ≡ get_or cells x 0 → Holds cells (es ++ (read_entry x v ∷ [])) (ops ++ (reads x v ∷ []))
holds_first_read cells es ops x v h n q = record {
  agrees = agrees_push es cells x v h.agrees q;
  table = table_push es (read_entry x v) h.table n refl;
  alone = λ cs m a. alone_read ops cs x v (h.alone cs m (agrees_old es (read_entry x v ∷ []) cs a))
      (agrees_new es cs x v n a ∙ sym (ap (λ (z : List ℕ). get_or z x 0) (h.left cs m) ∙ store_absent es x cs n));
  left = λ cs m. left_read ops cs x v ∙ h.left cs m ∙ sym (store_push es (read_entry x v) cs refl);
  touch = λ y p. elim (entry_push es (read_entry x v) y) [
    | inl k ↦ touches_old ops _ y (h.touch y (sym (ap was_read k) ∙ p))
    | inr k ↦ touches_new ops _ y (inl k.0)
  ];
  write = λ y p. elim (entry_push es (read_entry x v) y) [
    | inl k ↦ writes_old ops _ y (h.write y (sym (ap was_written k) ∙ p))
    | inr k ↦ absurd (false≢true (sym (ap was_written k.1) ∙ p))
  ];
  is_table = sym (table_grows es ops (reads x v) h.is_table ∙ ap (λ (o : Option Entry). maybe o (es ++ (read_entry x v ∷ [])) (λ e. es)) n);
  untouched = λ y g t. elim (entry_push es (read_entry x v) y) [
    | inl k ↦ elim (touches_split ops _ y t) [ inl o ↦ h.untouched y (sym k ∙ g) o | inr o ↦ elim o [ inl q ↦ some≢none (read_entry x v) _ (new_here y q) g | inr z ↦ z ] ]
    | inr k ↦ some≢none (read_entry x v) _ k.1 g
  ];
  unwritten = λ y g t. elim (writes_split ops _ y t) [
    | inl o ↦ elim (entry_push es (read_entry x v) y) [ inl k ↦ h.unwritten y (sym (ap was_written k) ∙ g) o | inr k ↦ h.unwritten y (ap (λ (z : ℕ). was_written (entry_of z es)) (sym k.0) ∙ ap was_written n) o ]
    | inr z ↦ z
  ];
}
  where
    new_here : (y : ℕ) → x ≡ y → entry_of y (es ++ (read_entry x v ∷ [])) ≡ Some (read_entry x v)
    new_here y q = ap (λ (z : ℕ). entry_of z (es ++ (read_entry x v ∷ []))) (sym q) ∙ entry_new es (read_entry x v ∷ []) x n ∙ entry_here (read_entry x v) [] x refl

-- ---- a write

pub holds_write : (cells : List ℕ) (es : List Entry) (ops : List Operation) (x w : ℕ) → Holds cells es ops → Holds cells (fill es x w) (ops ++ (writes x w ∷ []))
holds_write cells es ops x w h = record {
  agrees = λ y u p. h.agrees y u (sym (read_fill es x w y) ∙ p);
  table = table_fill es x w h.table;
  alone = λ cs m a. alone_write ops cs x w (h.alone cs m (λ y u p. a y u (read_fill es x w y ∙ p)));
  left = λ cs m. left_write ops cs x w ∙ ap (λ (z : List ℕ). set z x w) (h.left cs m) ∙ sym (store_fill es x w cs h.table);
  touch = λ y p. touches_old ops _ y (h.touch y (was_read_is (entry_of y es) ∙ ap is_some (sym (read_fill es x w y)) ∙ sym (was_read_is (entry_of y (fill es x w))) ∙ p));
  write = λ y p. elim (cases_eq x y) [
    | inl k ↦ writes_new ops _ y (inl k)
    | inr k ↦ writes_old ops _ y (h.write y (sym (ap was_written (entry_fill_other es x w y k)) ∙ p))
  ];
  is_table = sym (table_grows es ops (writes x w) h.is_table);
  untouched = λ y g t. elim (cases_eq x y) [
    | inl k ↦ some≢none w _ (entry_fill_same es x w) (ap written_of (ap (λ (z : ℕ). entry_of z (fill es x w)) k ∙ g))
    | inr k ↦ elim (touches_split ops _ y t) [ inl o ↦ h.untouched y (sym (entry_fill_other es x w y k) ∙ g) o | inr o ↦ elim o [ inl q ↦ k q | inr z ↦ z ] ]
  ];
  unwritten = λ y g t. elim (cases_eq x y) [
    | inl k ↦ true≢false (sym (was_written_is (entry_of x (fill es x w)) ∙ ap is_some (entry_fill_same es x w)) ∙ ap (λ (z : ℕ). was_written (entry_of z (fill es x w))) k ∙ g)
    | inr k ↦ elim (writes_split ops _ y t) [ inl o ↦ h.unwritten y (sym (ap was_written (entry_fill_other es x w y k)) ∙ g) o | inr o ↦ elim o [ inl q ↦ k q | inr z ↦ z ] ]
  ];
}

-- ---- run alone on the cells as they stand

pub holds_now : (cells : List ℕ) (es : List Entry) (ops : List Operation) → Holds cells es ops → Alone ops cells
holds_now cells es ops h = h.alone cells refl h.agrees
