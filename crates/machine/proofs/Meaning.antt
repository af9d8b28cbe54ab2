-- What a transaction that is run alone leaves, cell by cell, and what its reads show. Assumes nothing.
use Rattle.std.proofs.Common.{◌≡◌, ℕ, ◌<◌, List, [], ◌∷◌, ◌++◌, length, get_or, set, sym, refl, ◌∙◌, subst, inl, inr, length-set, get_or-set_other, get_or-set_same}
use Rattle.machine.specs.Log.{Operation, reads, writes, left_by, left_by_all}
use Rattle.machine.specs.Runs.{HasWrittenCell, ReadsAlone, Leaves}
use Rattle.machine.proofs.Operations.{Alone}
use Rattle.machine.specs.States.{Within}

left_long : (ops : List Operation) (cells : List ℕ) → length (left_by ops cells) ≡ length cells
left_long [] cells = refl
left_long (reads y v ∷ ops) cells = left_long ops cells
left_long (writes y v ∷ ops) cells = left_long ops (set cells y v) ∙ length-set cells y v

pub left_all_long : (ts : List (List Operation)) (cells : List ℕ) → length (left_by_all ts cells) ≡ length cells
left_all_long [] cells = refl
left_all_long (t ∷ ts) cells = left_all_long ts (left_by t cells) ∙ left_long t cells

left_kept : (ops : List Operation) (cells : List ℕ) (x : ℕ) → (HasWrittenCell x ops → ⊥) → get_or (left_by ops cells) x 0 ≡ get_or cells x 0
left_kept [] cells x h = refl
left_kept (reads y v ∷ ops) cells x h = left_kept ops cells x h
left_kept (writes y v ∷ ops) cells x h = left_kept ops (set cells y v) x (λ w. h (inr w)) ∙ get_or-set_other cells y x v 0 (λ e. h (inl (sym e)))

left_written : (front back : List Operation) (cells : List ℕ) (x u : ℕ) → (HasWrittenCell x back → ⊥) → x < length cells → get_or (left_by (front ++ (writes x u ∷ back)) cells) x 0 ≡ u
left_written [] back cells x u h l = left_kept back (set cells x u) x h ∙ get_or-set_same cells x u 0 l
left_written (reads y v ∷ front) back cells x u h l = left_written front back cells x u h l
left_written (writes y v ∷ front) back cells x u h l = left_written front back (set cells y v) x u h (subst (λ (n : ℕ). x < n) (sym (length-set cells y v)) l)

-- ---- what a read shows

shows : (front back : List Operation) (x v : ℕ) (cells : List ℕ) → Alone (front ++ (reads x v ∷ back)) cells → v ≡ get_or (left_by front cells) x 0
shows [] back x v cells h = h.0
shows (reads y u ∷ front) back x v cells h = shows front back x v cells h.1
shows (writes y u ∷ front) back x v cells h = shows front back x v (set cells y u) h

shows_own : (front middle back : List Operation) (x v u : ℕ) (cells : List ℕ) → (HasWrittenCell x middle → ⊥) → x < length cells → Alone (front ++ (writes x u ∷ (middle ++ (reads x v ∷ back)))) cells → v ≡ u
shows_own [] middle back x v u cells n l h = shows middle back x v (set cells x u) h ∙ left_kept middle (set cells x u) x n ∙ get_or-set_same cells x u 0 l
shows_own (reads y w ∷ front) middle back x v u cells n l h = shows_own front middle back x v u cells n l h.1
shows_own (writes y w ∷ front) middle back x v u cells n l h = shows_own front middle back x v u (set cells y w) n (subst (λ (m : ℕ). x < m) (sym (length-set cells y w)) l) h

write_within : (n : ℕ) (front back : List Operation) (x u : ℕ) → Within n (front ++ (writes x u ∷ back)) → x < n
write_within n [] back x u h = h.0
write_within n (reads y w ∷ front) back x u h = write_within n front back x u h.1
write_within n (writes y w ∷ front) back x u h = write_within n front back x u h.1

-- ---- both, of operations on the cells

pub leaves : (ops : List Operation) (cells : List ℕ) → Within (length cells) ops → Leaves ops cells (left_by ops cells)
leaves ops cells m = record {
  as_long = left_long ops cells;
  unwritten = left_kept ops cells;
  last_write = λ front back x u e h. subst (λ (z : List Operation). get_or (left_by z cells) x 0 ≡ u) (sym e) (left_written front back cells x u h (write_within (length cells) front back x u (subst (Within (length cells)) e m)));
}

pub reads_alone : (ops : List Operation) (cells : List ℕ) → Within (length cells) ops → Alone ops cells → ReadsAlone ops cells
reads_alone ops cells m h = record {
  from_start = λ front back x v e n. shows front back x v cells (subst (λ (z : List Operation). Alone z cells) e h) ∙ left_kept front cells x n;
  from_own = λ front middle back x v u e n. shows_own front middle back x v u cells n (write_within (length cells) front _ x u (subst (Within (length cells)) e m)) (subst (λ (z : List Operation). Alone z cells) e h);
}
