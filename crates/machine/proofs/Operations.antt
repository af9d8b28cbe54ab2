-- One more operation at the end of a transaction. Assumes nothing.
use Rattle.std.proofs.Common.{◌≡◌, ℕ, ◌⊎◌, List, [], ◌∷◌, ◌++◌, get_or, set, refl, inl, inr}
use Rattle.machine.specs.Log.{Operation, reads, writes, left_by}
use Rattle.machine.specs.Runs.{HasTouchedCell, HasWrittenCell}

-- every read shows what the cells have, after the writes before it
abbrev pub Alone : List Operation → List ℕ → Type 0
Alone [] cells = Unit {0}
Alone (reads x v ∷ ops) cells = (v ≡ get_or cells x 0) × Alone ops cells
Alone (writes x v ∷ ops) cells = Alone ops (set cells x v)

pub left_read : (ops : List Operation) (cs : List ℕ) (x v : ℕ) → left_by (ops ++ (reads x v ∷ [])) cs ≡ left_by ops cs
left_read [] cs x v = refl
left_read (reads y u ∷ ops) cs x v = left_read ops cs x v
left_read (writes y u ∷ ops) cs x v = left_read ops (set cs y u) x v

pub left_write : (ops : List Operation) (cs : List ℕ) (x v : ℕ) → left_by (ops ++ (writes x v ∷ [])) cs ≡ set (left_by ops cs) x v
left_write [] cs x v = refl
left_write (reads y u ∷ ops) cs x v = left_write ops cs x v
left_write (writes y u ∷ ops) cs x v = left_write ops (set cs y u) x v

pub alone_read : (ops : List Operation) (cs : List ℕ) (x v : ℕ) → Alone ops cs → v ≡ get_or (left_by ops cs) x 0 → Alone (ops ++ (reads x v ∷ [])) cs
alone_read [] cs x v h e = (e, tt)
alone_read (reads y u ∷ ops) cs x v h e = (h.0, alone_read ops cs x v h.1 e)
alone_read (writes y u ∷ ops) cs x v h e = alone_read ops (set cs y u) x v h e

pub alone_write : (ops : List Operation) (cs : List ℕ) (x v : ℕ) → Alone ops cs → Alone (ops ++ (writes x v ∷ [])) cs
alone_write [] cs x v h = tt
alone_write (reads y u ∷ ops) cs x v h = (h.0, alone_write ops cs x v h.1)
alone_write (writes y u ∷ ops) cs x v h = alone_write ops (set cs y u) x v h

pub touches_old : (ops more : List Operation) (x : ℕ) → HasTouchedCell x ops → HasTouchedCell x (ops ++ more)
touches_old [] more x h = elim h [ ]
touches_old (reads y u ∷ ops) more x h = elim h [ inl e ↦ inl e | inr t ↦ inr (touches_old ops more x t) ]
touches_old (writes y u ∷ ops) more x h = elim h [ inl e ↦ inl e | inr t ↦ inr (touches_old ops more x t) ]

pub touches_new : (ops more : List Operation) (x : ℕ) → HasTouchedCell x more → HasTouchedCell x (ops ++ more)
touches_new [] more x h = h
touches_new (reads y u ∷ ops) more x h = inr (touches_new ops more x h)
touches_new (writes y u ∷ ops) more x h = inr (touches_new ops more x h)

pub writes_old : (ops more : List Operation) (x : ℕ) → HasWrittenCell x ops → HasWrittenCell x (ops ++ more)
writes_old [] more x h = elim h [ ]
writes_old (reads y u ∷ ops) more x h = writes_old ops more x h
writes_old (writes y u ∷ ops) more x h = elim h [ inl e ↦ inl e | inr t ↦ inr (writes_old ops more x t) ]

pub writes_new : (ops more : List Operation) (x : ℕ) → HasWrittenCell x more → HasWrittenCell x (ops ++ more)
writes_new [] more x h = h
writes_new (reads y u ∷ ops) more x h = writes_new ops more x h
writes_new (writes y u ∷ ops) more x h = inr (writes_new ops more x h)

pub writes_touches : (ops : List Operation) (x : ℕ) → HasWrittenCell x ops → HasTouchedCell x ops
writes_touches [] x h = h
writes_touches (reads y u ∷ ops) x h = inr (writes_touches ops x h)
writes_touches (writes y u ∷ ops) x h = elim h [ inl e ↦ inl e | inr t ↦ inr (writes_touches ops x t) ]

pub touches_split : (ops more : List Operation) (x : ℕ) → HasTouchedCell x (ops ++ more) → HasTouchedCell x ops ⊎ HasTouchedCell x more
touches_split [] more x h = inr h
touches_split (reads y u ∷ ops) more x h = elim h [ inl e ↦ inl (inl e) | inr t ↦ elim (touches_split ops more x t) [ inl a ↦ inl (inr a) | inr b ↦ inr b ] ]
touches_split (writes y u ∷ ops) more x h = elim h [ inl e ↦ inl (inl e) | inr t ↦ elim (touches_split ops more x t) [ inl a ↦ inl (inr a) | inr b ↦ inr b ] ]

pub writes_split : (ops more : List Operation) (x : ℕ) → HasWrittenCell x (ops ++ more) → HasWrittenCell x ops ⊎ HasWrittenCell x more
writes_split [] more x h = inr h
writes_split (reads y u ∷ ops) more x h = writes_split ops more x h
writes_split (writes y u ∷ ops) more x h = elim h [ inl e ↦ inl (inl e) | inr t ↦ elim (writes_split ops more x t) [ inl a ↦ inl (inr a) | inr b ↦ inr b ] ]
