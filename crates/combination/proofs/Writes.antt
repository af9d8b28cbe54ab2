-- Values as writes to one cell after another. Assumes nothing.
use Rattle.std.proofs.Common.{◌≡◌, ℕ, ◌+◌, ◌<◌, ◌≤◌, List, [], ◌∷◌, ◌++◌, length, get_or, take, drop, set, ap, ◌∙◌, arith, length-set, take-append-drop, subst}
use Rattle.std.proofs.lemmas.Grind.{common_steps}
use Rattle.std.proofs.lemmas.List.{drop_all, take_more_set, drop_more, drop-set-lt}
use Rattle.bank.specs.Holding.{held_cell, replaced}
use Rattle.bank.proofs.Ways.{Sending}
use Rattle.combination.specs.Pressing.{overwritten, writes_from}

pub writes_left : (values : List ℕ) (i : ℕ) → i < length values → writes_from i (drop i values) ≡ held_cell i (get_or values i 0) ∷ writes_from (i + 1) (drop (i + 1) values)
writes_left values i lt = ap (writes_from i) (drop_more values i 0 lt)

-- Such writes lay the values over the cells.
pub writes_laid : (at : ℕ) (values cells : List ℕ) → at + length values ≤ length cells → replaced (writes_from at values) cells ≡ overwritten at values cells
writes_laid at [] cells fits = grind (arith, take-append-drop)
writes_laid at (v ∷ vs) cells fits =
    writes_laid (at + 1) vs (set cells at v) (rw (length-set cells at v) (omega arith)) ∙
    ap (λ front. front ++ (vs ++ drop (at + 1 + length vs) (set cells at v))) (take_more_set cells at v (omega arith)) ∙
    ap (λ behind. (take at cells ++ v ∷ []) ++ (vs ++ behind)) (drop-set-lt (at + 1 + length vs) cells at v (omega arith)) ∙ grind (arith, common_steps)

pub all_sent : {B : Type 0} {cells : B → List ℕ} {idles : B → B → Type 0} {takes : B → ℕ → ℕ → B → Type 0} {start now : B} (values : List ℕ) (i : ℕ) → length values ≤ i → Sending cells idles takes start (writes_from 0 values) now (writes_from i (drop i values)) → Sending cells idles takes start (writes_from 0 values) now []
all_sent {B} {cells} {idles} {takes} {start} {now} values i le s = subst (λ vs. Sending cells idles takes start (writes_from 0 values) now (writes_from i vs)) (drop_all i values le) s
