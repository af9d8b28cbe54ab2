-- A window over a hold-back over a window: the cells below after a pressing from above. Assumes nothing.
use Rattle.std.proofs.Common.{◌≡◌, ℕ, ◌+◌, cond, List, [], ◌∷◌, take, drop, sym, ap, ◌∙◌}
use Rattle.bank.specs.declared.HoldBack.{HoldBack}
use Rattle.bank.specs.declared.Window.{Window}
use Rattle.bank.specs.Holding.{held_by, replaced}
use Rattle.bank.specs.Windows.{windowed, beside}
use Rattle.combination.specs.declared.windows.Windows.{Windows}
use Rattle.combination.specs.Pressing.{overwritten, enough, pressed, seen_through}
use Rattle.combination.proofs.Laying.{pressed_through}

module _ {B : Type 0} (cells : B → List ℕ) (outside : B → List (List ℕ)) (fixed : B → List ℕ) where
  abbrev pub low : Window B → List ℕ
  low w = windowed w.span.first w.span.length (cells w.below)

  abbrev pub low_outside : Window B → List (List ℕ)
  low_outside w = beside w.span.first w.span.length (cells w.below) (outside w.below)

  abbrev pub low_fixed : Window B → List ℕ
  low_fixed w = w.span.first ∷ w.span.length ∷ fixed w.below

  abbrev pub mid : HoldBack (Window B) → List ℕ
  mid h = replaced (held_by h) (low h.below)

  abbrev pub high : Window (HoldBack (Window B)) → List ℕ
  high t = windowed t.span.first t.span.length (mid t.below)

  abbrev pub high_outside : Window (HoldBack (Window B)) → List (List ℕ)
  high_outside t = beside t.span.first t.span.length (mid t.below) (low_outside t.below.below)

  abbrev pub high_fixed : Window (HoldBack (Window B)) → List ℕ
  high_fixed t = t.span.first ∷ t.span.length ∷ low_fixed t.below.below

  module _ (bank : B) (both : Windows) (t : Window (HoldBack (Window B))) (bank_is : t.below.below.below ≡ bank) (inner_is : t.below.below.span ≡ both.inner) (held_none : held_by t.below ≡ []) (outer_is : t.span ≡ both.outer) where
    pub mid_is : mid t.below ≡ windowed both.inner.first both.inner.length (cells bank)
    mid_is = ap (λ hs. replaced hs (low t.below.below)) held_none ∙ ap (λ s. windowed s.first s.length (cells t.below.below.below)) inner_is ∙ ap (λ b. windowed both.inner.first both.inner.length (cells b)) bank_is

    pub high_is : high t ≡ seen_through both (cells bank)
    high_is = ap (windowed t.span.first t.span.length) mid_is ∙ ap (λ s. windowed s.first s.length (windowed both.inner.first both.inner.length (cells bank))) outer_is

    pub through : (values : List ℕ) (t' : Window (HoldBack (Window B))) (w : Window B) → high t' ≡ pressed values (high t) → high_outside t' ≡ high_outside t → high_fixed t' ≡ high_fixed t → low w ≡ mid t'.below → low_outside w ≡ low_outside t'.below.below → low_fixed w ≡ low_fixed t'.below.below → cells w.below ≡ cond (enough values (seen_through both (cells bank))) (overwritten (both.inner.first + both.outer.first) values (cells bank)) (cells bank)
    through values t' w p unmoved unaltered settled w_unmoved w_unaltered =
        let f1 = both.inner.first in
        let n1 = both.inner.length in
        let f2 = both.outer.first in
        let n2 = both.outer.length in
        let S = seen_through both (cells bank) in
        let i1 = ap (λ s. s.first) inner_is in
        let i2 = ap (λ s. s.length) inner_is in
        let o1 = ap (λ s. s.first) outer_is in
        let o2 = ap (λ s. s.length) outer_is in
        let t1 : t'.span.first ≡ f2 = cc in
        let t2 : t'.span.length ≡ n2 = cc in
        let w1 : w.span.first ≡ f1 = cc in
        let w2 : w.span.length ≡ n1 = cc in
        let middle : mid t'.below ≡ windowed f1 n1 (cells w.below) = sym settled ∙ ap (λ k. windowed k w.span.length (cells w.below)) w1 ∙ ap (λ k. windowed f1 k (cells w.below)) w2 in
        let front1 : take f1 (cells w.below) ≡ take f1 (cells bank) = cc in
        let behind1 : drop (f1 + n1) (cells w.below) ≡ drop (f1 + n1) (cells bank) = cc in
        let front2 : take f2 (mid t'.below) ≡ take f2 (windowed f1 n1 (cells bank)) = cc mid_is in
        let behind2 : drop (f2 + n2) (mid t'.below) ≡ drop (f2 + n2) (windowed f1 n1 (cells bank)) = cc mid_is in
        let shown : high t' ≡ windowed f2 n2 (mid t'.below) = ap (λ k. windowed k t'.span.length (mid t'.below)) t1 ∙ ap (λ k. windowed f2 k (mid t'.below)) t2 in
        let on_top : windowed f2 n2 (mid t'.below) ≡ pressed values S = sym shown ∙ p ∙ ap (pressed values) high_is in
        pressed_through f1 n1 f2 n2 (cells bank) (mid t'.below) (cells w.below) middle front1 behind1 front2 behind2 values on_top
