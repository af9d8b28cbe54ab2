-- Values laid over what windows show, seen in the cells below. Assumes nothing.
use Rattle.std.proofs.Common.{◌≡◌, ℕ, ◌+◌, ◌≤◌, cond, List, [], ◌∷◌, ◌++◌, length, take, drop, sym, ap, ◌∙◌, arith, append_assoc, length-take, length-drop, take-add}
use Rattle.std.proofs.lemmas.Grind.{common_steps}
use Rattle.std.proofs.lemmas.List.{take-append-drop, drop-append-le, drop-drop, take-take}
use Rattle.std.proofs.lemmas.Bool.{leb-true, cond-true, cond-false, cond_both}
use Rattle.bank.specs.Windows.{windowed}
use Rattle.combination.specs.Pressing.{overwritten, enough, pressed}

-- Cells are what stands before a window, what it shows, and what stands behind.
parted : (f n : ℕ) (cells : List ℕ) → take f cells ++ (windowed f n cells ++ drop (f + n) cells) ≡ cells
parted f n cells =
    ap (λ behind. take f cells ++ (windowed f n cells ++ behind)) (sym (drop-drop n f cells)) ∙ ap (λ rest. take f cells ++ rest) (take-append-drop n (drop f cells)) ∙ take-append-drop f cells

overwritten_none : (at : ℕ) (cells : List ℕ) → overwritten at [] cells ≡ cells
overwritten_none at cells = grind (arith, take-append-drop)

-- What happened in the window happened below, and nothing else.
module _ (f n : ℕ) (before after : List ℕ) (front : take f after ≡ take f before) (behind : drop (f + n) after ≡ drop (f + n) before) where
  shown : after ≡ take f before ++ (windowed f n after ++ drop (f + n) before)
  shown = sym (parted f n after) ∙ ap (λ xs. xs ++ (windowed f n after ++ drop (f + n) after)) front ∙ ap (λ xs. take f before ++ (windowed f n after ++ xs)) behind

  left_below : windowed f n after ≡ windowed f n before → after ≡ before
  left_below e = shown ∙ ap (λ xs. take f before ++ (xs ++ drop (f + n) before)) e ∙ parted f n before

  laid_below : (a : ℕ) (values : List ℕ) → a + length values ≤ length (windowed f n before) → windowed f n after ≡ overwritten a values (windowed f n before) → after ≡ overwritten (f + a) values before
  laid_below a values fits e =
      let w = windowed f n before in
      let k = length values in
      let size = length-take n (drop f before) in
      let above : take a w ≡ take a (drop f before) = take-take a n (drop f before) (omega arith) in
      let head : take (f + a) before ≡ take f before ++ take a (drop f before) = take-add f a before in
      let tail : drop (a + k) w ++ drop (f + n) before ≡ drop (f + a + k) before =
      ap (λ xs. drop (a + k) w ++ xs) (sym (drop-drop n f before)) ∙ sym (drop-append-le (a + k) w (drop n (drop f before)) fits) ∙ ap (drop (a + k)) (take-append-drop n (drop f before)) ∙ drop-drop (a + k) f before ∙ ap (λ j. drop j before) (let same : f + (a + k) ≡ f + a + k = omega arith in same)
      in
      shown ∙ ap (λ xs. take f before ++ (xs ++ drop (f + n) before)) e ∙ grind (arith, common_steps, append_assoc)

-- Through two windows, with the cells between them. (S is what the upper one shows.)
module _ (f1 n1 f2 n2 : ℕ) (before middle after : List ℕ) (shows : middle ≡ windowed f1 n1 after) (front1 : take f1 after ≡ take f1 before) (behind1 : drop (f1 + n1) after ≡ drop (f1 + n1) before) (front2 : take f2 middle ≡ take f2 (windowed f1 n1 before)) (behind2 : drop (f2 + n2) middle ≡ drop (f2 + n2) (windowed f1 n1 before)) where
  left_through : windowed f2 n2 middle ≡ windowed f2 n2 (windowed f1 n1 before) → after ≡ before
  left_through e = left_below f1 n1 before after front1 behind1 (sym shows ∙ left_below f2 n2 (windowed f1 n1 before) middle front2 behind2 e)

  laid_through : (values : List ℕ) → length values ≤ length (windowed f2 n2 (windowed f1 n1 before)) → windowed f2 n2 middle ≡ overwritten 0 values (windowed f2 n2 (windowed f1 n1 before)) → after ≡ overwritten (f1 + f2) values before
  laid_through [] fits e = left_through (e ∙ overwritten_none 0 _) ∙ sym (overwritten_none (f1 + f2) before)
  laid_through (v ∷ vs) fits e =
      let m = windowed f1 n1 before in
      let upper = laid_below f2 n2 m middle front2 behind2 0 (v ∷ vs) (omega arith) e in
      laid_below f1 n1 before after front1 behind1 f2 (v ∷ vs) (omega (arith, length-take n2 (drop f2 m), length-drop f2 m)) (sym shows ∙ upper ∙ ap (λ k. overwritten k (v ∷ vs) m) (let z : f2 + 0 ≡ f2 = omega arith in z))

  pub pressed_through : (values : List ℕ) → windowed f2 n2 middle ≡ pressed values (windowed f2 n2 (windowed f1 n1 before)) → after ≡ cond (enough values (windowed f2 n2 (windowed f1 n1 before))) (overwritten (f1 + f2) values before) before
  pressed_through values e =
      let s = windowed f2 n2 (windowed f1 n1 before) in
      cond_both (enough values s) (overwritten (f1 + f2) values before) before (λ xs. after ≡ xs)
      (λ is. laid_through values (leb-true (length values) (length s) is) (e ∙ cond-true (enough values s) (overwritten 0 values s) s is))
      (λ no. left_through (e ∙ cond-false (enough values s) (overwritten 0 values s) s no))
