-- Tables of which the first entries are as in another one: what a fold over the lines of a text has entered so far. Assumes nothing.
use Prim.Native.Nat.{ℕ, zero, suc, ◌+◌, ◌≤◌, ◌<◌}
use mathlib.Core.Path.{◌≡◌, refl, sym, ap, ◌∙◌}
use mathlib.Core.Logic.{◌≢◌, inl, inr}
use mathlib.Core.Bool.{◌&&◌, cond, and-false}
use mathlib.Core.List.{List, [], ◌∷◌, ◌++◌}
use native.Mathlib.Nat.{add-zero, add-suc, suc-add, zero-add}
use native.Mathlib.Decide.{ℕ_discrete, dec_lt}
use native.Mathlib.Omega.{arith}
use lib.Dec.{eqb, ltb}
use lib.ListN.{length, get_or, set, replicate, length-set, length-replicate, get_or-replicate}
use lib.Seq.{ext_get_or, get_or-set_same, get_or-set_other, set_out}
use borrow.Author.Tests.{lt-ltb, le-ltb, eqb-true, eqb-false}
use Rattle.fieldset.specs.Tables.{at, tabulate}
use Rattle.fieldset.proofs.Tables.{length_tabulate, get_d_tabulate}
use Rattle.fieldset.proofs.Numbers.{Lowest, lowest_is}
use Rattle.images.specs.Images.{field_at, stay_order}
use Rattle.images.specs.Entries.{placed}

-- ---- the first i entries of a table, the default behind them

module _ {A : Type 0} (d : A) (l : List A) (m : ℕ) where
  unfoldable pub cut : ℕ → List A
  cut i = tabulate (λ j. cond (ltb j i) (get_or l j d) d) m

  pub length_cut : (i : ℕ) → length (cut i) ≡ m
  unfolding cut
  length_cut i = length_tabulate (λ j. cond (ltb j i) (get_or l j d) d) m

  pub get_d_cut : (i j : ℕ) → j < m → get_or (cut i) j d ≡ cond (ltb j i) (get_or l j d) d
  unfolding cut
  get_d_cut i j h = get_d_tabulate (λ j. cond (ltb j i) (get_or l j d) d) m j d h

  pub cut_none : cut 0 ≡ replicate m d
  cut_none =
      ext_get_or d (cut 0) (replicate m d) (length_cut 0 ∙ sym (length-replicate m d))
      (λ j h. let k : j < m = omega (arith, length_cut 0) in get_d_cut 0 j k ∙ rw (le-ltb j 0 (omega arith)) (sym (get_or-replicate m j d d k)))

  pub cut_all : (k : ℕ) → length l ≡ m → ((j : ℕ) → k ≤ j → j < m → get_or l j d ≡ d) → cut k ≡ l
  cut_all k e past =
      ext_get_or d (cut k) l (length_cut k ∙ sym e)
      (λ j h. let i : j < m = omega (arith, length_cut k) in get_d_cut k j i ∙ go j i (dec_lt j k))
    where
      go : (j : ℕ) → j < m → Dec (j < k) → cond (ltb j k) (get_or l j d) d ≡ get_or l j d
      go j i (yes t) = rw (lt-ltb j k t)
      go j i (no t) = rw (le-ltb j k (omega arith)) (sym (past j (omega arith) i))

  pub cut_keep : (i : ℕ) → get_or l i d ≡ d → cut i ≡ cut (suc i)
  cut_keep i e =
      ext_get_or d (cut i) (cut (suc i)) (length_cut i ∙ sym (length_cut (suc i)))
      (λ j h. let k : j < m = omega (arith, length_cut i) in get_d_cut i j k ∙ go j (ℕ_discrete j i) (dec_lt j i) ∙ sym (get_d_cut (suc i) j k))
    where
      go : (j : ℕ) → Dec (j ≡ i) → Dec (j < i) → cond (ltb j i) (get_or l j d) d ≡ cond (ltb j (suc i)) (get_or l j d) d
      go j (yes t) s = rw (t, le-ltb i i (omega arith), lt-ltb i (suc i) (omega arith)) (sym e)
      go j (no t) (yes s) = rw (lt-ltb j i s, lt-ltb j (suc i) (omega arith))
      go j (no t) (no s) = rw (le-ltb j i (omega arith), le-ltb j (suc i) (omega arith))

  pub cut_more : (i : ℕ) → i < m → set (cut i) i (get_or l i d) ≡ cut (suc i)
  cut_more i less =
      ext_get_or d (set (cut i) i (get_or l i d)) (cut (suc i)) (length-set (cut i) i (get_or l i d) ∙ length_cut i ∙ sym (length_cut (suc i)))
      (λ j h. let k : j < m = omega (arith, length-set (cut i) i (get_or l i d), length_cut i) in go j k (ℕ_discrete j i) (dec_lt j i) ∙ sym (get_d_cut (suc i) j k))
    where
      long : i < length (cut i)
      long = omega (arith, length_cut i)

      go : (j : ℕ) → j < m → Dec (j ≡ i) → Dec (j < i) → get_or (set (cut i) i (get_or l i d)) j d ≡ cond (ltb j (suc i)) (get_or l j d) d
      go j k (yes t) s = rw (t, lt-ltb i (suc i) (omega arith)) (get_or-set_same (cut i) i (get_or l i d) d long)
      go j k (no t) (yes s) = get_or-set_other (cut i) i j (get_or l i d) d t ∙ get_d_cut i j k ∙ rw (lt-ltb j i s, lt-ltb j (suc i) (omega arith))
      go j k (no t) (no s) = get_or-set_other (cut i) i j (get_or l i d) d t ∙ get_d_cut i j k ∙ rw (le-ltb j i (omega arith), le-ltb j (suc i) (omega arith))

-- ---- setters below i, the stay for the others

module _ (setter : List ℕ) where
  abbrev low : ℕ → ℕ → ℕ
  low i f = cond (ltb (at setter f) i) (at setter f) 128

  unfoldable pub cut_setter : ℕ → List ℕ
  cut_setter i = tabulate (low i) 64

  length_setter : (i : ℕ) → length (cut_setter i) ≡ 64
  unfolding cut_setter
  length_setter i = length_tabulate (low i) 64

  at_setter : (i f : ℕ) → f < 64 → at (cut_setter i) f ≡ low i f
  unfolding cut_setter
  at_setter i f h = get_d_tabulate (low i) 64 f 0 h

  pub setter_none : cut_setter 0 ≡ replicate 64 128
  setter_none =
      ext_get_or 0 (cut_setter 0) (replicate 64 128) (length_setter 0 ∙ sym (length-replicate {A = ℕ} 64 128))
      (λ f h. let k : f < 64 = omega (arith, length_setter 0) in at_setter 0 f k ∙ rw (le-ltb (at setter f) 0 (omega arith)) (sym (get_or-replicate 64 f 128 0 k)))

  pub setter_all : length setter ≡ 64 → ((f : ℕ) → f < 64 → at setter f ≤ 128) → cut_setter 128 ≡ setter
  setter_all e small =
      ext_get_or 0 (cut_setter 128) setter (length_setter 128 ∙ sym e)
      (λ f h. let k : f < 64 = omega (arith, length_setter 128) in at_setter 128 f k ∙ go f k (dec_lt (at setter f) 128))
    where
      go : (f : ℕ) → f < 64 → Dec (at setter f < 128) → low 128 f ≡ at setter f
      go f k (yes t) = rw (lt-ltb (at setter f) 128 t)
      go f k (no t) = rw (le-ltb (at setter f) 128 (omega arith)) (omega (arith, small f k))

  low_other : (i f : ℕ) → at setter f ≢ i → low i f ≡ low (suc i) f
  low_other i f n = go (dec_lt (at setter f) i)
    where
      go : Dec (at setter f < i) → low i f ≡ low (suc i) f
      go (yes t) = rw (lt-ltb (at setter f) i t, lt-ltb (at setter f) (suc i) (omega arith))
      go (no t) = rw (le-ltb (at setter f) i (omega arith), le-ltb (at setter f) (suc i) (omega (arith, n)))

  pub setter_keep : (i : ℕ) → ((f : ℕ) → f < 64 → at setter f ≢ i) → cut_setter i ≡ cut_setter (suc i)
  setter_keep i n =
      ext_get_or 0 (cut_setter i) (cut_setter (suc i)) (length_setter i ∙ sym (length_setter (suc i)))
      (λ f h. let k : f < 64 = omega (arith, length_setter i) in at_setter i f k ∙ low_other i f (n f k) ∙ sym (at_setter (suc i) f k))

  pub setter_more : (i f : ℕ) → f < 64 → at setter f ≡ i → ((g : ℕ) → g < 64 → g ≢ f → at setter g ≢ i) → set (cut_setter i) f i ≡ cut_setter (suc i)
  setter_more i f l e n =
      ext_get_or 0 (set (cut_setter i) f i) (cut_setter (suc i)) (length-set (cut_setter i) f i ∙ length_setter i ∙ sym (length_setter (suc i)))
      (λ g h. let k : g < 64 = omega (arith, length-set (cut_setter i) f i, length_setter i) in go g k (ℕ_discrete g f) ∙ sym (at_setter (suc i) g k))
    where
      long : f < length (cut_setter i)
      long = omega (arith, length_setter i)

      go : (g : ℕ) → g < 64 → Dec (g ≡ f) → at (set (cut_setter i) f i) g ≡ low (suc i) g
      go g k (yes t) = rw (t, lt-ltb (at setter f) (suc i) (omega arith)) (get_or-set_same (cut_setter i) f i 0 long ∙ sym e)
      go g k (no t) = get_or-set_other (cut_setter i) f g i 0 t ∙ at_setter i g k ∙ low_other i g (n g k t)

-- ---- places below m, as at opening for the others

pub placed_append : (l : List ℕ) (k : ℕ) (a b : List ℕ) → placed l k (a ++ b) ≡ placed (placed l k a) (k + length a) b
unfolding placed
placed_append l k [] b = ap (λ (x : ℕ). placed l x b) (sym (add-zero k))
placed_append l k (f ∷ a) b = placed_append (set l f k) (suc k) a b ∙ ap (λ (x : ℕ). placed (placed (set l f k) (suc k) a) x b) (suc-add k (length a) ∙ sym (add-suc k (length a)))

module _ (place : List ℕ) (n : ℕ) (few : n ≤ 64) (once : (f : ℕ) → f < n → field_at place n (at place f) ≡ f) where
  abbrev stands : ℕ → ℕ → ℕ
  stands m f = cond (ltb f n && ltb (at place f) m) (at place f) f

  unfoldable pub cut_place : ℕ → List ℕ
  cut_place m = tabulate (stands m) 64

  length_place : (m : ℕ) → length (cut_place m) ≡ 64
  unfolding cut_place
  length_place m = length_tabulate (stands m) 64

  at_place : (m f : ℕ) → f < 64 → at (cut_place m) f ≡ stands m f
  unfolding cut_place
  at_place m f h = get_d_tabulate (stands m) 64 f 0 h

  stands_other : (m f : ℕ) → (f < n → at place f ≢ m) → stands m f ≡ stands (suc m) f
  stands_other m f k = go (dec_lt f n) (dec_lt (at place f) m)
    where
      go : Dec (f < n) → Dec (at place f < m) → stands m f ≡ stands (suc m) f
      go (no t) s = rw (le-ltb f n (omega arith))
      go (yes t) (yes s) = rw (lt-ltb f n t, lt-ltb (at place f) m s, lt-ltb (at place f) (suc m) (omega arith))
      go (yes t) (no s) = let o = k t in rw (lt-ltb f n t, le-ltb (at place f) m (omega arith), le-ltb (at place f) (suc m) (omega (arith, o)))

  one_more : (m : ℕ) → set (cut_place m) (field_at place n m) m ≡ cut_place (suc m)
  unfolding field_at
  one_more m = go (field_at place n m) refl (lowest_is (λ f. eqb (at place f) m) n 64)
    where
      same_place : ((f : ℕ) → f < n → at place f ≢ m) → cut_place m ≡ cut_place (suc m)
      same_place k =
          ext_get_or 0 (cut_place m) (cut_place (suc m)) (length_place m ∙ sym (length_place (suc m)))
          (λ f h. let l : f < 64 = omega (arith, length_place m) in at_place m f l ∙ stands_other m f (k f) ∙ sym (at_place (suc m) f l))

      go : (g : ℕ) → field_at place n m ≡ g → Lowest (λ f. eqb (at place f) m) n 64 g → set (cut_place m) g m ≡ cut_place (suc m)
      go g e (inl h) =
          ext_get_or 0 (set (cut_place m) g m) (cut_place (suc m)) (length-set (cut_place m) g m ∙ length_place m ∙ sym (length_place (suc m)))
          (λ f k. let l : f < 64 = omega (arith, length-set (cut_place m) g m, length_place m) in at_field f l (ℕ_discrete f g) ∙ sym (at_place (suc m) f l))
        where
          here : at place g ≡ m
          here = eqb-true (at place g) m h.1

          long : g < length (cut_place m)
          long = omega (arith, length_place m, h.0)

          at_field : (f : ℕ) → f < 64 → Dec (f ≡ g) → at (set (cut_place m) g m) f ≡ stands (suc m) f
          at_field f l (yes t) = rw (t, lt-ltb g n h.0, lt-ltb (at place g) (suc m) (omega (arith, here))) (get_or-set_same (cut_place m) g m 0 long ∙ sym here)
          at_field f l (no t) =
              get_or-set_other (cut_place m) g f m 0 t ∙ at_place m f l
              ∙ stands_other m f (λ k q. t (sym (once f k) ∙ ap (field_at place n) q ∙ e))
      go g e (inr h) =
          let out : length (cut_place m) ≤ g = omega (arith, length_place m, h.0) in
          set_out (cut_place m) g m out ∙ same_place (λ f l. eqb-false (at place f) m (h.1 f l))

  pub place_first : (m : ℕ) → placed (cut_place 0) 0 (tabulate (field_at place n) m) ≡ cut_place m
  unfolding tabulate placed
  place_first zero = refl
  place_first (suc m) =
      placed_append (cut_place 0) 0 (tabulate (field_at place n) m) (field_at place n m ∷ [])
      ∙ rw (place_first m, length_tabulate (field_at place n) m, zero-add m) (one_more m)

  -- all places are entered
  pub places_back : length place ≡ 64 → ((f : ℕ) → f < n → at place f < n) → ((f : ℕ) → n ≤ f → f < 64 → at place f ≡ f)
      → placed (tabulate (λ f. f) 64) 0 (stay_order place n) ≡ place
  unfolding stay_order
  places_back e small past = ap (λ (l : List ℕ). placed l 0 (tabulate (field_at place n) n)) (sym start) ∙ place_first n ∙ end
    where
      start : cut_place 0 ≡ tabulate (λ f. f) 64
      start =
          ext_get_or 0 (cut_place 0) (tabulate (λ f. f) 64) (length_place 0 ∙ sym (length_tabulate (λ (f : ℕ). f) 64))
          (λ f h. let l : f < 64 = omega (arith, length_place 0) in
          at_place 0 f l ∙ none f ∙ sym (get_d_tabulate (λ (f : ℕ). f) 64 f 0 l))
        where
          none : (f : ℕ) → stands 0 f ≡ f
          none f = rw (le-ltb (at place f) 0 (omega arith), and-false (ltb f n))

      end : cut_place n ≡ place
      end =
          ext_get_or 0 (cut_place n) place (length_place n ∙ sym e)
          (λ f h. let l : f < 64 = omega (arith, length_place n) in at_place n f l ∙ whole f l (dec_lt f n))
        where
          whole : (f : ℕ) → f < 64 → Dec (f < n) → stands n f ≡ at place f
          whole f l (yes t) = rw (lt-ltb f n t, lt-ltb (at place f) n (small f t))
          whole f l (no t) = rw (le-ltb f n (omega arith)) (sym (past f (omega arith) l))
