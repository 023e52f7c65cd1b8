-- Texts without their trailing spaces: what `dropped` says of a text, of a text in front of spaces (`is_text`), and of letter case. By induction on the
-- text.
use mathlib.Core.Path.{◌≡◌, refl, sym, ap, ap₂, ◌∙◌}
use mathlib.Core.Bool.{Bool, true, false, ◌&&◌, ◌||◌, cond, or-true, and-false}
use mathlib.Core.List.{List, [], ◌∷◌, ◌++◌, map}
use mathlib.Core.Logic.{◌≢◌, ◌⊎◌, inl, inr, ⊎_elim, ◌↔◌}
use Prim.Native.Nat.{ℕ, zero, suc, ◌+◌, ◌-◌, ◌≤◌, ◌<◌}
use native.Mathlib.Omega.{arith}
use lib.Dec.{eqb, leb}
use lib.ListN.{length, get_or, take, replicate}
use lib.Seq.{take-suc, take-length}
use borrow.Author.Tests.{eq-eqb, ne_eqb, eqb-true, leb-true}
use Rattle.fieldset.proofs.Tests.{and_left, and_right}
use Rattle.fieldset.proofs.Numbers.{clash}
use Rattle.edf.specs.Texts.{are_spaces, dropped, is_text, is_either, lower}

-- ---- spaces

pub spaces_are : (s : List ℕ) → are_spaces s ≡ true → (k : ℕ) × (s ≡ replicate k 32)
unfolding are_spaces
spaces_are [] e = (0, refl)
spaces_are (c ∷ s) e =
    let (k, is) = spaces_are s (and_right (eqb c 32) (are_spaces s) e) in
    (suc k, ap₂ ◌∷◌ (eqb-true c 32 (and_left (eqb c 32) (are_spaces s) e)) is)

pub spaces_behind : (s : List ℕ) (k : ℕ) → are_spaces (s ++ replicate k 32) ≡ are_spaces s
unfolding are_spaces
spaces_behind [] zero = refl
spaces_behind [] (suc k) = spaces_behind [] k
spaces_behind (c ∷ s) k = ap (λ (b : Bool). eqb c 32 && b) (spaces_behind s k)

-- another character at the end
spaces_end : (s : List ℕ) (c : ℕ) → c ≢ 32 → are_spaces (s ++ c ∷ []) ≡ false
unfolding are_spaces
spaces_end [] c h = rw (ne_eqb c 32 h) refl
spaces_end (a ∷ s) c h = rw (spaces_end s c h) (and-false (eqb a 32))

-- ---- trailing spaces dropped

pub dropped_behind : (s : List ℕ) (k : ℕ) → dropped (s ++ replicate k 32) ≡ dropped s
unfolding dropped are_spaces
dropped_behind [] zero = refl
dropped_behind [] (suc k) = rw (spaces_behind [] k) refl
dropped_behind (c ∷ s) k = rw (spaces_behind s k, dropped_behind s k) refl

pub dropped_then : (s : List ℕ) → (k : ℕ) × (s ≡ dropped s ++ replicate k 32)
unfolding dropped
dropped_then [] = (0, refl)
dropped_then (c ∷ s) = go (are_spaces (c ∷ s)) refl (dropped_then s) where
  go : (b : Bool) → are_spaces (c ∷ s) ≡ b → (k : ℕ) × (s ≡ dropped s ++ replicate k 32) → (k : ℕ) × (c ∷ s ≡ cond b [] (c ∷ dropped s) ++ replicate k 32)
  go true e h = spaces_are (c ∷ s) e
  go false e (k, is) = (k, ap (λ (x : List ℕ). c ∷ x) is)

-- another character at the end
end_whole : (s : List ℕ) (c : ℕ) → c ≢ 32 → dropped (s ++ c ∷ []) ≡ s ++ c ∷ []
unfolding dropped are_spaces
end_whole [] c h = rw (ne_eqb c 32 h) refl
end_whole (a ∷ s) c h = rw (spaces_end s c h, end_whole s c h) (ap (λ (b : Bool). cond b [] (a ∷ (s ++ c ∷ []))) (and-false (eqb a 32)))

-- by the last character, if there is one
pub dropped_nothing : (s : List ℕ) → length s < 1 → s ≡ dropped s
unfolding dropped
dropped_nothing [] h = refl
dropped_nothing (c ∷ s) h = absurd (omega arith)

module _ (s : List ℕ) (h : 1 ≤ length s) where
  abbrev front : List ℕ
  front = take (length s - 1) s

  abbrev last : ℕ
  last = get_or s (length s - 1) 0

  front_last : s ≡ front ++ last ∷ []
  front_last =
      let e : length s ≡ suc (length s - 1) = omega arith in
      sym (take-length s) ∙ ap (λ (k : ℕ). take k s) e ∙ take-suc s (length s - 1) 0 (omega arith)

  pub dropped_space : last ≡ 32 → dropped front ≡ dropped s
  dropped_space e = sym (dropped_behind front 1) ∙ ap (λ (c : ℕ). dropped (front ++ c ∷ [])) (sym e) ∙ ap dropped (sym front_last)

  pub dropped_end : last ≢ 32 → s ≡ dropped s
  dropped_end e = front_last ∙ sym (end_whole front last e) ∙ ap dropped (sym front_last)

-- ---- texts

text_then : (t s : List ℕ) → is_text t s ≡ true → (k : ℕ) × (s ≡ t ++ replicate k 32)
unfolding is_text
text_then [] s e = spaces_are s e
text_then (a ∷ t) [] e = absurd (clash e refl)
text_then (a ∷ t) (b ∷ s) e =
    let (k, is) = text_then t s (and_right (eqb a b) (is_text t s) e) in
    (k, ap₂ ◌∷◌ (sym (eqb-true a b (and_left (eqb a b) (is_text t s) e))) is)

then_text : (t : List ℕ) (k : ℕ) → is_text t (t ++ replicate k 32) ≡ true
unfolding is_text are_spaces
then_text [] k = spaces_behind [] k
then_text (a ∷ t) k = rw (eq-eqb a a refl) (then_text t k)

-- a text that does not end in a space
pub text_exactly : (t : List ℕ) → dropped t ≡ t → (s : List ℕ) → is_text t s ≡ true ↔ dropped s ≡ t
text_exactly t whole s = (there, back) where
  there : is_text t s ≡ true → dropped s ≡ t
  there e = let (k, is) = text_then t s e in ap dropped is ∙ dropped_behind t k ∙ whole

  back : dropped s ≡ t → is_text t s ≡ true
  back e = let (k, is) = dropped_then s in ap (is_text t) (is ∙ ap (λ (x : List ℕ). x ++ replicate k 32) e) ∙ then_text t k

pub either_exactly : (a b : List ℕ) → dropped a ≡ a → dropped b ≡ b → (s : List ℕ) → is_either a b s ≡ true ↔ ((dropped s ≡ a) ⊎ (dropped s ≡ b))
either_exactly a b wa wb s = (go (is_text a s) refl, ⊎_elim first second) where
  go : (x : Bool) → is_text a s ≡ x → (x || is_text b s) ≡ true → (dropped s ≡ a) ⊎ (dropped s ≡ b)
  go true e h = inl ((text_exactly a wa s).0 e)
  go false e h = inr ((text_exactly b wb s).0 h)

  first : dropped s ≡ a → is_either a b s ≡ true
  first e = rw ((text_exactly a wa s).1 e) refl

  second : dropped s ≡ b → is_either a b s ≡ true
  second e = rw ((text_exactly b wb s).1 e) (or-true (is_text a s))

-- ---- letter case

lower_space : (c : ℕ) → eqb (lower c) 32 ≡ eqb c 32
unfolding lower
lower_space c = go (leb 65 c && leb c 90) refl where
  go : (b : Bool) → (leb 65 c && leb c 90) ≡ b → eqb (cond b (c + 32) c) 32 ≡ eqb c 32
  go true e =
      let l = leb-true 65 c (and_left (leb 65 c) (leb c 90) e) in
      ne_eqb (c + 32) 32 (λ h. omega arith) ∙ sym (ne_eqb c 32 (λ h. omega arith))
  go false e = refl

spaces_lower : (s : List ℕ) → are_spaces (map lower s) ≡ are_spaces s
unfolding are_spaces
spaces_lower [] = refl
spaces_lower (c ∷ s) = ap₂ ◌&&◌ (lower_space c) (spaces_lower s)

pub dropped_lower : (s : List ℕ) → dropped (map lower s) ≡ map lower (dropped s)
unfolding dropped
dropped_lower [] = refl
dropped_lower (c ∷ s) = rw (spaces_lower (c ∷ s), dropped_lower s) (go (are_spaces (c ∷ s))) where
  go : (b : Bool) → cond b [] (lower c ∷ map lower (dropped s)) ≡ map lower (cond b [] (c ∷ dropped s))
  go true = refl
  go false = refl
