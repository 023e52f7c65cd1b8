-- Units: what each answer of `read_unit` says of a unit, and `Counted`, what the loop over the units keeps: of those before a position none is unclear, and
-- how many are flows.
use mathlib.Core.Path.{◌≡◌, refl, sym, ap, ap₂, ◌∙◌}
use mathlib.Core.Bool.{Bool, true, false, cond}
use mathlib.Core.List.{List, [], ◌∷◌, ◌++◌, map, append_assoc}
use Prim.Native.Nat.{ℕ, ◌+◌, ◌*◌, ◌≤◌, ◌<◌}
use native.Mathlib.Numerals.{add-one}
use native.Mathlib.Omega.{arith}
use lib.Dec.{eqb}
use lib.ListN.{length, take, drop, length-append, length-drop, take-append-drop}
use lib.Seq.{length-take-le, take-append_seam, drop-append_seam}
use Rattle.fieldset.specs.Numbers.{count, any}
use Rattle.fieldset.proofs.Numbers.{any_here}
use Rattle.hexadecimal.specs.Characters.{characters}
use Rattle.edf.specs.Texts.{dropped, is_text, is_either, is_flow, lower, is_unclear}
use Rattle.edf.specs.Header.{unit_text}
use Rattle.edf.specs.Answers.{unit_read}
use Rattle.edf.proofs.Texts.{text_exactly, dropped_lower}
use Rattle.std.specs.Bool.{Decides}
use Rattle.std.specs.Char.{to_ascii_lowercase}
use Rattle.std.specs.Cmp.Lexicographic.{pointwise}
use Rattle.std.proofs.lemmas.Bool.Decides.{nat_tests, Decides-eqb}
use Rattle.std.proofs.lemmas.Slice.Eq.{slice_eq-Decides}
use Rattle.std.proofs.lemmas.List.{drop-drop}

-- ---- a unit, trailing spaces dropped, beside a text that does not end in a space

same : (a b : Bool) → (a ≡ true → b ≡ true) → (b ≡ true → a ≡ true) → a ≡ b
same true b there back = sym (there refl)
same false true there back = back refl
same false false there back = refl

text_tested : (t s : List ℕ) → dropped t ≡ t → (r : Bool) → Decides r (dropped s ≡ t) → r ≡ is_text t s
text_tested t s whole r d = let x = text_exactly t whole s in same r (is_text t s) (λ e. x.1 (d.0 e)) (λ e. d.1 (x.0 e))

-- by comparing the texts
pub text_equal : (t s u x : List ℕ) → dropped t ≡ t → u ≡ dropped s → x ≡ t → (r : Bool) → r ≡ pointwise eqb u x → r ≡ is_text t s
text_equal t s u x whole e f r h =
    let d = slice_eq-Decides Decides-eqb _ _ _ h in text_tested t s whole r (λ k. sym e ∙ d.0 k ∙ f, λ k. d.1 (e ∙ k ∙ sym f))

-- but for letter case
lowered : (c : ℕ) → to_ascii_lowercase c ≡ lower c
unfolding lower
lowered c = grind (arith, nat_tests)

all_lowered : (s : List ℕ) → map to_ascii_lowercase s ≡ map lower s
all_lowered [] = refl
all_lowered (c ∷ s) = ap₂ ◌∷◌ (lowered c) (all_lowered s)

pub text_lowered : (t s u : List ℕ) → dropped t ≡ t → u ≡ dropped s → (r : Bool) → Decides r (map to_ascii_lowercase u ≡ t) → r ≡ is_text t (map lower s)
text_lowered t s u whole e r d =
    let is : map to_ascii_lowercase u ≡ dropped (map lower s) = all_lowered u ∙ ap (map lower) e ∙ sym (dropped_lower s) in
    text_tested t (map lower s) whole r (λ k. sym is ∙ d.0 k, λ k. d.1 (is ∙ k))

-- ---- what a unit is, by the texts that are tried

pub either_first : (a b s : List ℕ) → is_text a s ≡ true → true ≡ is_either a b s
either_first a b s e = simp e

pub either_second : (a b s : List ℕ) → is_text a s ≡ false → is_text b s ≡ is_either a b s
either_second a b s e = simp e

module _ (s : List ℕ) where
  pub unit_flow : is_flow s ≡ true → 0 ≡ unit_read s
  unfolding unit_read
  unit_flow e = simp e

  module _ (e : is_flow s ≡ false) where
    abbrev unclear : Bool
    unclear = is_either (characters "l/min") (characters "l/s") (map lower s)

    pub unit_unclear : unclear ≡ true → 1 ≡ unit_read s
    unfolding unit_read is_unclear
    unit_unclear u = rw (e, u) refl

    pub unit_other : unclear ≡ false → 2 ≡ unit_read s
    unfolding unit_read is_unclear
    unit_other u = rw (e, u) refl

-- ---- what was read of a unit

-- a flow is not unclear
flow_clear : (s : List ℕ) → is_flow s ≡ true → is_unclear s ≡ false
unfolding is_unclear
flow_clear s e = simp e

module _ (s : List ℕ) where
  pub flow_read : 0 ≡ unit_read s → (is_flow s ≡ true) × (is_unclear s ≡ false)
  unfolding unit_read
  flow_read e = go (is_flow s) refl (is_unclear s) e where
    go : (a : Bool) → is_flow s ≡ a → (b : Bool) → ◌≡◌ {A = ℕ} 0 (cond a 0 (cond b 1 2)) → (is_flow s ≡ true) × (is_unclear s ≡ false)
    go true x b h = (x, flow_clear s x)
    go false x true h = absurd (omega arith)
    go false x false h = absurd (omega arith)

  pub unclear_read : 1 ≡ unit_read s → is_unclear s ≡ true
  unfolding unit_read
  unclear_read e = go (is_flow s) (is_unclear s) e where
    go : (a b : Bool) → ◌≡◌ {A = ℕ} 1 (cond a 0 (cond b 1 2)) → b ≡ true
    go true b h = absurd (omega arith)
    go false true h = refl
    go false false h = absurd (omega arith)

  pub other_read : 2 ≡ unit_read s → (is_flow s ≡ false) × (is_unclear s ≡ false)
  unfolding unit_read
  other_read e = go (is_flow s) (is_unclear s) e where
    go : (a b : Bool) → ◌≡◌ {A = ℕ} 2 (cond a 0 (cond b 1 2)) → (a ≡ false) × (b ≡ false)
    go true b h = absurd (omega arith)
    go false true h = absurd (omega arith)
    go false false h = (refl, refl)

-- ---- the units of n signals before those that are left

pub record Counted (file : List ℕ) (n flows size : ℕ) (left : List ℕ) : Type 0 where
  -- how many there are, and the bytes behind the units
  pub done : ℕ
  pub back : List ℕ
  pub few : flows ≤ done
  pub counted : flows ≡ count (λ j. is_flow (unit_text file n j)) done
  pub clear : any (λ j. is_unclear (unit_text file n j)) done ≡ false
  pub bytes : drop (256 + n * 96 + done * 8) file ≡ left ++ back
  pub room : length left + done * 8 ≡ n * 8
  pub width : size ≡ 8

pub counted_none : (file : List ℕ) (n size : ℕ) (left : List ℕ) → 256 + 256 * n ≤ length file → left ≡ take (n * 8) (drop (256 + n * 96) file) → size ≡ 8 → Counted file n 0 size left
unfolding count any
counted_none file n size left h e w =
    let from : List ℕ = drop (256 + n * 96) file in
    let start : 256 + n * 96 + 0 * 8 ≡ 256 + n * 96 = omega arith in
    record {
      done = 0;
      back = drop (n * 8) from;
      few = omega arith;
      counted = refl;
      clear = refl;
      bytes = ap (λ (k : ℕ). drop k file) start ∙ sym (take-append-drop (n * 8) from) ∙ ap (λ (l : List ℕ). l ++ drop (n * 8) from) (sym e);
      room = omega (arith, ap length e, length-take-le (n * 8) from (omega (arith, length-drop (256 + n * 96) file)));
      width = w;
    }

module _ {file : List ℕ} {n flows size : ℕ} {left : List ℕ} (was : Counted file n flows size left) (unit left' : List ℕ) (e : left ≡ unit ++ left')
    (w : length unit ≡ size) where
  here : drop (256 + n * 96 + was.done * 8) file ≡ unit ++ (left' ++ was.back)
  here = was.bytes ∙ ap (λ (l : List ℕ). l ++ was.back) e ∙ append_assoc unit left' was.back

  eight : length unit ≡ 8
  eight = w ∙ was.width

  unit_is : unit ≡ unit_text file n was.done
  unfolding unit_text
  unit_is = sym (take-append_seam unit (left' ++ was.back)) ∙ ap₂ take eight (sym here)

  room_left : length left' + 8 + was.done * 8 ≡ n * 8
  room_left = omega (arith, was.room, ap length e, length-append unit left', eight)

  next : {flows' size' : ℕ} → flows' ≤ was.done + 1 → flows' ≡ count (λ j. is_flow (unit_text file n j)) (was.done + 1) → is_unclear unit ≡ false → size' ≡ size → Counted file n flows' size' left'
  unfolding any
  next {flows'} {size'} few counted clear z =
      let at : ℕ = 256 + n * 96 + was.done * 8 in
      let on : 256 + n * 96 + (was.done + 1) * 8 ≡ at + 8 = omega arith in
      record {
        done = was.done + 1;
        back = was.back;
        few = few;
        counted = counted;
        clear = rw (add-one was.done, was.clear) (sym (ap is_unclear unit_is) ∙ clear);
        bytes =
            ap (λ (k : ℕ). drop k file) on ∙ sym (drop-drop 8 at file) ∙ ap₂ drop (sym eight) here ∙ drop-append_seam unit (left' ++ was.back);
        room = omega (arith, room_left);
        width = z ∙ was.width;
      }

  pub counted_flow : {size' : ℕ} → 0 ≡ unit_read unit → size' ≡ size → Counted file n (flows + 1) size' left'
  unfolding count
  counted_flow h z =
      let r = flow_read unit h in next (omega (arith, was.few)) (rw (add-one was.done, sym (ap is_flow unit_is) ∙ r.0) (omega (arith, was.counted))) r.1 z

  pub counted_other : {size' : ℕ} → 2 ≡ unit_read unit → size' ≡ size → Counted file n flows size' left'
  unfolding count
  counted_other h z =
      let r = other_read unit h in next (omega (arith, was.few)) (rw (add-one was.done, sym (ap is_flow unit_is) ∙ r.0) was.counted) r.1 z

  pub unclear_found : 1 ≡ unit_read unit → any (λ j. is_unclear (unit_text file n j)) n ≡ true
  unclear_found h = any_here _ n was.done (omega (arith, room_left)) (sym (ap is_unclear unit_is) ∙ unclear_read unit h)

-- all units
pub counted_all : {file : List ℕ} {n flows size : ℕ} {left : List ℕ} → Counted file n flows size left → length left < size
    → (any (λ j. is_unclear (unit_text file n j)) n ≡ false) × (flows ≡ count (λ j. is_flow (unit_text file n j)) n)
counted_all {file} {n} was h =
    let all : was.done ≡ n = omega (arith, was.room, was.width, h) in
    (ap (any (λ j. is_unclear (unit_text file n j))) (sym all) ∙ was.clear, was.counted ∙ ap (count (λ j. is_flow (unit_text file n j))) all)
