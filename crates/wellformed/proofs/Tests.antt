-- The tests of a well-formed sheet, by the code's steps. The loops test several things of each number, the definition one thing of all numbers:
-- `every_both`.
use Prim.Native.Nat.{ℕ, zero, suc, ◌^◌, ◌<◌}
use mathlib.Core.Path.{◌≡◌, refl, sym, ap, ◌∙◌}
use mathlib.Core.Bool.{Bool, true, false, ◌&&◌, cond, and-false}
use mathlib.Core.List.{List}
use lib.Dec.{ltb}
use lib.IntN.{ℤ}
use lib.ListN.{length}
use borrow.Author.Tests.{lt-ltb, eq-eqb}
use Rattle.fieldset.specs.Tables.{at}
use Rattle.panel.specs.declared.Link.{Link}
use Rattle.panel.specs.declared.Panel.{Panel}
use Rattle.panel.specs.Items.{link_at}
use Rattle.values.specs.Limits.{value_at}
use Rattle.formulas.specs.Formulas.{Rule}
use Rattle.sheet.specs.declared.Sheet.{Sheet}
use Rattle.sheet.specs.Sheets.{formula_at, Full}
use Rattle.images.specs.Forms.{every, is_whole, is_size, is_place, is_standing, used_test, is_link, is_setter, is_rule, is_value, is_formed}
use Rattle.fieldset.proofs.Numbers.{clash}
use Rattle.images.proofs.Facts.{every_at}
use Rattle.wellformed.specs.Tests.{setter_test, value_test, field_test, link_test}

-- ---- joined tests

and_comm : (a b : Bool) → (a && b) ≡ (b && a)
and_comm true true = refl
and_comm true false = refl
and_comm false true = refl
and_comm false false = refl

and_swap : (a b c d : Bool) → ((a && b) && (c && d)) ≡ ((a && c) && (b && d))
and_swap true true c d = refl
and_swap true false c d = sym (and-false c)
and_swap false b c d = refl

every_both : (p q : ℕ → Bool) (n : ℕ) → every (λ i. p i && q i) n ≡ (every p n && every q n)
unfolding every
every_both p q zero = refl
every_both p q (suc n) = rw (every_both p q n) (and_swap (every p n) (every q n) (p n) (q n))

-- one number that fails
pub every_fails : (p : ℕ → Bool) (n i : ℕ) → i < n → p i ≡ false → false ≡ every p n
every_fails p n i l e = go (every p n) refl
  where
    go : (b : Bool) → every p n ≡ b → false ≡ b
    go true t = absurd (clash (every_at p n t i l) e)
    go false t = refl

-- ---- fields

-- only a link's number asks for the link
pub setter_is : (links : List Link) (setter : List ℕ) (f i j : ℕ) (r : Bool) → i ≡ at setter f → j ≡ cond (ltb i 128) i 0 → r ≡ setter_test i (link_at links j) f
    → r ≡ is_setter links setter f
unfolding is_setter
setter_is links setter f i j r ei ej er = er ∙ go (ltb i 128) refl ∙ ap (λ (x : ℕ). setter_test x (link_at links x) f) ei
  where
    go : (b : Bool) → ltb i 128 ≡ b → setter_test i (link_at links j) f ≡ setter_test i (link_at links i) f
    go true t = let k : j ≡ i = ej ∙ rw t in ap (λ (x : ℕ). setter_test i (link_at links x) f) k
    go false t = rw t

-- the three tests of a field
module _ (p : Panel) (values : List ℤ) (f : ℕ) where
  pub not_placed : is_place p.place p.size f ≡ false → field_test p values f ≡ false
  unfolding field_test
  not_placed e = rw e

  pub not_set : is_setter p.links p.setter f ≡ false → field_test p values f ≡ false
  unfolding field_test
  not_set e = rw (e, and-false (is_place p.place p.size f))

  pub not_valued : value_test p.size f (value_at values f) ≡ false → field_test p values f ≡ false
  unfolding field_test is_value
  not_valued e = rw (e, and-false (is_setter p.links p.setter f), and-false (is_place p.place p.size f))

  pub passes : is_place p.place p.size f ≡ true → is_setter p.links p.setter f ≡ true → value_test p.size f (value_at values f) ≡ true
      → field_test p values f ≡ true
  unfolding field_test is_value
  passes a b c = rw (a, b, c)

-- ---- links

pub link_used : (n : ℕ) (setter : List ℕ) (i : ℕ) (l : Link) {u : Bool} → is_standing setter i l.outputs l.standing ≡ true → l.used ≡ true
    → l.covered < 2 ^ 64 → l.outputs < 2 ^ 64 → u ≡ used_test n l → u ≡ is_link n setter i l
unfolding is_link
link_used n setter i l stands e c o eu = rw (stands, e, eu, lt-ltb l.covered (2 ^ 64) c, lt-ltb l.outputs (2 ^ 64) o)

-- the two tests of a number
module _ (p : Panel) (formulas : List Rule) (i : ℕ) where
  pub no_link : is_link p.size p.setter i (link_at p.links i) ≡ false → link_test p formulas i ≡ false
  unfolding link_test
  no_link e = rw e

  pub no_rule : is_rule (link_at p.links i) (formula_at formulas i) ≡ false → link_test p formulas i ≡ false
  unfolding link_test
  no_rule e = rw (e, and-false (is_link p.size p.setter i (link_at p.links i)))

  pub number_passes : is_link p.size p.setter i (link_at p.links i) ≡ true → is_rule (link_at p.links i) (formula_at formulas i) ≡ true
      → link_test p formulas i ≡ true
  unfolding link_test
  number_passes a b = rw (a, b)

-- ---- the whole test

pub whole : (s : Sheet) → Full s → length s.panel.place ≡ 64 → length s.panel.setter ≡ 64 → length s.values ≡ 64 → is_whole s ≡ true
unfolding is_whole
whole s F place setter values =
    rw (
      eq-eqb (length s.panel.links) 128 F.links,
      eq-eqb (length s.panel.place) 64 place,
      eq-eqb (length s.panel.setter) 64 setter,
      eq-eqb (length s.formulas) 128 F.formulas,
      eq-eqb (length s.values) 64 values,
    )

pub sized_wrong : (s : Sheet) → is_size s.panel.size ≡ false → false ≡ is_formed s
unfolding is_formed
sized_wrong s e = rw (e, and-false (is_whole s))

module _ (s : Sheet) (entries : is_whole s ≡ true) (sized : is_size s.panel.size ≡ true) where
  -- the tests by what is tested are the tests by field and by number
  parted : (every (field_test s.panel s.values) 64 && every (link_test s.panel s.formulas) 128) ≡ is_formed s
  unfolding is_formed field_test link_test
  parted =
      let n : ℕ = s.panel.size in
      let A : ℕ → Bool = is_place s.panel.place n in
      let B : ℕ → Bool = is_setter s.panel.links s.panel.setter in
      let C : ℕ → Bool = is_value n s.values in
      let D : ℕ → Bool = λ i. is_link n s.panel.setter i (link_at s.panel.links i) in
      let E : ℕ → Bool = λ i. is_rule (link_at s.panel.links i) (formula_at s.formulas i) in
      rw (entries, sized, every_both A (λ f. B f && C f) 64, every_both B C 64, every_both D E 128)
      (and_swap (every A 64) (every B 64 && every C 64) (every D 128) (every E 128)
      ∙ ap (λ (x : Bool). (every A 64 && every D 128) && x) (last (every B 64) (every C 64) (every E 128)))
    where
      last : (a b c : Bool) → ((a && b) && c) ≡ ((a && c) && b)
      last true b c = and_comm b c
      last false b c = refl

  pub fields_wrong : every (field_test s.panel s.values) 64 ≡ false → false ≡ is_formed s
  fields_wrong e = sym (ap (λ (b : Bool). b && every (link_test s.panel s.formulas) 128) e) ∙ parted

  pub formed_all : every (field_test s.panel s.values) 64 ≡ true → {r : Bool} → r ≡ every (link_test s.panel s.formulas) 128 → r ≡ is_formed s
  formed_all e l = l ∙ sym (ap (λ (b : Bool). b && every (link_test s.panel s.formulas) 128) e) ∙ parted
