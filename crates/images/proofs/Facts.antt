-- What the tests of a formed panel say, each way. Assumes nothing.
use Prim.Native.Nat.{ℕ, zero, suc, ◌-◌, ◌^◌, ◌≤◌, ◌<◌}
use mathlib.Core.Path.{◌≡◌, refl, sym, ap, ◌∙◌, subst}
use mathlib.Core.Bool.{Bool, true, false, not, ◌&&◌, ◌||◌, cond, or-true, false≢true}
use mathlib.Core.Logic.{inl, inr}
use mathlib.Core.List.{List}
use native.Mathlib.Nat.{not-suc-le-zero}
use native.Mathlib.Decide.{dec_lt}
use native.Mathlib.Omega.{arith}
use lib.Dec.{eqb, leb, ltb}
use lib.IntN.{ℤ, pos, negsuc}
use lib.ListN.{length}
use mir.Syntax.{w32}
use mir.Val.{SFits}
use borrow.Author.Tests.{lt-ltb, le-ltb, le-leb, ltb-true, ltb-false, leb-true, eq-eqb, ne_eqb, eqb-true, not-true}
use Rattle.std.specs.Prelude.{Some, None, is_none}
use Rattle.fieldset.specs.Tables.{at}
use Rattle.fieldset.specs.Fields.{member, size, within, below}
use Rattle.fieldset.proofs.Tests.{and_left, and_right, and_both, or_left}
use Rattle.fieldset.proofs.Numbers.{clash, below_suc}
use Rattle.fieldset.proofs.Fields.{within_true, within_member, member_below}
use Rattle.panel.specs.declared.Standing.{Standing}
use Rattle.panel.specs.declared.Standing.TheVariants.{Waiting, Holding}
use Rattle.panel.specs.declared.Link.{Link}
use Rattle.panel.specs.Items.{no_link, link_at, is_waiting}
use Rattle.panel.specs.Legal.{Formed}
use Rattle.values.specs.Limits.{value_at, outside}
use Rattle.values.specs.Words.{bits_of}
use Rattle.formulas.specs.declared.Formula.TheVariants.{Ratio, Sum}
use Rattle.formulas.specs.Formulas.{Rule, accepted}
use Rattle.sheet.specs.declared.Sheet.{Sheet}
use Rattle.sheet.specs.Sheets.{formula_at}
use Rattle.sheet.specs.Legal.{Fits}
use Rattle.images.specs.Images.{field_at}
use Rattle.images.specs.Forms.{every, is_whole, is_size, is_place, holds, is_standing, used_test, fits_test, is_link, is_setter, is_rule, is_value, is_formed}

pub record HoldFacts (setter : List ℕ) (i outputs f : ℕ) : Type 0 where
  pub field : f < 64
  pub output : member outputs f ≡ true
  pub sets : at setter f ≡ i

pub record SetFacts (links : List Link) (i f : ℕ) : Type 0 where
  pub used : (link_at links i).used ≡ true
  pub holding : (link_at links i).standing ≡ Holding f

pub record Facts (s : Sheet) : Type 0 where
  pub links_long : length s.panel.links ≡ 128
  pub place_long : length s.panel.place ≡ 64
  pub setter_long : length s.panel.setter ≡ 64
  pub rules_long : length s.formulas ≡ 128
  pub values_long : length s.values ≡ 64
  pub some : 1 ≤ s.panel.size
  pub few : s.panel.size ≤ 64
  pub place_small : (f : ℕ) → f < s.panel.size → at s.panel.place f < s.panel.size
  pub place_first : (f : ℕ) → f < s.panel.size → field_at s.panel.place s.panel.size (at s.panel.place f) ≡ f
  pub place_past : (f : ℕ) → s.panel.size ≤ f → f < 64 → at s.panel.place f ≡ f
  pub formed : (i : ℕ) → i < 128 → (link_at s.panel.links i).used ≡ true → Formed s.panel.size (link_at s.panel.links i)
  pub unused : (i : ℕ) → i < 128 → (link_at s.panel.links i).used ≡ false → link_at s.panel.links i ≡ no_link
  pub holding : (i f : ℕ) → i < 128 → (link_at s.panel.links i).standing ≡ Holding f → HoldFacts s.panel.setter i (link_at s.panel.links i).outputs f
  pub setter_small : (f : ℕ) → f < 64 → at s.panel.setter f ≤ 128
  pub setter_sets : (f : ℕ) → f < 64 → at s.panel.setter f < 128 → SetFacts s.panel.links (at s.panel.setter f) f
  pub fits : (i : ℕ) → i < 128 → Fits (formula_at s.formulas i) (link_at s.panel.links i)
  pub value_fits : (f : ℕ) → f < 64 → SFits w32 (value_at s.values f)
  pub value_past : (f : ℕ) → s.panel.size ≤ f → f < 64 → value_at s.values f ≡ pos 0

-- ---- tests of every number

pub every_at : (p : ℕ → Bool) (n : ℕ) → every p n ≡ true → (i : ℕ) → i < n → p i ≡ true
unfolding every
every_at p zero e i l = absurd (not-suc-le-zero l)
every_at p (suc n) e i l = below_suc (λ i. p i ≡ true) n (every_at p n (and_left (every p n) (p n) e)) (and_right (every p n) (p n) e) i l

pub every_all : (p : ℕ → Bool) (n : ℕ) → ((i : ℕ) → i < n → p i ≡ true) → every p n ≡ true
unfolding every
every_all p zero h = refl
every_all p (suc n) h = and_both (every p n) (p n) (every_all p n (λ i l. h i (omega arith))) (h n (omega arith))

-- ---- values

pub value_small : (z : ℤ) → not (outside z) ≡ true → SFits w32 z
value_small (pos a) e = record { sfits = omega (arith, ltb-false 2147483647 a (not-true (ltb 2147483647 a) e)) }
value_small (negsuc a) e = record { sfits = omega (arith, ltb-false 2147483647 a (or_left (ltb 2147483647 a) false (not-true (ltb 2147483647 a || false) e))) }

pub small_value : (z : ℤ) → SFits w32 z → not (outside z) ≡ true
small_value (pos a) h = rw (le-ltb 2147483647 a (omega (arith, h.sfits)))
small_value (negsuc a) h = rw (le-ltb 2147483647 a (omega (arith, h.sfits)))

pub zero_value : (z : ℤ) → SFits w32 z → bits_of z ≡ 0 → z ≡ pos 0
unfolding bits_of
zero_value (pos a) h e = ap pos e
zero_value (negsuc a) h e = absurd (omega (arith, h.sfits))

-- ---- links

waits : (s : Standing) → is_waiting s ≡ true → s ≡ Waiting
waits Waiting e = refl
waits (Holding f) e = absurd (false≢true e)

link_same : (c o v : ℕ) (u : Bool) (s : Standing) → c ≡ 0 → o ≡ 0 → v ≡ 0 → u ≡ false → s ≡ Waiting
    → ◌≡◌ {A = Link} (record { covered = c; outputs = o; level = v; used = u; standing = s }) no_link
link_same c o v u s ec eo ev eu es = rw (ec, eo, ev, eu, es)

no_link_lem : (l : Link) → l.used ≡ false → ((eqb l.covered 0 && eqb l.outputs 0) && (eqb l.level 0 && is_waiting l.standing)) ≡ true → l ≡ no_link
no_link_lem l u e =
    let a : (eqb l.covered 0 && eqb l.outputs 0) ≡ true = and_left _ _ e in
    let b : (eqb l.level 0 && is_waiting l.standing) ≡ true = and_right (eqb l.covered 0 && eqb l.outputs 0) _ e in
    link_same l.covered l.outputs l.level l.used l.standing
    (eqb-true _ 0 (and_left _ _ a)) (eqb-true _ 0 (and_right (eqb l.covered 0) _ a)) (eqb-true _ 0 (and_left _ _ b)) u (waits _ (and_right (eqb l.level 0) _ b))

-- an entry of a test that goes by whether a link is in use
when_used : (u a b : Bool) → u ≡ true → cond u a b ≡ true → a ≡ true
when_used true a b h e = e
when_used false a b h e = absurd (false≢true h)

when_not : (u a b : Bool) → u ≡ false → cond u a b ≡ true → b ≡ true
when_not true a b h e = absurd (clash refl h)
when_not false a b h e = e

used_when : (u a b : Bool) → (u ≡ true → a ≡ true) → (u ≡ false → b ≡ true) → cond u a b ≡ true
used_when true a b h k = h refl
used_when false a b h k = k refl

abbrev link_test : ℕ → Link → Bool
link_test n l = fits_test l && used_test n l

formed_link : (n : ℕ) (l : Link) → link_test n l ≡ true → Formed n l
formed_link n l e = record {
  level = leb-true _ 15 t1;
  small = ltb-true _ _ t3;
  outputs_small = ltb-true _ _ t4;
  inside = λ u h m. ltb-true u n (sym (member_below n u h) ∙ within_member l.covered (below n) u t7 h m);
  subset = λ u h m. within_member l.outputs l.covered u t6 h m;
  some_output = ltb-true 0 _ t5;
  few = leb-true _ 8 t2;
}
  where
    t1 : leb l.level 15 ≡ true
    t1 = search (and_left, and_right) depth 8

    t2 : leb (size l.covered) 8 ≡ true
    t2 = search (and_left, and_right) depth 8

    t3 : ltb l.covered (2 ^ 64) ≡ true
    t3 = search (and_left, and_right) depth 8

    t4 : ltb l.outputs (2 ^ 64) ≡ true
    t4 = search (and_left, and_right) depth 8

    t5 : ltb 0 l.outputs ≡ true
    t5 = search (and_left, and_right) depth 8

    t6 : within l.outputs l.covered ≡ true
    t6 = search (and_left, and_right) depth 8

    t7 : within l.covered (below n) ≡ true
    t7 = search (and_left, and_right) depth 8

link_formed : (n : ℕ) (l : Link) → Formed n l → link_test n l ≡ true
link_formed n l F =
    and_both _ _ (and_both _ _ (lt-ltb _ _ F.small) (lt-ltb _ _ F.outputs_small))
    (and_both _ _ (and_both _ _ (le-leb _ 15 F.level) (le-leb _ 8 F.few))
    (and_both _ _ (lt-ltb 0 _ F.some_output)
    (and_both _ _ (within_true l.outputs l.covered F.subset)
    (within_true l.covered (below n) (λ u h m. member_below n u h ∙ lt-ltb u n (F.inside u h m))))))

standing_facts : (setter : List ℕ) (i o f : ℕ) (s : Standing) → s ≡ Holding f → is_standing setter i o s ≡ true → HoldFacts setter i o f
standing_facts setter i o f s h e = go (subst (λ (x : Standing). is_standing setter i o x ≡ true) h e)
  where
    go : (ltb f 64 && (member o f && eqb (at setter f) i)) ≡ true → HoldFacts setter i o f
    go e = record {
      field = ltb-true f 64 (and_left _ _ e);
      output = and_left _ _ (and_right (ltb f 64) _ e);
      sets = eqb-true _ i (and_right (member o f) _ (and_right (ltb f 64) _ e));
    }

facts_standing : (setter : List ℕ) (i o : ℕ) (s : Standing) → ((f : ℕ) → s ≡ Holding f → HoldFacts setter i o f) → is_standing setter i o s ≡ true
facts_standing setter i o Waiting h = refl
facts_standing setter i o (Holding f) h =
    let H = h f refl in
    and_both _ _ (lt-ltb f 64 H.field) (and_both _ _ H.output (eq-eqb _ i H.sets))

holds_it : (s : Standing) (f : ℕ) → holds s f ≡ true → s ≡ Holding f
holds_it Waiting f e = absurd (false≢true e)
holds_it (Holding g) f e = ap Holding (eqb-true g f e)

it_holds : (s : Standing) (f : ℕ) → s ≡ Holding f → holds s f ≡ true
it_holds s f e = rw e (eq-eqb f f refl)

-- ---- formulas

none_rule : (formula : Rule) → is_none formula ≡ true → formula ≡ None
none_rule None e = refl
none_rule (Some (Ratio p q)) e = absurd (false≢true e)
none_rule (Some (Sum f)) e = absurd (false≢true e)

rule_fits : (l : Link) (formula : Rule) → is_rule l formula ≡ true → Fits formula l
unfolding is_rule
rule_fits l formula e = go (is_none formula) refl e
  where
    go : (b : Bool) → is_none formula ≡ b → (b || (l.used && accepted formula l.covered)) ≡ true → Fits formula l
    go true t e = inl (none_rule formula t)
    go false t e = inr (and_left l.used _ e, and_right l.used _ e)

fits_rule : (l : Link) (formula : Rule) → Fits formula l → is_rule l formula ≡ true
unfolding is_rule
fits_rule l formula (inl e) = rw e
fits_rule l formula (inr (u, a)) = rw (u, a) (or-true (is_none formula))

-- ---- all tests

module _ (s : Sheet) (e : is_formed s ≡ true) where
  whole : is_whole s ≡ true
  unfolding is_formed
  whole = and_left _ _ (and_left _ _ e)

  sized : is_size s.panel.size ≡ true
  unfolding is_formed
  sized = and_right (is_whole s) _ (and_left _ _ e)

  tail : ((every (is_place s.panel.place s.panel.size) 64 && every (λ i. is_link s.panel.size s.panel.setter i (link_at s.panel.links i)) 128)
      && ((every (is_setter s.panel.links s.panel.setter) 64 && every (λ i. is_rule (link_at s.panel.links i) (formula_at s.formulas i)) 128)
      && every (is_value s.panel.size s.values) 64)) ≡ true
  unfolding is_formed
  tail = and_right (is_whole s && is_size s.panel.size) _ e

  places : (f : ℕ) → f < 64 → is_place s.panel.place s.panel.size f ≡ true
  places f l = every_at _ 64 (and_left _ _ (and_left _ _ tail)) f l

  links : (i : ℕ) → i < 128 → is_link s.panel.size s.panel.setter i (link_at s.panel.links i) ≡ true
  links i l = every_at (λ i. is_link s.panel.size s.panel.setter i (link_at s.panel.links i)) 128 (and_right (every (is_place s.panel.place s.panel.size) 64) _ (and_left _ _ tail)) i l

  rest : ((every (is_setter s.panel.links s.panel.setter) 64 && every (λ i. is_rule (link_at s.panel.links i) (formula_at s.formulas i)) 128)
      && every (is_value s.panel.size s.values) 64) ≡ true
  rest = and_right (every (is_place s.panel.place s.panel.size) 64 && every (λ i. is_link s.panel.size s.panel.setter i (link_at s.panel.links i)) 128) _ tail

  setters : (f : ℕ) → f < 64 → is_setter s.panel.links s.panel.setter f ≡ true
  setters f l = every_at _ 64 (and_left _ _ (and_left _ _ rest)) f l

  rules : (i : ℕ) → i < 128 → is_rule (link_at s.panel.links i) (formula_at s.formulas i) ≡ true
  rules i l = every_at (λ i. is_rule (link_at s.panel.links i) (formula_at s.formulas i)) 128 (and_right (every (is_setter s.panel.links s.panel.setter) 64) _ (and_left _ _ rest)) i l

  values : (f : ℕ) → f < 64 → is_value s.panel.size s.values f ≡ true
  values f l = every_at (is_value s.panel.size s.values) 64 (and_right (every (is_setter s.panel.links s.panel.setter) 64 && every (λ i. is_rule (link_at s.panel.links i) (formula_at s.formulas i)) 128) _ rest) f l

  pub formed_facts : Facts s
  unfolding is_whole is_size is_place is_link is_setter is_rule is_value
  formed_facts = record {
    links_long = eqb-true _ 128 (and_left _ _ (and_left _ _ whole));
    place_long = eqb-true _ 64 (and_right (eqb (length s.panel.links) 128) _ (and_left _ _ whole));
    setter_long = eqb-true _ 64 (and_left _ _ (and_left _ _ (and_right (eqb (length s.panel.links) 128 && eqb (length s.panel.place) 64) _ whole)));
    rules_long = eqb-true _ 128 (and_right (eqb (length s.panel.setter) 64) _ (and_left _ _ (and_right (eqb (length s.panel.links) 128 && eqb (length s.panel.place) 64) _ whole)));
    values_long = eqb-true _ 64 (and_right (eqb (length s.panel.setter) 64 && eqb (length s.formulas) 128) _ (and_right (eqb (length s.panel.links) 128 && eqb (length s.panel.place) 64) _ whole));
    some = leb-true 1 _ (and_left _ _ sized);
    few = leb-true _ 64 (and_right (leb 1 s.panel.size) _ sized);
    place_small = λ f l. ltb-true _ _ (and_left _ _ (in_place f l));
    place_first = λ f l. eqb-true _ f (and_right (ltb (at s.panel.place f) s.panel.size) _ (in_place f l));
    place_past = λ f l h. eqb-true _ f (when_not (ltb f s.panel.size) _ _ (le-ltb f s.panel.size l) (places f h));
    formed = λ i l u. formed_link s.panel.size (link_at s.panel.links i) (when_used _ _ _ u (link_test_lem i l));
    unused = λ i l u. no_link_lem (link_at s.panel.links i) u (when_not _ _ _ u (link_test_lem i l));
    holding = λ i f l h. standing_facts s.panel.setter i (link_at s.panel.links i).outputs f (link_at s.panel.links i).standing h (and_left _ _ (links i l));
    setter_small = λ f l. small (at s.panel.setter f) _ (setters f l);
    setter_sets = λ f l h. sets f h (rw (ne_eqb (at s.panel.setter f) 128 (λ q. omega arith)) at (setters f l));
    fits = λ i l. rule_fits (link_at s.panel.links i) (formula_at s.formulas i) (rules i l);
    value_fits = values_fit;
    value_past = λ f h l. zero_value _ (values_fit f l) (eqb-true _ 0 (rw (le-ltb f s.panel.size h) at (and_right (not (outside (value_at s.values f))) _ (values f l))));
  }
    where
      few : s.panel.size ≤ 64
      few = leb-true _ 64 (and_right (leb 1 s.panel.size) _ sized)

      in_place : (f : ℕ) → f < s.panel.size
          → (ltb (at s.panel.place f) s.panel.size && eqb (field_at s.panel.place s.panel.size (at s.panel.place f)) f) ≡ true
      in_place f l = when_used (ltb f s.panel.size) _ _ (lt-ltb f s.panel.size l) (places f (omega (arith, few)))

      link_test_lem : (i : ℕ) → i < 128 → cond (link_at s.panel.links i).used (link_test s.panel.size (link_at s.panel.links i))
          ((eqb (link_at s.panel.links i).covered 0 && eqb (link_at s.panel.links i).outputs 0) && (eqb (link_at s.panel.links i).level 0 && is_waiting (link_at s.panel.links i).standing)) ≡ true
      link_test_lem i l = and_right (is_standing s.panel.setter i (link_at s.panel.links i).outputs (link_at s.panel.links i).standing) _ (links i l)

      small : (i : ℕ) (r : Bool) → (eqb i 128 || (ltb i 128 && r)) ≡ true → i ≤ 128
      small i r h = go (eqb i 128) refl h
        where
          go : (b : Bool) → eqb i 128 ≡ b → (b || (ltb i 128 && r)) ≡ true → i ≤ 128
          go true t h = omega (arith, eqb-true i 128 t)
          go false t h = omega (arith, ltb-true i 128 (and_left _ _ h))

      sets : (f : ℕ) → at s.panel.setter f < 128
          → (ltb (at s.panel.setter f) 128 && ((link_at s.panel.links (at s.panel.setter f)).used && holds (link_at s.panel.links (at s.panel.setter f)).standing f)) ≡ true
          → SetFacts s.panel.links (at s.panel.setter f) f
      sets f h t =
          let b : ((link_at s.panel.links (at s.panel.setter f)).used && holds (link_at s.panel.links (at s.panel.setter f)).standing f) ≡ true = and_right (ltb (at s.panel.setter f) 128) _ t in
          record {
            used = and_left _ _ b;
            holding = holds_it _ f (and_right (link_at s.panel.links (at s.panel.setter f)).used _ b);
          }

      values_fit : (f : ℕ) → f < 64 → SFits w32 (value_at s.values f)
      values_fit f l = value_small _ (and_left _ _ (values f l))

module _ (s : Sheet) (F : Facts s) where
  fits_places : (f : ℕ) → f < 64 → is_place s.panel.place s.panel.size f ≡ true
  unfolding is_place
  fits_places f l =
      used_when (ltb f s.panel.size) _ _
      (λ t. let h = ltb-true f s.panel.size t in and_both _ _ (lt-ltb _ _ (F.place_small f h)) (eq-eqb _ f (F.place_first f h)))
      (λ t. eq-eqb _ f (F.place_past f (ltb-false f s.panel.size t) l))

  fits_links : (i : ℕ) → i < 128 → is_link s.panel.size s.panel.setter i (link_at s.panel.links i) ≡ true
  unfolding is_link
  fits_links i l =
      and_both _ _ (facts_standing s.panel.setter i _ _ (λ f h. F.holding i f l h))
      (used_when (link_at s.panel.links i).used _ _ (λ u. link_formed _ _ (F.formed i l u)) (λ u. rw (F.unused i l u)))

  fits_setters : (f : ℕ) → f < 64 → is_setter s.panel.links s.panel.setter f ≡ true
  unfolding is_setter
  fits_setters f l = go (dec_lt (at s.panel.setter f) 128)
    where
      go : Dec (at s.panel.setter f < 128) → is_setter s.panel.links s.panel.setter f ≡ true
      go (yes h) =
          let S = F.setter_sets f l h in
          rw (ne_eqb (at s.panel.setter f) 128 (λ q. omega arith), lt-ltb (at s.panel.setter f) 128 h, S.used) (it_holds _ f S.holding)
      go (no h) = rw (eq-eqb (at s.panel.setter f) 128 (omega (arith, F.setter_small f l)))

  fits_rules : (i : ℕ) → i < 128 → is_rule (link_at s.panel.links i) (formula_at s.formulas i) ≡ true
  fits_rules i l = fits_rule (link_at s.panel.links i) (formula_at s.formulas i) (F.fits i l)

  fits_values : (f : ℕ) → f < 64 → is_value s.panel.size s.values f ≡ true
  unfolding is_value bits_of
  fits_values f l = and_both _ _ (small_value _ (F.value_fits f l)) (go (dec_lt f s.panel.size))
    where
      go : Dec (f < s.panel.size) → (ltb f s.panel.size || eqb (bits_of (value_at s.values f)) 0) ≡ true
      go (yes h) = rw (lt-ltb f s.panel.size h)
      go (no h) = rw (le-ltb f s.panel.size (omega arith)) (eq-eqb _ 0 (ap bits_of (F.value_past f (omega arith) l)))

  pub facts_formed : is_formed s ≡ true
  unfolding is_formed is_whole is_size
  facts_formed =
      and_both _ _
      (and_both _ _
      (and_both _ _ (and_both _ _ (eq-eqb _ 128 F.links_long) (eq-eqb _ 64 F.place_long))
      (and_both _ _ (and_both _ _ (eq-eqb _ 64 F.setter_long) (eq-eqb _ 128 F.rules_long)) (eq-eqb _ 64 F.values_long)))
      (and_both _ _ (le-leb 1 _ F.some) (le-leb _ 64 F.few)))
      (and_both _ _ (and_both _ _ (every_all _ 64 fits_places) (every_all (λ i. is_link s.panel.size s.panel.setter i (link_at s.panel.links i)) 128 fits_links))
      (and_both _ _ (and_both _ _ (every_all _ 64 fits_setters) (every_all (λ i. is_rule (link_at s.panel.links i) (formula_at s.formulas i)) 128 fits_rules))
      (every_all _ 64 fits_values)))
