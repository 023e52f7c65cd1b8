-- A legal panel with formulas and values that fit is formed, and a formed panel that is not unfit is legal. Assumes nothing.
use Prim.Native.Nat.{ℕ, ◌≤◌, ◌<◌}
use mathlib.Core.Path.{◌≡◌, refl, sym, ap, ◌∙◌}
use mathlib.Core.Logic.{inl, inr}
use mathlib.Core.Bool.{Bool, true, false, not, ◌&&◌, ◌||◌}
use mathlib.Core.Option.{Option, none, some}
use mathlib.Core.List.{List}
use native.Mathlib.Decide.{dec_lt}
use native.Mathlib.Omega.{arith}
use lib.Dec.{eqb}
use lib.IntN.{pos}
use lib.ListN.{get_or-eq_default}
use borrow.Author.Tests.{eq-eqb, eqb-true, not-true}
use Rattle.std.specs.Prelude.{None}
use Rattle.fieldset.specs.Tables.{at}
use Rattle.fieldset.proofs.Tests.{or_left, or_right}
use Rattle.fieldset.proofs.Numbers.{clash, lowest_is, Lowest, any_false, any_none}
use Rattle.panel.specs.declared.Standing.{Standing}
use Rattle.panel.specs.declared.Standing.TheVariants.{Waiting, Holding}
use Rattle.panel.specs.declared.Panel.{Panel}
use Rattle.panel.specs.Items.{link, link_at, is_in_force, is_waiting, waits}
use Rattle.panel.specs.Solution.{is_looped, least_blocked}
use Rattle.panel.specs.Legal.{Legal}
use Rattle.panel.proofs.InForce.{force_used, used_force}
use Rattle.values.specs.Limits.{value_at, outside}
use Rattle.formulas.specs.Formulas.{Rule}
use Rattle.sheet.specs.declared.Sheet.{Sheet}
use Rattle.sheet.specs.Sheets.{formula_at}
use Rattle.sheet.specs.Legal.{Fits, LegalSheet}
use Rattle.images.specs.Images.{field_at}
use Rattle.images.specs.Forms.{is_formed}
use Rattle.images.specs.Reading.{is_short, is_some, is_unfit}
use Rattle.images.proofs.Facts.{Facts, value_small, small_value, formed_facts, facts_formed}

-- ---- a legal sheet of an open panel is formed

module _ (s : Sheet) (L : LegalSheet s) (some : 1 ≤ s.panel.size) where
  first : (f : ℕ) → f < s.panel.size → field_at s.panel.place s.panel.size (at s.panel.place f) ≡ f
  unfolding field_at
  first f l = go (field_at s.panel.place s.panel.size (at s.panel.place f)) (lowest_is (λ g. eqb (at s.panel.place g) (at s.panel.place f)) s.panel.size 64)
    where
      go : (g : ℕ) → Lowest (λ g. eqb (at s.panel.place g) (at s.panel.place f)) s.panel.size 64 g → g ≡ f
      go g (inl h) = L.panel.place_once g f h.0 l (eqb-true (at s.panel.place g) (at s.panel.place f) h.1)
      go g (inr h) = absurd (clash (eq-eqb (at s.panel.place f) (at s.panel.place f) refl) (h.1 f l))

  pub legal_formed : is_formed s ≡ true
  legal_formed = let P = L.panel in facts_formed s (record {
    links_long = P.links_length;
    place_long = P.place_length;
    setter_long = P.setter_length;
    rules_long = L.formulas_length;
    values_long = L.values_length;
    some = some;
    few = P.few;
    place_small = P.place_small;
    place_first = first;
    place_past = P.place_past;
    formed = P.formed;
    unused = P.unused;
    holding = λ i f l h. record {
      field = omega (arith, P.holding_field i f l h, P.few);
      output = P.holding_output i f l h;
      sets = P.holding_sets i f l h;
    };
    setter_small = P.setter_small;
    setter_sets = λ f l h. record { used = force_used (link_at s.panel.links (at s.panel.setter f)) (P.setter_in_force f l h); holding = P.setter_holds f l h };
    fits = λ i l. L.fits i;
    value_fits = λ f l. value_small (value_at s.values f) (ap not (L.within f));
    value_past = λ f h l. L.past f h;
  })

-- ---- the other way

module _ (s : Sheet) (e : is_formed s ≡ true) where
  abbrev F : Facts s
  F = formed_facts s e

  inside : (i f : ℕ) → i < 128 → (link_at s.panel.links i).standing ≡ Holding f → f < s.panel.size
  inside i f l h = go (link_at s.panel.links i).used refl
    where
      go : (b : Bool) → (link_at s.panel.links i).used ≡ b → f < s.panel.size
      go true u =
          let H = F.holding i f l h in
          let K = F.formed i l u in
          K.inside f H.field (K.subset f H.field H.output)
      go false u =
          let w : (link_at s.panel.links i).standing ≡ Waiting = ap (λ l. l.standing) (F.unused i l u) in
          let z : ◌≡◌ {A = ℕ} 0 1 = cc in
          absurd (omega arith)

  pub formed_legal : is_short s.panel ≡ false → is_looped s.panel ≡ false → Legal s.panel
  unfolding is_short
  formed_legal short loopless = record {
    few = F.few;
    links_length = F.links_long;
    place_length = F.place_long;
    setter_length = F.setter_long;
    formed = F.formed;
    unused = F.unused;
    place_past = F.place_past;
    setter_past = past;
    setter_small = F.setter_small;
    setter_in_force = λ f l h. used_force (link_at s.panel.links (at s.panel.setter f)) (F.setter_sets f l h).used;
    setter_holds = λ f l h. (F.setter_sets f l h).holding;
    holding_field = inside;
    holding_output = λ i f l h. (F.holding i f l h).output;
    holding_sets = λ i f l h. (F.holding i f l h).sets;
    place_small = F.place_small;
    place_once = λ f g l k h. sym (F.place_first f l) ∙ ap (field_at s.panel.place s.panel.size) h ∙ F.place_first g k;
    required = λ i l u v w. clash (rw (eq-eqb (link_at s.panel.links i).level 0 v, u, w)) (any_false _ 128 i short l);
    loopless = loopless;
  }
    where
      past : (f : ℕ) → s.panel.size ≤ f → f < 64 → at s.panel.setter f ≡ 128
      past f h l = go (dec_lt (at s.panel.setter f) 128)
        where
          go : Dec (at s.panel.setter f < 128) → at s.panel.setter f ≡ 128
          go (yes k) = absurd (omega (arith, inside (at s.panel.setter f) f k (F.setter_sets f l k).holding))
          go (no k) = omega (arith, F.setter_small f l)

  -- formulas and values beside it
  pub formed_legal_sheet : Legal s.panel → LegalSheet s
  formed_legal_sheet L = record {
    panel = L;
    fits = λ k. go k (dec_lt k 128);
    formulas_length = F.rules_long;
    values_length = F.values_long;
    within = λ f. inside_limits f (dec_lt f 64);
    past = λ f h. zero_past f h (dec_lt f 64);
  }
    where
      go : (k : ℕ) → Dec (k < 128) → Fits (formula_at s.formulas k) (link_at s.panel.links k)
      go k (yes l) = F.fits k l
      go k (no l) = inl (get_or-eq_default s.formulas None {n = k} (omega (arith, F.rules_long)))

      inside_limits : (f : ℕ) → Dec (f < 64) → outside (value_at s.values f) ≡ false
      inside_limits f (yes l) = not-true (outside (value_at s.values f)) (small_value (value_at s.values f) (F.value_fits f l))
      inside_limits f (no l) = rw (get_or-eq_default s.values (pos 0) {n = f} (omega (arith, F.values_long)))

      zero_past : (f : ℕ) → s.panel.size ≤ f → Dec (f < 64) → value_at s.values f ≡ pos 0
      zero_past f h (yes l) = F.value_past f h l
      zero_past f h (no l) = get_or-eq_default s.values (pos 0) {n = f} (omega (arith, F.values_long))

-- ---- what Unfit says, part by part

module _ (p : Panel) where
  module _ (e : is_unfit p ≡ false) where
    rest : (is_some (least_blocked p) || is_short p) ≡ false
    unfolding is_unfit
    rest = or_right (is_looped p) _ e

    pub unfit_loopless : is_looped p ≡ false
    unfolding is_unfit
    unfit_loopless = or_left (is_looped p) _ e

    pub unfit_short : is_short p ≡ false
    unfit_short = or_right (is_some (least_blocked p)) _ rest

    pub unfit_unblocked : least_blocked p ≡ none
    unfit_unblocked = go (least_blocked p) (or_left (is_some (least_blocked p)) _ rest)
      where
        go : (o : Option _) → is_some o ≡ false → o ≡ none
        go none h = refl
        go (some c) h = absurd (clash refl h)

  pub legal_fit : Legal p → least_blocked p ≡ none → is_unfit p ≡ false
  unfolding is_unfit is_short
  legal_fit L e = rw (L.loopless, e, any_none _ 128 held)
    where
      held : (i : ℕ) → i < 128 → (eqb (link_at p.links i).level 0 && waits p.size p.links p.setter (link i)) ≡ false
      held i l = go (eqb (link_at p.links i).level 0) refl (is_in_force (link_at p.links i)) refl (link_at p.links i).standing refl
        where
          go : (a : Bool) → eqb (link_at p.links i).level 0 ≡ a → (b : Bool) → is_in_force (link_at p.links i) ≡ b → (st : Standing) → (link_at p.links i).standing ≡ st
              → (a && (b && is_waiting st)) ≡ false
          go false v b u st w = refl
          go true v false u st w = refl
          go true v true u Waiting w = absurd (L.required i l u (eqb-true (link_at p.links i).level 0 v) w)
          go true v true u (Holding f) w = refl
