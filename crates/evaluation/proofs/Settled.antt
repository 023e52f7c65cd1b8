-- After a run over an ordered plan every held formula is right for the field that it sets, and what has no formula keeps its value.
use Prim.Native.Nat.{ℕ, zero, suc, ◌+◌, ◌^◌, ◌≤◌, ◌<◌}
use mathlib.Core.Path.{◌≡◌, refl, sym, ap, subst, ◌∙◌}
use mathlib.Core.Bool.{Bool, true, false, not, ◌&&◌, cond, and-true, and-false, true≢false}
use mathlib.Core.List.{List, [], ◌∷◌}
use mathlib.Core.Logic.{◌≢◌, ◌⊎◌, inl, inr}
use native.Mathlib.Decide.{ℕ_discrete, dec_lt}
use native.Mathlib.Omega.{arith}
use borrow.Author.Tests.{lt-ltb, le-ltb, ltb-true, ltb-false, eq-eqb, ne_eqb}
use lib.Dec.{eqb, ltb}
use lib.IntN.{ℤ, pos, ◌+ℤ◌, ◌-ℤ◌, +ℤ_comm, -ℤ-+ℤ_cancel, +ℤ-neg_ℤ_cancel}
use lib.ListN.{length, set, length-set, get_or-eq_default}
use lib.Seq.{get_or-set_same, get_or-set_other, set-get_or, set_out}
use Rattle.std.specs.Prelude.{Some, None}
use Rattle.fieldset.specs.Lists.{In, All}
use Rattle.fieldset.proofs.Lists.{all_in}
use Rattle.fieldset.specs.Fields.{member, with, without, lowest_of, size}
use Rattle.fieldset.proofs.Numbers.{clash, count_pos}
use Rattle.fieldset.proofs.Tests.{and_left}
use Rattle.fieldset.proofs.Fields.{member_with_same, member_with_other, member_without, member_without_same, member_without_other, without_lt, lowest_of_lt, lowest_of_member, size_without, within_member, size_empty, member_lt}
use Rattle.values.specs.Limits.{outside, value_at}
use Rattle.values.specs.Ratios.{scaled, Nearest}
use Rattle.values.specs.Sums.{total}
use Rattle.values.proofs.Ratios.{scaled_nearest, nearest_scaled}
use Rattle.values.proofs.Sums.{total_cong, total_without, total_members}
use Rattle.formulas.specs.declared.Formula.TheVariants.{Ratio, Sum}
use Rattle.formulas.specs.Formulas.{Rule, computed, Usable, Right, Held}
use Rattle.evaluation.specs.Runs.{Run, run, Ordered}
use Rattle.formulas.proofs.Accepting.{ratio_accepted, sum_accepted}
use Rattle.evaluation.proofs.Running.{run_value, run_out}

-- ---- covered fields and read fields

below : {f g : ℕ} → f ≤ g → g ≢ f → f < g
below {f} {g} l d = go (dec_lt f g)
  where
    go : Dec (f < g) → f < g
    go (yes h) = h
    go (no h) = absurd (d (omega arith))

-- a set of one field has no other
one_field : (m f g : ℕ) → m < 2 ^ 64 → size m ≡ 1 → f < 64 → g < 64 → member m f ≡ true → member m g ≡ true → f ≡ g
unfolding size
one_field m f g h one lf lg ef eg = go (ℕ_discrete f g)
  where
    go : Dec (f ≡ g) → f ≡ g
    go (yes d) = d
    go (no d) =
        let left : member (without m g) f ≡ true = member_without_other m g f lf d ∙ ef in
        absurd (omega (arith, size_without m h g eg, count_pos (member (without m g)) 64 f lf left))

-- a field of a set without another
part : (m g i : ℕ) → i < 64 → member (without m g) i ≡ true → member m i ≡ true
part m g i l t = and_left (member m i) (not (eqb i g)) (sym (member_without m g i l) ∙ t)

-- a set of some size is not empty
not_empty : (m : ℕ) → 0 < size m → 0 < m
not_empty zero h = absurd (omega (arith, size_empty))
not_empty (suc m) h = omega arith

-- two fields taken out, in either order
without_swap : (m f g : ℕ) → (i : ℕ) → i < 64 → member (without (without m g) f) i ≡ member (without (without m f) g) i
without_swap m f g i l =
    member_without (without m g) f i l
    ∙ rw (member_without m g i l, member_without (without m f) g i l, member_without m f i l) (swap (member m i) (not (eqb i g)) (not (eqb i f)))
  where
    swap : (a b c : Bool) → ((a && b) && c) ≡ ((a && c) && b)
    swap true true c = sym (and-true c)
    swap true false c = sym (and-false c)
    swap false b c = refl

module _ {formula : Rule} {covered reads f : ℕ} (held : Held formula covered reads f) where
  field_low : f < 64
  field_low = member_lt covered held.small f held.covers

  -- another covered field is read
  other_read : (g : ℕ) → g < 64 → member covered g ≡ true → g ≢ f → member reads g ≡ true
  other_read g l e d = rw held.rest (member_without_other covered f g l d ∙ e)

  reads_small : reads < 2 ^ 64
  reads_small = rw held.rest (without_lt covered f)

  reads_size : size reads + 1 ≡ size covered
  reads_size = rw held.rest (size_without covered held.small f held.covers)

  -- the field that a ratio reads is the other covered field
  the_other : size covered ≡ 2 → (g : ℕ) → g < 64 → member covered g ≡ true → g ≢ f → lowest_of reads ≡ g
  the_other two g l e d =
      let some : 0 < reads = not_empty reads (omega (arith, reads_size)) in
      one_field reads (lowest_of reads) g reads_small (omega (arith, reads_size)) (lowest_of_lt reads reads_small some) l
      (lowest_of_member reads reads_small some) (other_read g l e d)

-- ---- what is computed depends on the read fields alone, and is right

pub ratio_some : {p q : ℕ} → Some (Ratio p q) ≢ None
ratio_some e = let z : ◌≡◌ {A = ℕ} 0 1 = cc in omega arith

pub sum_some : {g : ℕ} → Some (Sum g) ≢ None
sum_some e = let z : ◌≡◌ {A = ℕ} 0 1 = cc in omega arith

-- what is held can be computed
pub held_usable : {covered reads f : ℕ} (formula : Rule) → (formula ≢ None → Held formula covered reads f) → Usable formula reads
unfolding Usable
held_usable None held = tt
held_usable {covered} {reads} (Some (Ratio p q)) held =
    let h = held ratio_some in
    let a = ratio_accepted p q covered h.fitting in
    (a.0, (a.1.0, not_empty reads (omega (arith, reads_size h, a.1.1))))
held_usable {covered} (Some (Sum g)) held = (sum_accepted g covered (held sum_some).fitting).0

-- a sum less what is left
take_back : (a b : ℤ) → b +ℤ (a -ℤ b) ≡ a
take_back a b = +ℤ_comm b (a -ℤ b) ∙ -ℤ-+ℤ_cancel a b

module _ {covered reads f : ℕ} (v w : ℕ → ℤ) (agree : (g : ℕ) → g < 64 → member reads g ≡ true → v g ≡ w g) where
  -- values that agree on them, and on f where there is no formula, give the same
  pub computed_cong : (formula : Rule) → (formula ≢ None → Held formula covered reads f) → (formula ≡ None → v f ≡ w f)
      → computed formula reads f v ≡ computed formula reads f w
  unfolding computed
  computed_cong None held e = e refl
  computed_cong (Some (Ratio p q)) held' e =
      let held = held' ratio_some in
      let some : 0 < reads = not_empty reads (omega (arith, reads_size held, (ratio_accepted p q covered held.fitting).1.1)) in
      let same : v (lowest_of reads) ≡ w (lowest_of reads) =
      agree (lowest_of reads) (lowest_of_lt reads (reads_small held) some) (lowest_of_member reads (reads_small held) some) in
      rw same
  computed_cong (Some (Sum g)) held' e = go (held' sum_some) (ℕ_discrete f g)
    where
      go : Held (Some (Sum g)) covered reads f → Dec (f ≡ g)
          → cond (eqb f g) (total v reads) (v g -ℤ total v (without reads g)) ≡ cond (eqb f g) (total w reads) (w g -ℤ total w (without reads g))
      go held (yes d) = rw (eq-eqb f g d) (total_cong v w reads agree)
      go held (no d) =
          let (low, inside) = sum_accepted g covered held.fitting in
          rw (ne_eqb f g d, agree g low (other_read held g low inside (λ q. d (sym q))))
          (ap (λ (x : ℤ). w g -ℤ x) (total_cong v w (without reads g) (λ i l t. agree i l (part reads g i l t))))

  -- computed before the run ends, right for the values at its end
  computed_agrees : (formula : Rule) → (formula ≢ None → Held formula covered reads f) → w f ≡ computed formula reads f v → w f ≡ computed formula reads f w
  unfolding computed
  computed_agrees None held e = refl
  computed_agrees (Some (Ratio p q)) held e = e ∙ computed_cong (Some (Ratio p q)) held (λ n. absurd (ratio_some n))
  computed_agrees (Some (Sum g)) held e = e ∙ computed_cong (Some (Sum g)) held (λ n. absurd (sum_some n))

module _ {covered reads f : ℕ} (w : ℕ → ℤ) where
  computed_right : (formula : Rule) → (formula ≢ None → Held formula covered reads f) → w f ≡ computed formula reads f w → Right formula covered f w
  unfolding computed Right
  computed_right None held e = tt
  computed_right (Some (Ratio p q)) held' e =
      λ g l m d.
      let held = held' ratio_some in
      let o : lowest_of reads ≡ g = the_other held (ratio_accepted p q covered held.fitting).1.1 g l m d in (
        λ b. subst (Nearest (w g) p q) (sym (e ∙ rw (o, lt-ltb g f b))) (scaled_nearest (w g) p q (ratio_accepted p q covered held.fitting).1.0),
        λ b. subst (Nearest (w g) q p) (sym (e ∙ rw (o, le-ltb g f (omega arith)))) (scaled_nearest (w g) q p (ratio_accepted p q covered held.fitting).0),
      )
  computed_right (Some (Sum g)) held' e = go (held' sum_some) (ℕ_discrete f g)
    where
      go : Held (Some (Sum g)) covered reads f → Dec (f ≡ g) → w g ≡ total w (without covered g)
      go held (yes d) = rw (← d) (e ∙ rw (eq-eqb f g d, held.rest))
      go held (no d) =
          let t : total w (without covered g) ≡ total w (without (without covered g) f) +ℤ w f =
          total_without w (without covered g) f (field_low held) (member_without_other covered g f (field_low held) d ∙ held.covers) in
          let same : total w (without (without covered g) f) ≡ total w (without reads g) =
          rw held.rest (total_members w (without (without covered g) f) (without (without covered f) g) (without_swap covered f g)) in
          let here : w f ≡ w g -ℤ total w (without reads g) = e ∙ rw (ne_eqb f g d) in
          sym (t ∙ rw (same, here) (take_back (w g) (total w (without reads g))))

  -- and what is right is what would be computed
  pub right_computed : (formula : Rule) → (formula ≢ None → Held formula covered reads f) → Right formula covered f w → w f ≡ computed formula reads f w
  unfolding computed Right
  right_computed None held r = refl
  right_computed (Some (Ratio p q)) held' r = go (ltb g f) refl
    where
      held : Held (Some (Ratio p q)) covered reads f
      held = held' ratio_some

      some : 0 < reads
      some = not_empty reads (omega (arith, reads_size held, (ratio_accepted p q covered held.fitting).1.1))

      g : ℕ
      g = lowest_of reads

      low : g < 64
      low = lowest_of_lt reads (reads_small held) some

      -- it is covered, and another one
      inside : (member covered g ≡ true) × (g ≢ f)
      inside =
          let read : member (without covered f) g ≡ true = rw (← held.rest) (lowest_of_member reads (reads_small held) some) in
          (part covered f g low read, λ e. clash read (rw e (member_without_same covered f)))

      near : (g < f → Nearest (w g) p q (w f)) × (f < g → Nearest (w g) q p (w f))
      near = r g low inside.0 inside.1

      go : (b : Bool) → ltb g f ≡ b → w f ≡ cond (ltb g f) (scaled (w g) p q) (scaled (w g) q p)
      go true t = rw t (nearest_scaled (w g) p q (ratio_accepted p q covered held.fitting).1.0 (w f) (near.0 (ltb-true g f t)))
      go false t =
          let over : f < g = below (ltb-false g f t) inside.1 in
          rw t (nearest_scaled (w g) q p (ratio_accepted p q covered held.fitting).0 (w f) (near.1 over))
  right_computed (Some (Sum g)) held' r = go (held' sum_some) (ℕ_discrete f g)
    where
      go : Held (Some (Sum g)) covered reads f → Dec (f ≡ g) → w f ≡ cond (eqb f g) (total w reads) (w g -ℤ total w (without reads g))
      go held (yes d) = rw (eq-eqb f g d, held.rest, d) r
      go held (no d) =
          let t : total w (without covered g) ≡ total w (without (without covered g) f) +ℤ w f =
          total_without w (without covered g) f (field_low held) (member_without_other covered g f (field_low held) d ∙ held.covers) in
          let same : total w (without (without covered g) f) ≡ total w (without reads g) =
          rw held.rest (total_members w (without (without covered g) f) (without (without covered f) g) (without_swap covered f g)) in
          let rest : ℤ = total w (without reads g) in
          let whole : w g ≡ w f +ℤ rest = r ∙ t ∙ ap (λ (x : ℤ). x +ℤ w f) same ∙ +ℤ_comm rest (w f) in
          rw (ne_eqb f g d) (sym (ap (λ (x : ℤ). x -ℤ rest) whole ∙ +ℤ-neg_ℤ_cancel (w f) rest))

-- ---- along the run

-- a value within the limits, where it is stored and where nothing is
set_inside : (v : List ℤ) (f g : ℕ) (x : ℤ) → outside x ≡ false → g ≡ f → outside (value_at (set v f x) g) ≡ false
set_inside v f g x i d = go (dec_lt f (length v))
  where
    go : Dec (f < length v) → outside (value_at (set v f x) g) ≡ false
    go (yes l) = rw d (ap outside (get_or-set_same v f x (pos 0) l) ∙ i)
    go (no l) = rw d (ap (λ (w : List ℤ). outside (value_at w f)) (set_out v f x (omega arith)) ∙ ap outside (get_or-eq_default v (pos 0) {n = f} (omega arith)))

-- a run to the end, all of whose results are within the limits
abbrev Ends : (ℕ → Rule) → (ℕ → ℕ) → List ℕ → List ℤ → List ℤ → Type 0
Ends formula reads fs v w = run formula reads fs v ≡ record { fits = true; values = w }

-- its first step
record First (formula : ℕ → Rule) (reads : ℕ → ℕ) (f : ℕ) (fs : List ℕ) (v w : List ℤ) : Type 0 where
  value : ℤ
  is : computed (formula f) (reads f) f (value_at v) ≡ value
  within : outside value ≡ false
  onwards : Ends formula reads fs (set v f value) w

module _ (formula : ℕ → Rule) (reads : ℕ → ℕ) where
  first_step : (f : ℕ) (fs : List ℕ) (v w : List ℤ) → Ends formula reads (f ∷ fs) v w → First formula reads f fs v w
  first_step f fs v w e = go (outside (computed (formula f) (reads f) f (value_at v))) refl
    where
      go : (b : Bool) → outside (computed (formula f) (reads f) f (value_at v)) ≡ b → First formula reads f fs v w
      go false d =
          record {
            value = computed (formula f) (reads f) f (value_at v);
            is = refl;
            within = d;
            onwards = sym (run_value formula reads f fs v d) ∙ e;
          }
      go true d = absurd (true≢false (ap (λ (r : Run). r.fits) (sym e ∙ run_out formula reads f fs v d)))

  -- what has no formula keeps its value
  pub run_keeps : (fs : List ℕ) (v w : List ℤ) → Ends formula reads fs v w → (g : ℕ) → formula g ≡ None → value_at w g ≡ value_at v g
  unfolding run computed
  run_keeps [] v w e g k = ap (λ (r : Run). value_at r.values g) (sym e)
  run_keeps (f ∷ fs) v w e g k =
      let s = first_step f fs v w e in
      run_keeps fs (set v f s.value) w s.onwards g k ∙ go (ℕ_discrete g f) s.value s.is
    where
      go : Dec (g ≡ f) → (x : ℤ) → computed (formula f) (reads f) f (value_at v) ≡ x → value_at (set v f x) g ≡ value_at v g
      go (yes d) x i =
          let same : value_at v g ≡ x = rw (← d, k) at i in
          rw (← d, ← same) (ap (λ (l : List ℤ). value_at l g) (set-get_or v g (pos 0)))
      go (no d) x i = get_or-set_other v f g x (pos 0) d

  -- a listed field keeps its value
  listed_keeps : (L : ℕ) (fs : List ℕ) (v w : List ℤ) → Ordered reads L fs → Ends formula reads fs v w → (g : ℕ) → g < 64 → member L g ≡ true
      → value_at w g ≡ value_at v g
  unfolding run Ordered
  listed_keeps L [] v w o e g l m = ap (λ (r : Run). value_at r.values g) (sym e)
  listed_keeps L (f ∷ fs) v w o e g l m =
      let s = first_step f fs v w e in
      let other : g ≢ f = (λ d. clash m (rw d o.1.0)) in
      listed_keeps (with L f) fs (set v f s.value) w o.1.1.1 s.onwards g l (member_with_other L f g l other ∙ m)
      ∙ get_or-set_other v f g s.value (pos 0) other

  -- each field has at the end what its setter computes from the values at the end
  module _ (covered : ℕ → ℕ) where
    -- a formula that the setter of f has was given to its link
    abbrev pub HeldAt : ℕ → Type 0
    HeldAt f = formula f ≢ None → Held (formula f) (covered f) (reads f) f

    run_computed : (L : ℕ) (fs : List ℕ) (v w : List ℤ) → length v ≡ 64 → Ordered reads L fs → Ends formula reads fs v w → All HeldAt fs
        → All (λ f. value_at w f ≡ computed (formula f) (reads f) f (value_at w)) fs
    unfolding Ordered
    run_computed L [] v w n o e held = tt
    run_computed L (f ∷ fs) v w n o e held =
        let s = first_step f fs v w e in
        let mine : value_at w f ≡ s.value =
        listed_keeps (with L f) fs (set v f s.value) w o.1.1.1 s.onwards f o.0 (member_with_same L f o.0)
        ∙ get_or-set_same v f s.value (pos 0) (rw n o.0) in (
          computed_agrees (value_at v) (value_at w)
              (λ g k m. sym (listed_keeps L (f ∷ fs) v w o e g k (within_member (reads f) L g o.1.1.0 k m))) (formula f) held.0 (mine ∙ sym s.is),
          run_computed (with L f) fs (set v f s.value) w (length-set v f s.value ∙ n) o.1.1.1 s.onwards held.1,
        )

    -- "After an accepted kind 07 each held formula is right, only for the field it sets."
    pub run_right : (fs : List ℕ) (v w : List ℤ) → length v ≡ 64 → Ordered reads 0 fs → Ends formula reads fs v w → All HeldAt fs
        → (f : ℕ) → In f fs → Right (formula f) (covered f) f (value_at w)
    run_right fs v w n o e held f i =
        computed_right (value_at w) (formula f) (all_in HeldAt fs f held i)
        (all_in (λ g. value_at w g ≡ computed (formula g) (reads g) g (value_at w)) fs f (run_computed 0 fs v w n o e held) i)

  -- ---- limits, and what is not in the plan

  -- a field that is run, or was within the limits, is within them at the end
  pub run_within : (fs : List ℕ) (v w : List ℤ) → Ends formula reads fs v w → (g : ℕ) → In g fs ⊎ (outside (value_at v g) ≡ false) → outside (value_at w g) ≡ false
  unfolding run
  run_within [] v w e g (inl x3) = elim x3 [ ]
  run_within [] v w e g (inr h) = ap (λ (r : Run). outside (value_at r.values g)) (sym e) ∙ h
  run_within (f ∷ fs) v w e g h =
      let s = first_step f fs v w e in
      run_within fs (set v f s.value) w s.onwards g (go s.value s.within (ℕ_discrete g f) h)
    where
      go : (x : ℤ) → outside x ≡ false → Dec (g ≡ f) → In g (f ∷ fs) ⊎ (outside (value_at v g) ≡ false) → In g fs ⊎ (outside (value_at (set v f x) g) ≡ false)
      go x i (yes d) h = inr (set_inside v f g x i d)
      go x i (no d) (inl (inl m)) = absurd (d m)
      go x i (no d) (inl (inr m)) = inl m
      go x i (no d) (inr k) = inr (ap outside (get_or-set_other v f g x (pos 0) d) ∙ k)

  -- a field that is not run keeps its value
  pub run_others : (fs : List ℕ) (v w : List ℤ) → Ends formula reads fs v w → (g : ℕ) → All (λ f. g ≢ f) fs → value_at w g ≡ value_at v g
  unfolding run
  run_others [] v w e g o = ap (λ (r : Run). value_at r.values g) (sym e)
  run_others (f ∷ fs) v w e g o =
      let s = first_step f fs v w e in
      run_others fs (set v f s.value) w s.onwards g o.1 ∙ get_or-set_other v f g s.value (pos 0) o.0

  pub run_length : (fs : List ℕ) (v w : List ℤ) → Ends formula reads fs v w → length w ≡ length v
  unfolding run
  run_length [] v w e = ap (λ (r : Run). length r.values) (sym e)
  run_length (f ∷ fs) v w e =
      let s = first_step f fs v w e in
      run_length fs (set v f s.value) w s.onwards ∙ length-set v f s.value
