-- What a panel of flows holds: both fields of a flow, by half their number (`member_both`), its setters and links, and no loop, since a link that
-- sets 2j + 1 reads only 2j and a stay reads nothing (`reads_flow`).
use Prim.Native.Nat.{ℕ, suc, ◌+◌, ◌*◌, ◌/◌, ◌%◌, ◌≤◌, ◌<◌}
use mathlib.Core.Path.{◌≡◌, refl, sym, ap, ◌∙◌}
use mathlib.Core.Bool.{Bool, true, false, ◌&&◌, ◌||◌, cond, and-false, or-false}
use mathlib.Core.Logic.{◌≢◌}
use mathlib.Core.List.{List, [], ◌∷◌}
use native.Mathlib.Decide.{ℕ_discrete}
use native.Mathlib.Omega.{arith}
use borrow.Author.Tests.{lt-ltb, le-ltb, eq-eqb, ne_eqb, eqb-true}
use lib.Dec.{eqb, ltb}
use lib.ListN.{length}
use Rattle.fieldset.specs.Tables.{at}
use Rattle.fieldset.specs.Fields.{member, only, without, size}
use Rattle.fieldset.proofs.Tests.{and_left, and_right}
use Rattle.fieldset.proofs.Numbers.{clash, ltb_suc}
use Rattle.fieldset.proofs.Fields.{ext_member, member_empty, member_only, member_with, with_lt, only_lt, without_cases, size_empty, size_with, size_without, without_only}
use Rattle.fieldset.proofs.Tables.{length_tabulate, get_d_tabulate}
use Rattle.ordering.proofs.Loops.{ranked_no_loop}
use Rattle.panel.specs.declared.Link.{Link}
use Rattle.panel.specs.Items.{link, no_link, link_at, setter_of}
use Rattle.panel.specs.Solution.{setter_reads, is_looped}
use Rattle.panel.specs.Commands.{field_of, is_output, has_bit6, any_of, fields_in}
use Rattle.panel.proofs.Reversed.{number_setter, setter_stay}
use Rattle.panel.proofs.Checks.{fields_lt, member_fields}
use Rattle.importing.specs.Imports.{per_minute, per_second, output_byte}
use Rattle.imported.specs.Imported.{both_of, flow_link, flow_setter, flow_panel}

-- ---- both fields of a flow

member_pair : (i u : ℕ) → u < 64 → member (both_of i) u ≡ (eqb u (per_minute i) || eqb u (per_second i))
member_pair i u l = member_with (only (per_minute i)) (per_second i) u l ∙ rw (member_only (per_minute i) u l)

pub member_both : (i u : ℕ) → u < 64 → member (both_of i) u ≡ eqb (u / 2) i
member_both i u l = member_pair i u l ∙ go (ℕ_discrete u (2 * i)) (ℕ_discrete u (2 * i + 1))
  where
    go : Dec (u ≡ 2 * i) → Dec (u ≡ 2 * i + 1) → (eqb u (2 * i) || eqb u (2 * i + 1)) ≡ eqb (u / 2) i
    go (yes d) e = rw (eq-eqb u (2 * i) d, eq-eqb (u / 2) i (omega arith))
    go (no d) (yes e) = rw (ne_eqb u (2 * i) d, eq-eqb u (2 * i + 1) e, eq-eqb (u / 2) i (omega arith))
    go (no d) (no e) = rw (ne_eqb u (2 * i) d, ne_eqb u (2 * i + 1) e, ne_eqb (u / 2) i (λ h. omega arith))

pub size_only : (f : ℕ) → f < 64 → size (only f) ≡ 1
size_only f l =
    let one : size (without (only f) f) + 1 ≡ size (only f) = size_without (only f) (only_lt f) f (member_only f f l ∙ eq-eqb f f refl) in
    omega (arith, one, ap size (without_only f), size_empty)

pub size_both : (i : ℕ) → i < 32 → size (both_of i) ≡ 2
size_both i l =
    let f = per_minute i in
    let apart : member (only f) (per_second i) ≡ false = member_only f (per_second i) (omega arith) ∙ ne_eqb (per_second i) f (λ e. omega arith) in
    omega (arith, size_with (only f) (per_second i) (omega arith) apart, size_only f (omega arith))

-- the byte of an output
module _ (f : ℕ) (l : f < 64) where
  pub byte_field : field_of (output_byte f) ≡ f
  byte_field = omega arith

  pub byte_output : is_output (output_byte f) ≡ true
  byte_output = let e : (128 + f) / 128 % 2 ≡ 1 = omega arith in eq-eqb ((128 + f) / 128 % 2) 1 e

  pub byte_frame : has_bit6 (output_byte f) ≡ false
  byte_frame = let e : (128 + f) / 64 % 2 ≡ 0 = omega arith in ne_eqb ((128 + f) / 64 % 2) 1 (λ d. omega arith)

-- the field bytes of an add give both
abbrev pub flow_bytes : ℕ → List ℕ
flow_bytes i = output_byte (per_minute i) ∷ output_byte (per_second i) ∷ []

pub fields_both : (q : ℕ → Bool) (i : ℕ) → i < 32 → q (output_byte (per_minute i)) ≡ true → q (output_byte (per_second i)) ≡ true
    → fields_in q (flow_bytes i) ≡ both_of i
unfolding any_of
fields_both q i l a b =
    let m : per_minute i < 64 = omega arith in
    let s : per_second i < 64 = omega arith in
    ext_member 64 (fields_in q (flow_bytes i)) (both_of i) (fields_lt q (flow_bytes i)) (with_lt (only (per_minute i)) (per_second i))
    (λ u k. member_fields q (flow_bytes i) u k ∙ simp (a, b, byte_field, or-false) (sym (member_pair i u k)))

-- ---- the setters

-- before its link is there, a flow's fields are set by their stays
pub setter_before : (i f : ℕ) → i ≤ f / 2 → flow_setter i f ≡ 128
setter_before i f l = simp (le-ltb (f / 2) i l, and-false)

pub setter_new : (i : ℕ) → flow_setter (suc i) (per_second i) ≡ i
setter_new i =
    let half : (2 * i + 1) / 2 ≡ i = omega arith in
    let odd : (2 * i + 1) % 2 ≡ 1 = omega arith in
    rw (half, odd, lt-ltb i (suc i) (omega arith))

pub setter_kept : (i f : ℕ) → f ≢ per_second i → flow_setter i f ≡ flow_setter (suc i) f
setter_kept i f d = go (ℕ_discrete (f / 2) i)
  where
    go : Dec (f / 2 ≡ i) → flow_setter i f ≡ flow_setter (suc i) f
    go (yes e) = rw (ne_eqb (f % 2) 1 (λ h. d (omega arith)))
    go (no e) = rw (ltb_suc (f / 2) i e)

-- ---- a panel's tables

-- the link of a number where the first i links are there
abbrev pub link_of : ℕ → ℕ → Link
link_of i j = cond (ltb j i) (flow_link j) no_link

module _ (k i : ℕ) where
  pub flow_size : (flow_panel k i).size ≡ 2 * k
  unfolding flow_panel
  flow_size = refl

  pub setter_at : (f : ℕ) → f < 64 → at (flow_panel k i).setter f ≡ flow_setter i f
  unfolding flow_panel
  setter_at f l = get_d_tabulate (flow_setter i) 64 f 0 l

  pub place_at : (f : ℕ) → f < 64 → at (flow_panel k i).place f ≡ f
  unfolding flow_panel
  place_at f l = get_d_tabulate (λ (f : ℕ). f) 64 f 0 l

  pub link_at_lem : (j : ℕ) → j < 128 → link_at (flow_panel k i).links j ≡ link_of i j
  unfolding flow_panel
  link_at_lem j l = get_d_tabulate (link_of i) 128 j no_link l

  pub links_length : length (flow_panel k i).links ≡ 128
  unfolding flow_panel
  links_length = length_tabulate (link_of i) 128

  -- ---- what is read, and no loop

  -- the field per second reads the field per minute, and there are no other reads
  pub reads_flow : (g f : ℕ) → g < 64 → f < 64 → member (setter_reads (flow_panel k i) g) f ≡ true → (f % 2 ≡ 0) × (g ≡ f + 1)
  reads_flow g f lg lf m = go (eqb (g % 2) 1 && ltb (g / 2) i) refl
    where
      go : (b : Bool) → (eqb (g % 2) 1 && ltb (g / 2) i) ≡ b → (f % 2 ≡ 0) × (g ≡ f + 1)
      go true e =
          let odd = eqb-true (g % 2) 1 (and_left (eqb (g % 2) 1) (ltb (g / 2) i) e) in
          let in_use = and_right (eqb (g % 2) 1) (ltb (g / 2) i) e in
          let setter : setter_of (flow_panel k i).setter g ≡ link (g / 2) = number_setter _ g (g / 2) (setter_at g lg ∙ rw e) (omega arith) in
          let there : link_at (flow_panel k i).links (g / 2) ≡ flow_link (g / 2) = link_at_lem (g / 2) (omega arith) ∙ rw in_use in
          let (both, apart) = without_cases (both_of (g / 2)) g f lf (rw (setter, there) at m) in
          let same = eqb-true (f / 2) (g / 2) (sym (member_both (g / 2) f lf) ∙ both) in
          (omega arith, omega arith)
      go false e =
          let h : at (flow_panel k i).setter g ≡ 128 = setter_at g lg ∙ rw e in
          absurd (clash (rw (setter_stay (flow_panel k i).setter g (omega arith)) at m) (member_empty f))

  pub no_loop : k ≤ 32 → is_looped (flow_panel k i) ≡ false
  unfolding is_looped flow_panel
  no_loop few =
      ranked_no_loop (setter_reads (flow_panel k i)) (2 * k) (λ f. f)
      (record { few = omega arith; inside = λ g f lg lf m. omega (arith, (reads_flow g f (omega arith) lf m).1) })
      (record { falls = λ v u lv lu m. omega (arith, (reads_flow v u (omega arith) (omega arith) m).1); small = λ f l. l })
