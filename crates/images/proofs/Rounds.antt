-- The lines of a formed panel's text enter that panel. Assumes nothing.
use Prim.Native.Nat.{ℕ, zero, suc, ◌+◌, ◌≤◌, ◌<◌}
use mathlib.Core.Path.{◌≡◌, refl, sym, ap, ap₂, ◌∙◌}
use mathlib.Core.Logic.{◌≢◌, inl, inr}
use mathlib.Core.Bool.{Bool, true, false, cond}
use mathlib.Core.List.{List, [], ◌∷◌, ◌++◌}
use native.Mathlib.Omega.{arith}
use lib.Dec.{eqb}
use lib.IntN.{ℤ, pos}
use lib.ListN.{take, set, replicate}
use lib.Seq.{take_all}
use borrow.Author.Tests.{ne_eqb, eqb-true}
use Rattle.std.specs.Prelude.{Some, None}
use Rattle.fieldset.specs.Tables.{at, tabulate}
use Rattle.fieldset.specs.Fields.{size}
use Rattle.fieldset.proofs.Tables.{length_tabulate}
use Rattle.fieldset.proofs.Numbers.{clash, Lowest, lowest_is}
use Rattle.panel.specs.declared.Standing.{Standing}
use Rattle.panel.specs.declared.Standing.TheVariants.{Waiting, Holding}
use Rattle.panel.specs.declared.Link.{Link}
use Rattle.panel.specs.Items.{no_link, link_at}
use Rattle.panel.specs.Panels.{opened}
use Rattle.panel.specs.Commands.{covered_in, outputs_in}
use Rattle.values.specs.Limits.{value_at}
use Rattle.values.specs.Words.{value_of, bits_of}
use Rattle.values.proofs.Words.{value_bits, bits_small}
use Rattle.formulas.specs.Formulas.{Rule}
use Rattle.formulas.specs.declared.Formula.TheVariants.{Ratio, Sum}
use Rattle.formulas.proofs.Accepting.{ratio_terms, sum_accepted}
use Rattle.sheet.specs.Legal.{Fits}
use Rattle.fieldset.proofs.Lists.{all_append}
use Rattle.sheet.specs.declared.Sheet.{Sheet}
use Rattle.images.specs.Images.{gather, field_bytes, standing_byte, link_frame, link_piece, formula_frames, formula_piece, four_bytes, value_piece, field_at, stay_order, frames_of, image_of}
use Rattle.images.specs.Entries.{standing_of, placed, entered, folded, entered_all, candidate}
use Rattle.sheet.specs.Sheets.{unopened, formula_at}
use Rattle.frames.specs.Frames.{word_of}
use Rattle.images.specs.Forms.{is_formed}
use Rattle.images.proofs.Lines.{Bytes, Frames, all_gather, frames_written, formula_back}
use Rattle.images.proofs.Folds.{folded_append, folded_gather}
use Rattle.images.proofs.FieldBytes.{covered_back, outputs_back, field_bytes_lem, field_count}
use Rattle.images.proofs.Cuts.{cut, cut_none, cut_all, cut_keep, cut_more, cut_setter, setter_none, setter_all, setter_keep, setter_more, places_back}
use Rattle.images.proofs.Facts.{Facts, zero_value, formed_facts}

-- ---- entering many lines

entered_append : (s : Sheet) (a b : List (List ℕ)) → entered_all s (a ++ b) ≡ entered_all (entered_all s a) b
unfolding entered_all
entered_append = folded_append entered

entered_gather : (S : ℕ → Sheet) (f : ℕ → List (List ℕ)) (n : ℕ) → ((i : ℕ) → i < n → entered_all (S i) (f i) ≡ S (suc i)) → entered_all (S 0) (gather f n) ≡ S n
unfolding entered_all
entered_gather S f n h =
    folded_gather entered (λ i s. s ≡ S i) f n (λ i l s e. ap (λ (x : Sheet). folded entered x (f i)) e ∙ h i l) (S 0) refl

abbrev stage : ℕ → List Link → List ℕ → List ℕ → List Rule → List ℤ → Sheet
stage n links place setter rules values = record {
  panel = record { size = n; links = links; place = place; setter = setter };
  formulas = rules;
  values = values;
}

link_is : (l : Link) (c o : ℕ) (u : Bool) (st : Standing) → c ≡ l.covered → o ≡ l.outputs → u ≡ l.used → st ≡ l.standing
    → ◌≡◌ {A = Link} (record { covered = c; outputs = o; level = l.level; used = u; standing = st }) l
link_is l c o u st ec eo eu es = rw (ec, eo, eu, es)

module _ (s : Sheet) (F : Facts s) where
  abbrev links : List Link
  links = s.panel.links

  abbrev setter : List ℕ
  setter = s.panel.setter

  abbrev rules : List Rule
  rules = s.formulas

  abbrev values : List ℤ
  values = s.values

  abbrev n : ℕ
  n = s.panel.size

  -- ---- links

  not_set : (i f : ℕ) → i < 128 → f < 64 → ((link_at links i).used ≡ true → (link_at links i).standing ≡ Holding f → ⊥) → at setter f ≢ i
  not_set i f l h none e =
      let k : at setter f < 128 = omega arith in
      let S = F.setter_sets f h k in
      none (rw e at S.used) (rw e at S.holding)

  -- the setters after link i
  setters_on : (i : ℕ) → i < 128 → (st : Standing) → (link_at links i).standing ≡ st
      → cond (eqb (standing_byte st) 0xFF) (cut_setter setter i) (set (cut_setter setter i) (standing_byte st) i) ≡ cut_setter setter (suc i)
  setters_on i l Waiting e = setter_keep setter i (λ f h. not_set i f l h (λ u q. let z : ◌≡◌ {A = ℕ} 0 1 = cc in omega arith))
  setters_on i l (Holding f) e =
      let H = F.holding i f l e in
      rw (ne_eqb f 255 (λ q. omega (arith, H.field)))
      (setter_more setter i f H.field H.sets (λ g h d. not_set i g l h (λ u q. let z : g ≡ f = cc in d z)))

  standing_back : (i : ℕ) → i < 128 → (st : Standing) → (link_at links i).standing ≡ st → standing_of (standing_byte st) ≡ st
  standing_back i l Waiting e = refl
  standing_back i l (Holding f) e = rw (ne_eqb f 255 (λ q. omega (arith, (F.holding i f l e).field)))

  link_on : (place : List ℕ) (r : List Rule) (v : List ℤ) (i : ℕ) → i < 128
      → entered_all (stage n (cut no_link links 128 i) place (cut_setter setter i) r v) (link_piece links i)
      ≡ stage n (cut no_link links 128 (suc i)) place (cut_setter setter (suc i)) r v
  unfolding entered_all entered
  link_on place r v i l = go (link_at links i).used refl
    where
      eight : size (link_at links i).covered ≤ 8 → take 8 (field_bytes (link_at links i).covered (link_at links i).outputs) ≡ field_bytes (link_at links i).covered (link_at links i).outputs
      eight h = take_all 8 _ (omega (arith, field_count (link_at links i).covered (link_at links i).outputs))

      go : (b : Bool) → (link_at links i).used ≡ b
          → entered_all (stage n (cut no_link links 128 i) place (cut_setter setter i) r v)
          (cond b (link_frame i (link_at links i) ∷ []) [])
          ≡ stage n (cut no_link links 128 (suc i)) place (cut_setter setter (suc i)) r v
      go true u =
          let f = F.formed i l u in
          ap₂ (λ (x : List Link) (y : List ℕ). stage n x place y r v)
          (ap (set (cut no_link links 128 i) i)
          (link_is (link_at links i) _ _ true _ (ap covered_in (eight f.few) ∙ covered_back _ (link_at links i).outputs f.small) (ap outputs_in (eight f.few) ∙ outputs_back (link_at links i).covered _ f.outputs_small f.subset) (sym u)
          (standing_back i l (link_at links i).standing refl))
          ∙ cut_more no_link links 128 i l)
          (setters_on i l (link_at links i).standing refl)
      go false u =
          ap₂ (λ (x : List Link) (y : List ℕ). stage n x place y r v) (cut_keep no_link links 128 i (F.unused i l u))
          (setter_keep setter i (λ f h. not_set i f l h (λ t q. clash t u)))

  -- ---- formulas

  rule_on : (L : List Link) (place set' : List ℕ) (v : List ℤ) (i : ℕ) → i < 128
      → entered_all (stage n L place set' (cut None rules 128 i) v) (formula_piece s.formulas i) ≡ stage n L place set' (cut None rules 128 (suc i)) v
  unfolding entered_all entered
  rule_on L place set' v i l = go (formula_at s.formulas i) refl
    where
      -- the formula that a line gives is the link's
      done : (x r : Rule) → x ≡ r → formula_at s.formulas i ≡ r
          → stage n L place set' (set (cut None rules 128 i) i x) v ≡ stage n L place set' (cut None rules 128 (suc i)) v
      done x r e t =
          let same : x ≡ formula_at s.formulas i = e ∙ sym t in
          ap (λ (y : List Rule). stage n L place set' y v)
          (ap (set (cut None rules 128 i) i) same ∙ cut_more None rules 128 i l)

      go : (r : Rule) → formula_at s.formulas i ≡ r
          → entered_all (stage n L place set' (cut None rules 128 i) v) (formula_frames i r) ≡ stage n L place set' (cut None rules 128 (suc i)) v
      go None t = ap (λ (y : List Rule). stage n L place set' y v) (cut_keep None rules 128 i t)
      go (Some (Ratio p q)) t = done _ (Some (Ratio p q)) (formula_back (Some (Ratio p q))) t
      go (Some (Sum f)) t = done _ (Some (Sum f)) (formula_back (Some (Sum f))) t

  -- ---- values

  value_on : (L : List Link) (place set' : List ℕ) (r : List Rule) (f : ℕ) → f < 64
      → entered_all (stage n L place set' r (cut (pos 0) values 64 f)) (value_piece values f) ≡ stage n L place set' r (cut (pos 0) values 64 (suc f))
  unfolding entered_all entered
  value_on L place set' r f l = go (eqb (bits_of (value_at values f)) 0) refl
    where
      word : (b : ℕ) → word_of (four_bytes b) ≡ b
      word b = omega arith

      go : (t : Bool) → eqb (bits_of (value_at values f)) 0 ≡ t
          → entered_all (stage n L place set' r (cut (pos 0) values 64 f))
          (cond t [] ((0x0D ∷ f ∷ four_bytes (bits_of (value_at values f))) ∷ []))
          ≡ stage n L place set' r (cut (pos 0) values 64 (suc f))
      go true e =
          ap (λ (y : List ℤ). stage n L place set' r y)
          (cut_keep (pos 0) values 64 f (zero_value (value_at values f) (F.value_fits f l) (eqb-true (bits_of (value_at values f)) 0 e)))
      go false e =
          ap (λ (y : List ℤ). stage n L place set' r y)
          (ap (λ (z : ℤ). set (cut (pos 0) values 64 f) f z) (ap value_of (word (bits_of (value_at values f))) ∙ value_bits (value_at values f) (F.value_fits f l))
          ∙ cut_more (pos 0) values 64 f l)

  -- ---- the whole

  start : stage n (replicate 128 no_link) s.panel.place (replicate 64 128) (replicate 128 None) (replicate 64 (pos 0))
      ≡ stage n (cut no_link links 128 0) s.panel.place (cut_setter setter 0) (cut None rules 128 0) (cut (pos 0) values 64 0)
  start = rw (cut_none no_link links 128, setter_none setter, cut_none None rules 128, cut_none (pos 0) values 64)

  end : stage n (cut no_link links 128 128) s.panel.place (cut_setter setter 128) (cut None rules 128 128) (cut (pos 0) values 64 n) ≡ s
  end = rw (
    cut_all no_link links 128 128 F.links_long (λ j h k. absurd (omega arith)),
    setter_all setter F.setter_long F.setter_small,
    cut_all None rules 128 128 F.rules_long (λ j h k. absurd (omega arith)),
    cut_all (pos 0) values 64 n F.values_long (λ j h k. F.value_past j h k),
  )

  opening : (version : ℕ) → entered (entered unopened (0x0A ∷ version ∷ n ∷ [])) (0x0B ∷ stay_order s.panel.place n)
      ≡ stage n (replicate 128 no_link) (placed (tabulate (λ f. f) 64) 0 (stay_order s.panel.place n)) (replicate 64 128) (replicate 128 None) (replicate 64 (pos 0))
  unfolding entered opened stay_order
  opening version =
      ap (λ (x : List ℕ). stage n (replicate 128 no_link) (placed (tabulate (λ f. f) 64) 0 x) (replicate 64 128) (replicate 128 None) (replicate 64 (pos 0)))
      (take_all 64 (tabulate (field_at s.panel.place n) n) (omega (arith, length_tabulate (field_at s.panel.place n) n, F.few)))

  pub entered_frames : (version : ℕ) → entered_all unopened (frames_of version s) ≡ s
  unfolding entered_all frames_of
  entered_frames version =
      let P = gather (link_piece links) 128 in
      let R = gather (formula_piece s.formulas) 128 in
      let Q = gather (value_piece values) n in
      ap (λ (x : Sheet). entered_all x (P ++ (R ++ Q)))
      (opening version
      ∙ ap (λ (x : List ℕ). stage n (replicate 128 no_link) x (replicate 64 128) (replicate 128 None) (replicate 64 (pos 0)))
      (places_back s.panel.place n F.few F.place_first F.place_long F.place_small F.place_past)
      ∙ start)
      ∙ entered_append _ P (R ++ Q)
      ∙ ap (λ (x : Sheet). entered_all x (R ++ Q))
      (entered_gather (λ i. stage n (cut no_link links 128 i) s.panel.place (cut_setter setter i) (cut None rules 128 0) (cut (pos 0) values 64 0)) (link_piece links) 128
      (λ i l. link_on s.panel.place (cut None rules 128 0) (cut (pos 0) values 64 0) i l))
      ∙ entered_append _ R Q
      ∙ ap (λ (x : Sheet). entered_all x Q)
      (entered_gather (λ i. stage n (cut no_link links 128 128) s.panel.place (cut_setter setter 128) (cut None rules 128 i) (cut (pos 0) values 64 0)) (formula_piece s.formulas) 128
      (λ i l. rule_on (cut no_link links 128 128) s.panel.place (cut_setter setter 128) (cut (pos 0) values 64 0) i l))
      ∙ entered_gather (λ i. stage n (cut no_link links 128 128) s.panel.place (cut_setter setter 128) (cut None rules 128 128) (cut (pos 0) values 64 i)) (value_piece values) n
      (λ i l. value_on (cut no_link links 128 128) s.panel.place (cut_setter setter 128) (cut None rules 128 128) i (omega (arith, F.few)))
      ∙ end

  -- ---- they are bytes

  bytes_order : (m : ℕ) → Bytes (tabulate (field_at s.panel.place n) m)
  unfolding tabulate field_at
  bytes_order zero = tt
  bytes_order (suc m) =
      all_append (λ b. b < 256) (tabulate (field_at s.panel.place n) m) _ (bytes_order m)
      (small (field_at s.panel.place n m) (lowest_is (λ f. eqb (at s.panel.place f) m) n 64), tt)
    where
      small : (g : ℕ) → Lowest (λ f. eqb (at s.panel.place f) m) n 64 g → g < 256
      small g (inl h) = omega (arith, h.0, F.few)
      small g (inr h) = omega (arith, h.0)

  bytes_link : (i : ℕ) → i < 128 → Frames (link_piece links i)
  bytes_link i l = go (link_at links i).used refl
    where
      standing_small : (st : Standing) → (link_at links i).standing ≡ st → standing_byte st < 256
      standing_small Waiting e = omega arith
      standing_small (Holding f) e = omega (arith, (F.holding i f l e).field)

      go : (b : Bool) → (link_at links i).used ≡ b → Frames (cond b (link_frame i (link_at links i) ∷ []) [])
      go true u =
          ((omega arith, (omega arith, (omega (arith, (F.formed i l u).level), (standing_small (link_at links i).standing refl, field_bytes_lem (link_at links i).covered (link_at links i).outputs)))), tt)
      go false u = tt

  bytes_rule : (i : ℕ) → i < 128 → Frames (formula_piece s.formulas i)
  bytes_rule i l = go (formula_at s.formulas i) (F.fits i l)
    where
      go : (r : Rule) → Fits r (link_at links i) → Frames (formula_frames i r)
      go None h = tt
      go (Some (Ratio p q)) (inl e) = absurd (let z : ◌≡◌ {A = ℕ} 0 1 = cc in omega arith)
      go (Some (Ratio p q)) (inr (u, a)) =
          let t = ratio_terms p q (link_at links i).covered a in
          ((omega arith, (omega arith, (omega arith, (omega (arith, t.0), (omega arith, (omega (arith, t.1), (omega arith, tt))))))), tt)
      go (Some (Sum f)) (inl e) = absurd (let z : ◌≡◌ {A = ℕ} 0 1 = cc in omega arith)
      go (Some (Sum f)) (inr (u, a)) = ((omega arith, (omega arith, (omega arith, (omega (arith, (sum_accepted f (link_at links i).covered a).0), tt)))), tt)

  bytes_value : (f : ℕ) → f < n → Frames (value_piece values f)
  bytes_value f l = go (eqb (bits_of (value_at values f)) 0) (bits_of (value_at values f)) (bits_small (value_at values f) (F.value_fits f (omega (arith, F.few))))
    where
      go : (t : Bool) (b : ℕ) → b < 4294967296 → Frames (cond t [] ((0x0D ∷ f ∷ four_bytes b) ∷ []))
      go true b h = tt
      go false b h = ((omega arith, (omega (arith, F.few), (omega arith, (omega arith, (omega arith, (omega arith, tt)))))), tt)

  pub frames_bytes : (version : ℕ) → version < 256 → Frames (frames_of version s)
  unfolding frames_of stay_order
  frames_bytes version h = (
    (omega arith, (h, (omega (arith, F.few), tt))),
    (
      (omega arith, bytes_order n),
      all_append Bytes (gather (link_piece links) 128) (gather (formula_piece s.formulas) 128 ++ gather (value_piece values) n) (all_gather Bytes (link_piece links) 128 bytes_link)
          (all_append Bytes (gather (formula_piece s.formulas) 128) (gather (value_piece values) n) (all_gather Bytes (formula_piece s.formulas) 128 bytes_rule) (all_gather Bytes (value_piece values) n bytes_value)),
    ),
  )

-- the text of a formed panel gives this panel back
pub candidate_image : (version : ℕ) (s : Sheet) → version < 256 → is_formed s ≡ true → candidate (image_of version s) ≡ s
unfolding candidate image_of
candidate_image version s h e =
    let F = formed_facts s e in
    ap (entered_all unopened) (frames_written (frames_of version s) (frames_bytes s F version h)) ∙ entered_frames s F version
