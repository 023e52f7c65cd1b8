-- The longest text of a panel. Assumes nothing.
use Prim.Native.Nat.{ℕ, zero, suc, ◌+◌, ◌*◌, ◌≤◌, ◌<◌}
use mathlib.Core.Path.{◌≡◌, refl, ap, ◌∙◌}
use mathlib.Core.Bool.{Bool, true, false, cond}
use mathlib.Core.Logic.{inl, inr}
use mathlib.Core.List.{List, [], ◌∷◌, ◌++◌}
use native.Mathlib.Omega.{arith}
use native.Mathlib.Nat.{mul-suc}
use lib.Dec.{eqb}
use lib.ListN.{length, length-append}
use Rattle.std.specs.Prelude.{Some, None}
use Rattle.fieldset.specs.Tables.{tabulate}
use Rattle.fieldset.proofs.Tables.{length_tabulate}
use Rattle.panel.specs.Items.{link_at}
use Rattle.hexadecimal.specs.Hex.{line_of}
use Rattle.hexadecimal.proofs.Bytes.{length_line}
use Rattle.frames.specs.Texts.{written}
use Rattle.frames.proofs.Outputs.{written_append}
use Rattle.values.specs.Limits.{value_at}
use Rattle.values.specs.Words.{bits_of}
use Rattle.panel.specs.declared.Link.{Link}
use Rattle.panel.specs.Legal.{Formed}
use Rattle.fieldset.specs.Fields.{size}
use Rattle.formulas.specs.Formulas.{Rule}
use Rattle.formulas.specs.declared.Formula.TheVariants.{Ratio, Sum}
use Rattle.formulas.proofs.Accepting.{ratio_accepted}
use Rattle.frames.specs.Frames.{formula_bytes}
use Rattle.sheet.specs.declared.Sheet.{Sheet}
use Rattle.sheet.specs.Sheets.{formula_at}
use Rattle.sheet.specs.Legal.{Fits, LegalSheet}
use Rattle.images.specs.Images.{gather, field_at, link_frame, link_frames, link_piece, formula_frames, formula_piece, four_bytes, value_piece, stay_order, frames_of, image_of}
use Rattle.images.specs.Reading.{longest}
use Rattle.images.specs.Forms.{is_formed}
use Rattle.images.proofs.FieldBytes.{field_count}
use Rattle.images.proofs.Facts.{formed_facts}

written_length : (a b : List (List ℕ)) → length (written (a ++ b)) ≡ length (written a) + length (written b)
written_length a b = ap length (written_append a b) ∙ length-append (written a) (written b)

-- of two gathered texts, so much for each number
gather_both : (f g : ℕ → List (List ℕ)) (k n : ℕ) → ((i : ℕ) → i < n → length (written (f i)) + length (written (g i)) ≤ k)
    → length (written (gather f n)) + length (written (gather g n)) ≤ k * n
unfolding gather written
gather_both f g k zero h = omega arith
gather_both f g k (suc n) h =
    let ih = gather_both f g k n (λ i l. h i (omega arith)) in
    let more = h n (omega arith) in
    omega (arith, written_length (gather f n) (f n), written_length (gather g n) (g n), mul-suc k n)

-- of one
gather_length : (f : ℕ → List (List ℕ)) (k n : ℕ) → ((i : ℕ) → i < n → length (written (f i)) ≤ k) → length (written (gather f n)) ≤ k * n
unfolding written
gather_length f k n h = omega (arith, gather_both f (λ i. []) k n (λ i l. omega (arith, h i l)))

one_line : (b : List ℕ) (k : ℕ) → length b ≤ k → length (written (b ∷ [])) ≤ 2 * k + 1
unfolding written
one_line b k h = omega (arith, length-append (line_of b) [], length_line b)

module _ (s : Sheet) (few : s.panel.size ≤ 64)
    (formed : (i : ℕ) → i < 128 → (link_at s.panel.links i).used ≡ true → Formed s.panel.size (link_at s.panel.links i))
    (fits : (i : ℕ) → i < 128 → Fits (formula_at s.formulas i) (link_at s.panel.links i)) where
  -- a link's line and its formula's: a link of eight fields can have a sum, one of two a ratio
  link_length : (i : ℕ) → i < 128 → length (written (link_piece s.panel.links i)) + length (written (formula_piece s.formulas i)) ≤ 34
  unfolding written
  link_length i l = go (link_at s.panel.links i) (formed i l) (formula_at s.formulas i) (fits i l)
    where
      line : (k : Link) → length (written (link_frame i k ∷ [])) ≡ 9 + 2 * size k.covered
      line k = omega (arith, length-append (line_of (link_frame i k)) [], length_line (link_frame i k), field_count k.covered k.outputs)

      none : (k : Link) → (k.used ≡ true → Formed s.panel.size k) → length (written (link_frames i k)) ≤ 25
      none k f = go k.used refl
        where
          go : (b : Bool) → k.used ≡ b → length (written (cond b (link_frame i k ∷ []) [])) ≤ 25
          go true u = omega (arith, line k, (f u).few)
          go false u = omega arith

      go : (k : Link) → (k.used ≡ true → Formed s.panel.size k) → (r : Rule) → Fits r k
          → length (written (link_frames i k)) + length (written (formula_frames i r)) ≤ 34
      go k f None h = omega (arith, none k f)
      go k f (Some (Ratio p q)) (inl e) = absurd (let z : ◌≡◌ {A = ℕ} 0 1 = cc in omega arith)
      go k f (Some (Ratio p q)) (inr (u, a)) =
          rw u (omega (arith, line k, (ratio_accepted p q k.covered a).1.1, one_line (0x08 ∷ i ∷ formula_bytes (Some (Ratio p q))) 7 (omega arith)))
      go k f (Some (Sum g)) (inl e) = absurd (let z : ◌≡◌ {A = ℕ} 0 1 = cc in omega arith)
      go k f (Some (Sum g)) (inr (u, a)) = rw u (omega (arith, line k, (f u).few, one_line (0x08 ∷ i ∷ formula_bytes (Some (Sum g))) 4 (omega arith)))

  value_length : (f : ℕ) → f < s.panel.size → length (written (value_piece s.values f)) ≤ 13
  unfolding written
  value_length f l = go (eqb (bits_of (value_at s.values f)) 0) (bits_of (value_at s.values f))
    where
      go : (t : Bool) (b : ℕ) → length (written (cond t [] ((0x0D ∷ f ∷ four_bytes b) ∷ []))) ≤ 13
      go true b = omega arith
      go false b = one_line (0x0D ∷ f ∷ four_bytes b) 6 (omega arith)

  long : (version : ℕ) → length (image_of version s) ≤ longest
  unfolding image_of frames_of stay_order
  long version =
      let links : List (List ℕ) = gather (link_piece s.panel.links) 128 in
      let formulas : List (List ℕ) = gather (formula_piece s.formulas) 128 in
      let values : List (List ℕ) = gather (value_piece s.values) s.panel.size in
      let order : List ℕ = 0x0B ∷ tabulate (field_at s.panel.place s.panel.size) s.panel.size in
      let first : List ℕ = 0x0A ∷ version ∷ s.panel.size ∷ [] in
      omega (
        arith,
        written_length (first ∷ []) (order ∷ (links ++ (formulas ++ values))),
        written_length (order ∷ []) (links ++ (formulas ++ values)),
        written_length links (formulas ++ values),
        written_length formulas values,
        one_line first 3 (omega arith),
        one_line order (1 + s.panel.size) (omega (arith, length_tabulate (field_at s.panel.place s.panel.size) s.panel.size)),
        few,
        gather_both (link_piece s.panel.links) (formula_piece s.formulas) 34 128 link_length,
        gather_length (value_piece s.values) 13 s.panel.size value_length,
      )

pub image_length : (version : ℕ) (s : Sheet) → is_formed s ≡ true → length (image_of version s) ≤ longest
image_length version s e = let F = formed_facts s e in long s F.few F.formed F.fits version

-- the same of a legal sheet, also of an unopened one
pub legal_length : (version : ℕ) (s : Sheet) → LegalSheet s → length (image_of version s) ≤ longest
legal_length version s L = long s L.panel.few L.panel.formed (λ i l. L.fits i) version
