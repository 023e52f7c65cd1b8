-- `saving::write` meets its contract: its five parts, one behind the other, none so long that a position does not fit.
use Prim.Native.Nat.{ℕ, ◌≤◌, ◌+◌}
use mathlib.Core.Path.{◌≡◌}
use mathlib.Core.List.{[], ◌∷◌}
use lib.ListN.{length}
use native.Mathlib.Omega.{arith}
use Rattle.frames.specs.Texts.{written}
use Rattle.sheet.specs.declared.Sheet.{Sheet}
use Rattle.hexadecimal.specs.Hex.{line_of}
use Rattle.hexadecimal.proofs.Bytes.{length_line}
use Rattle.images.specs.Images.{stay_order, link_piece, formula_piece}
use Rattle.saving.proofs.Writing.{lines_to, order_length, lines_short, link_short, formula_short, image_written}
use Rattle.saving.proofs.write.Goals as goal

-- ---- how far the line of the size, the order, the links and the formulas are

module _ (v : ℕ) (s : Sheet) (within : s.panel.size ≤ 64) (p : ℕ) (size : p ≡ 0 + length (line_of (0x0A ∷ v ∷ s.panel.size ∷ []))) where
  size_near : p ≤ 7
  size_near = omega (arith, length_line (0x0A ∷ v ∷ s.panel.size ∷ []))

  module _ (q : ℕ) (order : q ≡ p + length (written ((0x0B ∷ stay_order s.panel.place s.panel.size) ∷ []))) where
    order_near : q ≤ 138
    order_near = omega (arith, size_near, order_length s.panel.place s.panel.size)

    module _ (r : ℕ) (links : r ≡ q + length (lines_to (link_piece s.panel.links) 128)) where
      links_near : r ≤ 17674
      links_near = omega (arith, order_near, lines_short (link_piece s.panel.links) 137 (link_short s.panel.links) 128)

      formulas_near : (t : ℕ) → t ≡ r + length (lines_to (formula_piece s.formulas) 128) → t ≤ 19594
      formulas_near t formulas = omega (arith, links_near, lines_short (formula_piece s.formulas) 15 (formula_short s.formulas) 128)

-- ---- the goals

pub put_order-b-requires : goal.put_order-b-requires
put_order-b-requires c =
    let a = c.args in
    (omega (arith, size_near a.version a.s.now c.requires _ c.put_line-a.ensures.value), c.requires)

pub put_links-c-requires : goal.put_links-c-requires
put_links-c-requires c =
    let a = c.args in
    omega (arith, order_near a.version a.s.now c.requires _ c.put_line-a.ensures.value _ c.put_order-b.ensures.position)

pub put_formulas-d-requires : goal.put_formulas-d-requires
put_formulas-d-requires c =
    let a = c.args in
    omega (arith, links_near a.version a.s.now c.requires _ c.put_line-a.ensures.value _ c.put_order-b.ensures.position _ c.put_links-c.ensures.position)

pub put_values-requires : goal.put_values-requires
put_values-requires c =
    let a = c.args in
    (omega (arith, formulas_near a.version a.s.now c.requires _ c.put_line-a.ensures.value _ c.put_order-b.ensures.position _ c.put_links-c.ensures.position _ c.put_formulas-d.ensures.position), c.requires)

pub returns-clause-out_after : goal.returns-clause-out_after
returns-clause-out_after c =
    let a = c.args in
    (image_written a.version a.s.now (c.put_line-a.ensures.out_after, c.put_line-a.ensures.value) c.put_order-b.ensures c.put_links-c.ensures
    c.put_formulas-d.ensures c.put_values.ensures).buffer

pub returns-clause-value : goal.returns-clause-value
returns-clause-value c =
    let a = c.args in
    let image =
    image_written a.version a.s.now (c.put_line-a.ensures.out_after, c.put_line-a.ensures.value) c.put_order-b.ensures c.put_links-c.ensures
    c.put_formulas-d.ensures c.put_values.ensures in
    omega (arith, image.position)
