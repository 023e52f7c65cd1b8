-- `frames::is_frame` meets its contract: bytes that do not fit their kind are none (`unfit_taken`); others are one where no field byte has bit 6 set
-- (`fit_taken`).
use mathlib.Core.Path.{◌≡◌, sym, ap, ◌∙◌}
use mathlib.Core.Bool.{Bool, ◌&&◌}
use native.Mathlib.Omega.{arith}
use lib.ListN.{length, take, drop}
use borrow.Author.Rules.{rules}
use Rattle.fieldset.specs.Tables.{at}
use Rattle.hexadecimal.specs.Hex.{frame_room}
use Rattle.panel.specs.Commands.{has_bit6, any_of}
use Rattle.frames.specs.Frames.{has_fields}
use Rattle.frames.proofs.Reading.{fields_reach, fits_short, unfit_taken, fit_taken}
use Rattle.frames.proofs.is_frame.Goals as goal
use Rattle.frames.proofs.is_frame.Goals.{then-has_fields, else-has_fields}

pub has_bit6-requires : goal.has_bit6-requires
has_bit6-requires c =
    let fits = sym c.fits_kind.ensures ∙ c.if-fits_kind.true in
    (omega (arith, fields_reach _ _ c.args.n fits (sym c.has_fields.ensures ∙ c.if-has_fields.true)), omega (arith, fits_short _ _ c.args.n fits))

pub returns-after-has_fields : goal.returns-after-has_fields
returns-after-has_fields c =
    let f = c.args.frame.now in
    let n = c.args.n in
    let full : length f ≡ frame_room = search rules in
    let high = any_of has_bit6 (drop 3 (take n f)) in
    let found : has_fields (at f 0) && high ≡ c.if-has_fields.result =
    elim c.if-has_fields.branch [
      | then-has_fields w ↦ ap (λ (b : Bool). b && high) (sym c.has_fields.ensures ∙ w.if-has_fields.true) ∙ sym (w.result-is ∙ w.has_bit6.ensures)
      | else-has_fields w ↦ ap (λ (b : Bool). b && high) (sym c.has_fields.ensures ∙ w.if-has_fields.false) ∙ sym (w.result-is ∙ w.if-has_fields.false)
    ] in
    fit_taken f n full (sym c.fits_kind.ensures ∙ c.if-fits_kind.true) _ found

pub returns-else-fits_kind : goal.returns-else-fits_kind
returns-else-fits_kind c =
    let full : length c.args.frame.now ≡ frame_room = search rules in
    c.if-fits_kind.false ∙ unfit_taken c.args.frame.now c.args.n full (sym c.fits_kind.ensures ∙ c.if-fits_kind.false)
