-- `loading::is_bad` meets its contract: the sheet that the lines enter is not formed, or its text, which the buffer has room for, is compared.
use mathlib.Core.Path.{◌≡◌, refl, sym, ◌∙◌}
use mathlib.Core.Bool.{true}
use Rattle.images.specs.Forms.{is_formed}
use lib.Seq.{length-take-le}
use Rattle.std.proofs.lemmas.Slice.Eq.{slice_eq-Decides}
use Rattle.std.proofs.lemmas.Bool.Decides.{Decides-eqb}
use Rattle.loading.proofs.Comparing.{compared}
use Rattle.loading.proofs.Loading.{unformed_bad, formed_few, text_fits, compared_bad}
use Rattle.loading.proofs.is_bad.Goals as goal
use Rattle.loading.proofs.is_bad.Goals.{Else-not-is_formed}

-- ---- the places: the sheet is tested, its text is written

formed : (c : Else-not-is_formed) → is_formed c.args.c.now ≡ true
formed c = sym c.is_formed.ensures ∙ c.if-not-is_formed.false

-- ---- the goals

pub returns-then-not-is_formed : goal.returns-then-not-is_formed
returns-then-not-is_formed c =
    unformed_bad c.args.text.now c.args.c.now c.requires.0 (sym c.is_formed.ensures ∙ c.if-not-is_formed.true)

pub write-n-requires : goal.write-n-requires
write-n-requires c =
    formed_few c.args.text.now c.args.c.now c.requires.0 (formed (goal.at.write-n-requires c).Else-not-is_formed)

pub slice_bounds-buffer-end : goal.slice_bounds-buffer-end
slice_bounds-buffer-end c =
    text_fits c.args.text.now c.args.c.now c.requires.0 (formed (goal.at.slice_bounds-buffer-end c).Else-not-is_formed) _ _ _ refl c.write-n.ensures.out_after c.write-n.ensures.value

pub slice_bounds-ne-end : goal.slice_bounds-ne-end
slice_bounds-ne-end c =
    sym (length-take-le _ _ (text_fits c.args.text.now c.args.c.now c.requires.0 (formed (goal.at.slice_bounds-ne-end c).Else-not-is_formed) _ _ _ refl c.write-n.ensures.out_after c.write-n.ensures.value))

pub returns : goal.returns
returns c =
    c.ne.ensures
    ∙ compared_bad c.args.text.now c.args.c.now c.requires.0 (formed (goal.at.returns c).Else-not-is_formed) _ _ _ refl c.write-n.ensures.out_after c.write-n.ensures.value _
    (compared _ _ _ (slice_eq-Decides Decides-eqb _ _ _ refl))
