-- `loading::is_unknown` meets its contract: one law for each way through the test.
use mathlib.Core.Path.{refl, sym, ap, ◌∙◌}
use mathlib.Core.Bool.{not}
use lib.Seq.{length-take-le}
use borrow.Author.Tests.{ne_eqb}
use Rattle.loading.proofs.Versions.{refuses, short_known, bad_known, other_known, version_known}
use Rattle.loading.proofs.is_unknown.Goals as goal
use Rattle.loading.proofs.is_unknown.Goals.{then-text-lt4-via-then-text-lt4, then-text-lt4-via-else-text-lt4+then-is_err}

pub slice_bounds-decode-end : goal.slice_bounds-decode-end
slice_bounds-decode-end c = sym (length-take-le 4 c.args.text.now c.if-text-lt4.false)

pub returns-then-text-lt4 : goal.returns-then-text-lt4
returns-then-text-lt4 c =
    elim c.then-text-lt4.branch [
      | then-text-lt4-via-then-text-lt4 w ↦ short_known c.args.text.now w.if-text-lt4.true
      | then-text-lt4-via-else-text-lt4+then-is_err w ↦
          bad_known c.args.text.now w.if-text-lt4.false
          (refuses _ w.decode.result w.decode.ensures.result_value ∙ ap not (sym w.is_err.ensures.value ∙ w.if-is_err.true))
    ]

pub returns-then-frame-eq10 : goal.returns-then-frame-eq10
returns-then-frame-eq10 c =
    version_known c.args.text.now c.if-text-lt4.false
    (refuses _ c.decode.result c.decode.ensures.result_value ∙ ap not (sym c.is_err.ensures.value ∙ c.if-is_err.false))
    _ _ refl c.decode.ensures.frame_after c.if-frame-eq10.true

pub returns-else-frame-eq10 : goal.returns-else-frame-eq10
returns-else-frame-eq10 c =
    other_known c.args.text.now c.if-text-lt4.false
    (refuses _ c.decode.result c.decode.ensures.result_value ∙ ap not (sym c.is_err.ensures.value ∙ c.if-is_err.false))
    _ _ refl c.decode.ensures.frame_after refl (ne_eqb _ 10 c.if-frame-eq10.false)
