-- `text::values_after` meets its contract: a text that is too long changes nothing; of any other it tells the sheet after it.
use mathlib.Core.Path.{◌≡◌, refl, sym, ap, ◌∙◌}
use mathlib.Core.Bool.{false}
use Rattle.sheet.specs.declared.Sheet.{Sheet}
use Rattle.frames.specs.Texts.{is_too_long}
use Rattle.text.specs.Outcomes.{fields_after, values_after}
use Rattle.text.proofs.values_after.Goals as goal

pub returns-then-is_too_long : goal.returns-then-is_too_long
unfolding fields_after values_after
returns-then-is_too_long c =
    let long = sym c.is_too_long.ensures ∙ c.if-is_too_long.true in record { value = sym (rw long refl); values_after = sym (rw long refl) }

pub sheet_after-s-requires : goal.sheet_after-s-requires
sheet_after-s-requires c = sym c.is_too_long.ensures ∙ c.if-is_too_long.false

pub returns : goal.returns
unfolding fields_after values_after
returns c =
    let short : is_too_long c.args.text.now ≡ false = sym c.is_too_long.ensures ∙ c.if-is_too_long.false in
    record {
      value = rw short (ap (λ (s : Sheet). s.panel.size) c.sheet_after-s.ensures.0);
      values_after = rw short (ap (λ (s : Sheet). s.values) c.sheet_after-s.ensures.0);
    }
