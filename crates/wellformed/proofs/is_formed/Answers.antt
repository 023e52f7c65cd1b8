-- `wellformed::is_formed` meets its contract: the number of fields, then the tests of all fields and links. The tables have all their entries.
use mathlib.Core.Path.{sym, ◌∙◌}
use mathlib.Core.Bool.{true}
use borrow.Author.Rules.{rules}
use Rattle.fieldset.proofs.Numbers.{clash}
use Rattle.wellformed.proofs.Tests.{whole, sized_wrong, fields_wrong, formed_all}
use Rattle.wellformed.proofs.is_formed.Goals as goal
use Rattle.wellformed.proofs.is_formed.Goals.{then-is_size, else-is_size}

pub returns-then-are_fields : goal.returns-then-are_fields
returns-then-are_fields c =
    elim c.if-is_size.branch [
      | then-is_size w ↦
          formed_all c.args.s.now (whole c.args.s.now c.requires w.are_fields.ensures.whole.0 w.are_fields.ensures.whole.1 (search rules)) (sym c.is_size.ensures ∙ w.if-is_size.true)
          (sym w.are_fields.ensures.tested ∙ sym w.value-is ∙ c.if-are_fields.true) c.are_links.ensures
      | else-is_size w ↦ absurd (clash (sym w.value-is ∙ c.if-are_fields.true) w.if-is_size.false)
    ]

pub returns-else-are_fields : goal.returns-else-are_fields
returns-else-are_fields c =
    elim c.if-is_size.branch [
      | then-is_size w ↦
          c.if-are_fields.false ∙ fields_wrong c.args.s.now (whole c.args.s.now c.requires w.are_fields.ensures.whole.0 w.are_fields.ensures.whole.1 (search rules)) (sym c.is_size.ensures ∙ w.if-is_size.true)
          (sym w.are_fields.ensures.tested ∙ sym w.value-is ∙ c.if-are_fields.false)
      | else-is_size w ↦ c.if-are_fields.false ∙ sized_wrong c.args.s.now (sym c.is_size.ensures ∙ w.if-is_size.false)
    ]
