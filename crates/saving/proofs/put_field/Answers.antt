-- `saving::put_field` meets its contract: the byte of a covered field, and nothing of any other.
use mathlib.Core.Path.{sym, ◌∙◌}
use Rattle.saving.proofs.Writing.{wrote_as, field_in, field_out}
use Rattle.saving.proofs.put_field.Goals as goal

pub returns-then-member : goal.returns-then-member
returns-then-member c =
    wrote_as (field_in _ _ _ _ (sym c.member.ensures ∙ c.if-member.true) c.field_byte.ensures) c.put_byte.ensures

pub returns-else-member : goal.returns-else-member
returns-else-member c = field_out _ _ _ _ _ (sym c.member.ensures ∙ c.if-member.false)
