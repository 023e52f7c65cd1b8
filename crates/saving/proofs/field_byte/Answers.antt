-- `saving::field_byte` meets its contract.
use mathlib.Core.Path.{sym, ◌∙◌}
use Rattle.saving.proofs.field_byte.Goals as goal

pub returns-then-member : goal.returns-then-member
returns-then-member c = rw (sym c.member.ensures ∙ c.if-member.true)

pub returns-else-member : goal.returns-else-member
returns-else-member c = rw (sym c.member.ensures ∙ c.if-member.false)
