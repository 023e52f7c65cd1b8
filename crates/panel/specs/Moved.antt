-- The moved count, as document 02, request 6 has it.
use Rattle.std.specs.Prelude.{ℕ, not, eqb}
use Rattle.fieldset.specs.Tables.{at}
use Rattle.fieldset.specs.Fields.{set_of, size}
use Rattle.downstream.specs.Downstream.{spread}
use Rattle.panel.specs.declared.Panel.{Panel}
use Rattle.panel.specs.Solution.{setter_reads}

-- "the fields whose setter after the command is not the one before" (document 01)
unfoldable pub turned : Panel → Panel → ℕ
turned before after = set_of (λ f. not (eqb (at before.setter f) (at after.setter f))) after.size

-- "fields whose setter changed, and all fields downstream of these in the state after the command"
unfoldable pub redrawn : Panel → Panel → ℕ
redrawn before after = spread (setter_reads after) after.size (turned before after)

-- the count of these
unfoldable pub moved : Panel → Panel → ℕ
moved before after = size (redrawn before after)
