-- `saving::field_at` meets its contract: what is sought among the first n fields is the lowest of them that stands at the place.
use native.Mathlib.Omega.{arith}
use Rattle.saving.proofs.Writing.{field_found, field_none}
use Rattle.saving.proofs.field_at.Goals as goal

pub returns-in-Some : goal.returns-in-Some
returns-in-Some c = field_found c.args.place.now c.args.n c.args.p (omega arith) (c.in-Some.ensures)

pub returns-in-None : goal.returns-in-None
returns-in-None c = field_none c.args.place.now c.args.n c.args.p (omega arith) (c.in-None.ensures)
