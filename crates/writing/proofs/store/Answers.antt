-- `writing::store` meets its contract: a store past the end does nothing (`set_out`).
use mathlib.Core.Path.{sym}
use lib.Seq.{set_out}
use Rattle.writing.proofs.store.Goals as goal

pub returns-else-at-out : goal.returns-else-at-out
returns-else-at-out c = sym (set_out _ _ _ c.if-at-out.false)
