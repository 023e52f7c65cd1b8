-- `saving::save` meets its contract: nothing of a panel that is not open (`saved_none`), and else the text.
use borrow.Author.Rules.{rules}
use Rattle.saving.proofs.Writing.{saved_text_lem}
use Rattle.saving.proofs.save.Goals as goal

pub returns : goal.returns
returns c = saved_text_lem _ _ _ _ (search rules) (c.write.ensures.out_after, c.write.ensures.value)
