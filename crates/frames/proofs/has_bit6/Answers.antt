-- `frames::has_bit6` meets its contract: what `any` answers over a range of the frame that starts behind the third byte is told of the frame's rest
-- (`field_bytes_any`).
use mathlib.Core.Path.{◌∙◌}
use native.Mathlib.Omega.{arith}
use borrow.Author.Rules.{rules}
use borrow.Author.Tests.{tests}
use Rattle.std.proofs.lemmas.Iterator.{YieldsList-from_slice}
use Rattle.std.proofs.lemmas.Iterator.Search.{any_from_yields_List}
use Rattle.panel.specs.Commands.{has_bit6}
use Rattle.frames.proofs.Reading.{field_bytes_any}
use Rattle.frames.proofs.has_bit6.Goals as goal

pub returns : goal.returns
returns c =
    any_from_yields_List has_bit6 _ _ c.any.result c.any.ensures.ran (YieldsList-from_slice _ c.iter.ensures.rest) (λ x b q k. search (rules, tests))
    ∙ field_bytes_any c.args.frame.now c.args.n _ (omega arith) c.requires.0
