-- `hexadecimal::value` meets its contract, by what `digit_of` tells: there is a value, since the character is a digit (`is_some_read`), and it is that of
-- the digit (`value_read`). Assumes nothing.
use mathlib.Core.Path.{sym, ap, ◌∙◌}
use Rattle.hexadecimal.specs.Answers.{digit_values}
use Rattle.hexadecimal.proofs.Digits.{value_read, is_some_read}
use Rattle.hexadecimal.proofs.value.Goals as goal

pub unwrap-requires : goal.unwrap-requires
unwrap-requires c = is_some_read c.args.c _ c.digit_of.ensures ∙ c.requires

pub returns : goal.returns
returns c = (value_read c.args.c _ (ap digit_values (sym c.unwrap.ensures) ∙ c.digit_of.ensures)).1
