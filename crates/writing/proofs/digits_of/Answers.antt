-- `writing::digits_of` meets its contract: the digits of the two halves of a byte.
use Rattle.hexadecimal.specs.Hex.{hex_of}
use Rattle.writing.proofs.digits_of.Goals as goal

pub returns : goal.returns
unfolding hex_of
returns c = rw (c.char_of.ensures, c.char_of-2.ensures)
