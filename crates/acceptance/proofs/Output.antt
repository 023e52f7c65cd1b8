-- The lines of the output: one reply for each line, then the tally. The output splits into lines where they were written (`lines_written`). Assumes
-- nothing.
use mathlib.Core.Path.{◌≡◌, refl, sym, ap, ◌∙◌}
use mathlib.Core.Bool.{false}
use mathlib.Core.List.{List, [], ◌∷◌, ◌++◌, map, append-nil}
use Prim.Native.Nat.{ℕ, suc}
use native.Mathlib.Omega.{arith}
use lib.ListN.{length-append, length-map}
use Rattle.hexadecimal.specs.Hex.{char_of, hex_of, line_of}
use Rattle.lines.specs.Lines.{lines_of}
use Rattle.lines.proofs.Lines.{lines_line}
use Rattle.frames.specs.Texts.{replies, written, output, is_too_long, output_of}
use Rattle.frames.specs.Frames.{panel_output}
use Rattle.frames.proofs.Outputs.{lines_written}
use Rattle.hexadecimal.specs.Characters.{characters}
use Rattle.acceptance.specs.Lines.{OneReplyEach, replies_to, tally_to, OutputLines, OutputTooLong}

pub one_reply_each : OneReplyEach
unfolding replies
one_reply_each S answer s [] = refl
one_reply_each S answer s (l ∷ ls) = ap suc (one_reply_each S answer (answer s l).state ls)

-- the last line alone
lines_last : (bytes : List ℕ) → lines_of (line_of bytes) ≡ hex_of bytes ∷ []
unfolding lines_of
lines_last bytes = ap lines_of (sym (append-nil (line_of bytes))) ∙ lines_line bytes []

output_short : (text : List ℕ) → is_too_long text ≡ false → panel_output text ≡ written (replies_to text) ++ line_of (tally_to text)
unfolding output_of output
output_short text short = rw (short, output_of)

pub output_lines : OutputLines
output_lines text short =
    let lines = ap lines_of (output_short text short) ∙ lines_written (replies_to text) (line_of (tally_to text))
    ∙ ap (λ (ls : List (List ℕ)). map hex_of (replies_to text) ++ ls) (lines_last (tally_to text)) in
    record { lines = lines; count = simp (lines, length-append, length-map, one_reply_each) (omega arith) }

pub output_too_long : OutputTooLong
unfolding output_of line_of hex_of char_of lines_of characters
output_too_long text long = rw (long, output_of)
