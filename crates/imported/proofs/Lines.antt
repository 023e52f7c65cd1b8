-- The line of a frame is answered as the frame's command: its bytes are read back from its digits.
use Prim.Native.Nat.{ℕ, ◌≤◌, ◌<◌}
use mathlib.Core.Path.{◌≡◌}
use mathlib.Core.Bool.{true}
use mathlib.Core.List.{List}
use native.Mathlib.Omega.{arith}
use lib.ListN.{length}
use Rattle.fieldset.specs.Lists.{All}
use Rattle.sheet.specs.declared.Sheet.{Sheet}
use Rattle.hexadecimal.specs.Hex.{hex_of}
use Rattle.hexadecimal.proofs.Bytes.{length_hex, bytes_hex, digits_hex}
use Rattle.hexadecimal.proofs.Lines.{hex_line}
use Rattle.frames.specs.Frames.{is_frame, checked_frame, frame_of, command_of, answered, line_answer}

-- bytes that a line can have, and that are a frame
pub record Framed (frame : List ℕ) : Type 0 where
  pub bytes : All (λ b. b < 256) frame
  pub some : 0 < length frame
  pub few : length frame ≤ 7
  pub fits : is_frame frame ≡ true

frame_read : (frame : List ℕ) → Framed frame → frame_of (hex_of frame) ≡ frame
unfolding frame_of checked_frame
frame_read frame h =
    let even = length_hex frame in
    let some = h.some in
    rw (
      hex_line (hex_of frame) (λ e. omega arith) (λ e. omega arith) (digits_hex frame h.bytes),
      bytes_hex frame h.bytes,
      h.fits,
    )

pub frame_answer : (s : Sheet) (frame : List ℕ) → Framed frame → line_answer s (hex_of frame) ≡ answered s frame (command_of frame)
unfolding line_answer
frame_answer s frame h = rw (frame_read frame h)
