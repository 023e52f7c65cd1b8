-- What reading a line gives.
use Rattle.std.specs.Prelude.{ℕ, min, ◌≡◌, cond, List, length, take, drop, replicate}
use Rattle.hexadecimal.specs.Hex.{is_hex, bytes_of, frame_room}
use Rattle.hexadecimal.specs.Answers.{frame_after}
use Rattle.frames.specs.declared.Line.{Line}
use Rattle.frames.specs.Frames.{frame_of, command_bytes}

-- how many bytes of a line's frame are kept: none where the line is refused with BadHex
unfoldable pub kept_bytes : List ℕ → ℕ
kept_bytes line = cond (is_hex line) (min (length (bytes_of line)) frame_room) 0

-- what a line's frame has behind its third byte
abbrev pub tail_of : Line → List ℕ
tail_of line = drop 3 (take line.len line.frame)

-- a line that is read: the command and what stands beside it are the line's frame; its first bytes stand in a buffer of zeros
pub record LineRead (line : List ℕ) (r : Line) : Type 0 where
  pub bytes : command_bytes r.command (tail_of r) ≡ frame_of line
  pub frame : r.frame ≡ frame_after line (replicate frame_room 0)
  pub len : r.len ≡ kept_bytes line
