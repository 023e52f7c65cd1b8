-- A line of digits with the first of its bytes in a buffer of zeros, and what a link's line gives.
use Rattle.std.specs.Prelude.{ℕ, ◌-◌, min, max, ◌≡◌, true, List, length, take, drop, replicate}
use Rattle.std.proofs.lemmas.List.Edits.{sets}
use Rattle.fieldset.specs.Tables.{at}
use Rattle.panel.specs.declared.Link.{Link}
use Rattle.panel.specs.Commands.{covered_in, outputs_in}
use Rattle.hexadecimal.specs.Hex.{are_digits, bytes_of, frame_room}
use Rattle.images.specs.Entries.{standing_of}

pub record Framed (line frame : List ℕ) (n : ℕ) : Type 0 where
  pub digits : are_digits line ≡ true
  pub bytes : frame ≡ sets (replicate frame_room 0) 0 (bytes_of line)
  pub count : n ≡ length (bytes_of line)

-- where the field bytes of a link of n bytes end in the buffer: behind the fourth byte, and at most at its end
abbrev pub fields_end : ℕ → ℕ
fields_end n = max 4 (min n frame_room)

-- its field bytes, of n bytes
abbrev pub field_part : List ℕ → ℕ → List ℕ
field_part frame n = take (fields_end n - 4) (drop 4 frame)

abbrev pub link_in : List ℕ → List ℕ → Link
link_in frame fields =
    record { covered = covered_in fields; outputs = outputs_in fields; level = at frame 2; used = true; standing = standing_of (at frame 3) }
