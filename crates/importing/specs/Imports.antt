-- What the import writes for a file. Quotations are of document 02, request 3.
use Rattle.std.specs.Prelude.{ℕ, zero, suc, ◌+◌, ◌*◌, List, [], ◌∷◌, ◌++◌}
use Rattle.std.proofs.Math.Option.{Option, none, some}
use Rattle.panel.specs.declared.Refusal.{Refusal}
use Rattle.panel.specs.Answers.{two_bytes, refusal_bytes}
use Rattle.hexadecimal.specs.Hex.{line_of}
use Rattle.frames.specs.Texts.{written}
use Rattle.edf.specs.Header.{flows_of, refusal_for}

-- of flow i "fields 2i (per minute) and 2i + 1 (per second)"
abbrev pub per_minute : ℕ → ℕ
per_minute i = 2 * i

abbrev pub per_second : ℕ → ℕ
per_second i = 2 * i + 1

-- the field byte of an output
abbrev pub output_byte : ℕ → ℕ
output_byte f = 0x80 + f

-- "the opening": both fields of each of k flows
abbrev pub open_frame : ℕ → List ℕ
open_frame k = 0x01 ∷ 2 * k ∷ []

-- "a required link i with both as outputs"
abbrev pub add_frame : ℕ → List ℕ
add_frame i = 0x02 ∷ i ∷ 0 ∷ output_byte (per_minute i) ∷ output_byte (per_second i) ∷ []

-- "the ratio 1 to 60"
abbrev pub ratio_frame : ℕ → List ℕ
ratio_frame i = 0x08 ∷ i ∷ 0x01 ∷ (two_bytes 1 ++ two_bytes 60)

-- "one a line": the lines of both
abbrev pub flow_lines : ℕ → List ℕ
flow_lines i = line_of (add_frame i) ++ line_of (ratio_frame i)

-- "for each i the add and the ratio", for the i below k
unfoldable pub flow_frames : ℕ → List (List ℕ)
flow_frames zero = []
flow_frames (suc i) = flow_frames i ++ (add_frame i ∷ ratio_frame i ∷ [])

-- "the opening, then for each i the add and the ratio"
abbrev pub frames_for : ℕ → List (List ℕ)
frames_for k = open_frame k ∷ flow_frames k

-- "It writes these as frames, one a line"; of a refusal "only the line FF and the number is written"
abbrev pub lines_for : Option Refusal → ℕ → List ℕ
lines_for none k = written (frames_for k)
lines_for (some r) k = line_of (0xFF ∷ refusal_bytes r)

-- the output for a file
unfoldable pub import_output : List ℕ → List ℕ
import_output file = lines_for (refusal_for file) (flows_of file)
