-- A line's frame, its command, and what it is answered. Quotations are of document 01, or of document 02 where that is said.
use Rattle.std.specs.Prelude.{ℕ, ◌+◌, ◌*◌, ◌/◌, ◌%◌, min, Bool, false, not, ◌&&◌, ◌||◌, cond, List, [], ◌∷◌, eqb, leb, length, drop, Some, None}
use Rattle.std.proofs.Math.Option.{Option, none, some}
use Rattle.panel.specs.declared.Refusal.{Refusal}
use Rattle.panel.specs.declared.Refusal.TheVariants.{BadHex, BadFrame}
use Rattle.fieldset.specs.Tables.{at}
use Rattle.panel.specs.Answers.{refusal_bytes}
use Rattle.panel.specs.Commands.{has_bit6, any_of, opening, adding, removing, touching, planning, changing}
use Rattle.values.specs.Words.{value_of}
use Rattle.formulas.specs.Formulas.{Rule}
use Rattle.formulas.specs.declared.Formula.TheVariants.{Ratio, Sum}
use Rattle.sheet.specs.declared.Sheet.{Sheet}
use Rattle.sheet.specs.Sheets.{unopened}
use Rattle.sheet.specs.Commands as sheet
use Rattle.sheet.specs.Commands.{Answer, solving, entering, relating, performed}
use Rattle.hexadecimal.specs.Hex.{is_hex, offset_of, bytes_of}
use Rattle.frames.specs.declared.Command.{Command}
use Rattle.frames.specs.declared.Command.TheVariants.{Open, Add, Remove, Touch, Plan, Change, Enter, Relate, Refused}
use Rattle.frames.specs.Texts.{Answered, LineAnswer, state_after, output_of}

-- ---- frames

-- whether n bytes fit a kind of formula: "08 id 01 pppp qqqq", "08 id 02 f" (document 02, request 2)
unfoldable pub fits_formula : ℕ → ℕ → Bool
fits_formula form n = cond (eqb form 0x01) (eqb n 7) (cond (eqb form 0x02) (eqb n 4) false)

-- whether n bytes fit a link behind the kind: "id level, then 1 to 8 field bytes"
abbrev pub fits_link : ℕ → Bool
fits_link n = leb (3 + 1) n && leb n (3 + 8)

-- whether n bytes, whose third is `form`, fit the kind: "01 n: open", "02 id level, then 1 to 8 field bytes: add", "03 id: remove", "04 f: touch", "05:
-- plan"; "06, with the body of frame 02" (document 02, request 5); "07 f and four bytes", and 08 with a formula: "Another length or formula kind is a
-- BadFrame" (request 2)
unfoldable pub fits_kind : ℕ → ℕ → ℕ → Bool
fits_kind kind form n =
    cond (eqb kind 0x01) (eqb n 2)
    (cond (eqb kind 0x02) (fits_link n)
    (cond (eqb kind 0x03) (eqb n 2)
    (cond (eqb kind 0x04) (eqb n 2)
    (cond (eqb kind 0x05) (eqb n 1)
    (cond (eqb kind 0x06) (fits_link n)
    (cond (eqb kind 0x07) (eqb n 6)
    (cond (eqb kind 0x08) (fits_formula form n)
    false)))))))

-- the kinds that have field bytes
abbrev pub has_fields : ℕ → Bool
has_fields kind = eqb kind 0x02 || eqb kind 0x06

-- bytes that are not refused with BadFrame "(unknown kind, wrong length for the kind, bit 6 set in a field byte)"
unfoldable pub is_frame : List ℕ → Bool
is_frame bytes = fits_kind (at bytes 0) (at bytes 2) (length bytes) && not (has_fields (at bytes 0) && any_of has_bit6 (drop 3 bytes))

-- the bytes where they are a frame, else FF and the number of BadFrame
unfoldable pub checked_frame : List ℕ → List ℕ
checked_frame bytes = cond (is_frame bytes) bytes (0xFF ∷ refusal_bytes BadFrame)

-- BadHex with the line's offset, as two bytes tell it: 65,535 for a larger one, which only a line longer than any text has
abbrev pub bad_hex : List ℕ → Refusal
bad_hex line = BadHex (min (offset_of line) 0xFFFF)

-- the bytes of a line's frame; where it has none, FF and the bytes of BadHex or of BadFrame
unfoldable pub frame_of : List ℕ → List ℕ
frame_of line = cond (is_hex line) (checked_frame (bytes_of line)) (0xFF ∷ refusal_bytes (bad_hex line))

-- ---- numbers of several bytes, "most significant first .. as in every number of several bytes" (document 02, request 1)

-- the numbers of the first two, and of the first four bytes of a list
abbrev pub pair_of : List ℕ → ℕ
pair_of b = at b 0 * 256 + at b 1

abbrev pub word_of : List ℕ → ℕ
word_of b = at b 0 * 16777216 + at b 1 * 65536 + at b 2 * 256 + at b 3

-- ---- commands

-- "01 pppp qqqq": a ratio; "02 f": a sum (document 02, request 2); a frame has no other kind of formula
abbrev pub formula_in : List ℕ → Rule
formula_in b =
    cond (eqb (at b 0) 0x01) (Some (Ratio (pair_of (drop 1 b)) (pair_of (drop 3 b))))
    (cond (eqb (at b 0) 0x02) (Some (Sum (at b 1)))
    None)

-- a formula by these numbers and values; no frame gives none
abbrev pub formula_bytes : Rule → List ℕ
formula_bytes None = []
formula_bytes (Some (Ratio p q)) = 0x01 ∷ p / 256 ∷ p % 256 ∷ q / 256 ∷ q % 256 ∷ []
formula_bytes (Some (Sum f)) = 0x02 ∷ f ∷ []

-- the command of a frame, by its kind; "A line refused with 1 or 2 gives no command"
unfoldable pub command_of : List ℕ → Option sheet.Command
command_of bytes =
    cond (eqb (at bytes 0) 0x01) (some (solving (opening (at bytes 1))))
    (cond (eqb (at bytes 0) 0x02) (some (solving (adding (at bytes 1) (at bytes 2) (drop 3 bytes))))
    (cond (eqb (at bytes 0) 0x03) (some (solving (removing (at bytes 1))))
    (cond (eqb (at bytes 0) 0x04) (some (solving (touching (at bytes 1))))
    (cond (eqb (at bytes 0) 0x05) (some (solving planning))
    (cond (eqb (at bytes 0) 0x06) (some (solving (changing (at bytes 1) (at bytes 2) (drop 3 bytes))))
    (cond (eqb (at bytes 0) 0x07) (some (entering (at bytes 1) (value_of (word_of (drop 2 bytes)))))
    (cond (eqb (at bytes 0) 0x08) (some (relating (at bytes 1) (formula_in (drop 2 bytes))))
    none)))))))

-- a line's command as the code has it, by its number and values, with what the frame has behind its third byte
abbrev pub command_bytes : Command → List ℕ → List ℕ
command_bytes (Open n) rest = 0x01 ∷ n ∷ []
command_bytes (Add id level) rest = 0x02 ∷ id ∷ level ∷ rest
command_bytes (Remove id) rest = 0x03 ∷ id ∷ []
command_bytes (Touch f) rest = 0x04 ∷ f ∷ []
command_bytes Plan rest = 0x05 ∷ []
command_bytes (Change id level) rest = 0x06 ∷ id ∷ level ∷ rest
command_bytes (Enter f b) rest = 0x07 ∷ f ∷ b ∷ rest
command_bytes (Relate id form) rest = 0x08 ∷ id ∷ form ∷ rest
command_bytes (Refused r) rest = 0xFF ∷ refusal_bytes r

-- the number of the link that a command names; 0 where it names none
abbrev pub number_of : Command → ℕ
number_of (Open n) = 0
number_of (Add id level) = id % 128
number_of (Remove id) = id % 128
number_of (Touch f) = 0
number_of Plan = 0
number_of (Change id level) = id % 128
number_of (Enter f b) = 0
number_of (Relate id form) = id % 128
number_of (Refused r) = 0

-- ---- answers

-- the answer to a command as one to a line
abbrev pub answer_to : Answer → Answered Sheet
answer_to a = record { state = a.sheet; reply = a.reply }

-- what a command is answered, with what stands beside it
abbrev pub command_answer : Sheet → Command → List ℕ → Answered Sheet
command_answer s (Open n) rest = answer_to (performed s (solving (opening n)))
command_answer s (Add id level) rest = answer_to (performed s (solving (adding id level rest)))
command_answer s (Remove id) rest = answer_to (performed s (solving (removing id)))
command_answer s (Touch f) rest = answer_to (performed s (solving (touching f)))
command_answer s Plan rest = answer_to (performed s (solving planning))
command_answer s (Change id level) rest = answer_to (performed s (solving (changing id level rest)))
command_answer s (Enter f b) rest = answer_to (performed s (entering f (value_of (word_of (b ∷ rest)))))
command_answer s (Relate id form) rest = answer_to (performed s (relating id (formula_in (form ∷ rest))))
command_answer s (Refused r) rest = record { state = s; reply = 0xFF ∷ refusal_bytes r }

-- what a command is answered; no command "leaves the panel as it stood", and its reply is the refusal
abbrev pub answered : Sheet → List ℕ → Option sheet.Command → Answered Sheet
answered s bytes none = record { state = s; reply = bytes }
answered s bytes (some c) = answer_to (performed s c)

unfoldable pub line_answer : LineAnswer Sheet
line_answer s line = answered s (frame_of line) (command_of (frame_of line))

-- the sheet after lines
abbrev pub sheet_after : Sheet → List (List ℕ) → Sheet
sheet_after s lines = state_after line_answer s lines

-- what the run program writes for a text
abbrev pub panel_output : List ℕ → List ℕ
panel_output text = output_of line_answer unopened text
