-- The header of a European Data Format file, from the file's bytes. The widths are those of the public specification of the format; quotations are of
-- document 02, request 3.
use Rattle.std.specs.Prelude.{ℕ, ◌+◌, ◌*◌, Bool, not, ◌&&◌, ◌||◌, cond, List, leb, ltb, eqb, length, take, drop}
use Rattle.std.proofs.Math.Option.{Option, none, some}
use Rattle.fieldset.specs.Numbers.{count, any}
use Rattle.panel.specs.declared.Refusal.{Refusal}
use Rattle.panel.specs.declared.Refusal.TheVariants.{BadHeader, UnclearUnit, FlowCount}
use Rattle.edf.specs.Texts.{is_plain, number_of, is_flow, is_unclear}

-- ---- the header's parts

-- so many bytes from a position on
abbrev pub part_of : List ℕ → ℕ → ℕ → List ℕ
part_of file from width = take width (drop from file)

-- the number of bytes in the header, behind 8 bytes of version, 80 of patient, 80 of recording, 8 of start date and 8 of start time
abbrev pub length_start : ℕ
length_start = 8 + 80 + 80 + 8 + 8

unfoldable pub length_text : List ℕ → List ℕ
length_text file = part_of file length_start 8

-- the number of signals, behind these 8, 44 that are reserved, 8 of number of data records and 8 of their duration
abbrev pub count_start : ℕ
count_start = length_start + 8 + 44 + 8 + 8

unfoldable pub count_text : List ℕ → List ℕ
count_text file = part_of file count_start 4

abbrev pub count_of : List ℕ → ℕ
count_of file = number_of (count_text file)

-- "256 bytes and 256 per signal"
abbrev pub header_length : ℕ → ℕ
header_length n = 256 + 256 * n

-- the physical dimension of signal j of n: behind the 256 bytes, 16 of label and 80 of transducer type for each of the n signals, and 8 of physical
-- dimension for each signal before
unfoldable pub unit_text : List ℕ → ℕ → ℕ → List ℕ
unit_text file n j = part_of file (256 + n * (16 + 80) + j * 8) 8

-- how many signals are "L/min or L/s"
unfoldable pub flows_of : List ℕ → ℕ
flows_of file = count (λ j. is_flow (unit_text file (count_of file) j)) (count_of file)

-- ---- refusals

-- "file shorter than its header, signal count not a plain number from 1 to 254, header length not the plain number 256 × (count + 1)"
unfoldable pub is_bad_header : List ℕ → Bool
is_bad_header file =
    let n = count_of file in
    ltb (length file) (header_length n)
    || not (is_plain (count_text file) && leb 1 n && leb n 254)
    || not (is_plain (length_text file) && eqb (number_of (length_text file)) (256 * (n + 1)))

-- a unit that is "one of the two texts but for letter case"
unfoldable pub has_unclear : List ℕ → Bool
has_unclear file = any (λ j. is_unclear (unit_text file (count_of file) j)) (count_of file)

-- the greatest number of flows: a panel has 64 fields
abbrev pub flow_limit : ℕ
flow_limit = 32

-- "none, or more than 32"
abbrev pub is_bad_count : ℕ → Bool
is_bad_count k = eqb k 0 || ltb flow_limit k

-- "16 BadHeader .., 17 UnclearUnit .., 18 FlowCount .., in that order"
unfoldable pub refusal_for : List ℕ → Option Refusal
refusal_for file =
    cond (is_bad_header file) (some BadHeader)
    (cond (has_unclear file) (some UnclearUnit)
    (cond (is_bad_count (flows_of file)) (some FlowCount)
    none))
