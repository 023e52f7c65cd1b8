-- Worked headers (document 02, request 3): headers written field by field, with the widths of the public specification of the European Data Format, and
-- what the import writes for each, worked out by hand. Quotations are of that request.
use Rattle.std.specs.Prelude.{ℕ, ◌-◌, ◌≡◌, List, [], ◌∷◌, ◌++◌, map, length, take, replicate}
use Prim.Native.Char.{code}
use Prim.Native.String.{String}
use Rattle.fieldset.specs.Lists.{All}
use Rattle.hexadecimal.specs.Characters.{characters}
use Rattle.importing.specs.Imports.{import_output}

-- ---- headers

-- a text with spaces to the width of its header field
unfoldable pub filled : ℕ → String → List ℕ
filled width text = let s = characters text in s ++ replicate (width - length s) (code " ")

-- a header field of every signal, one signal after the other
unfoldable pub each : ℕ → List String → List ℕ
each width [] = []
each width (t ∷ ts) = filled width t ++ each width ts

-- the same text for every signal
unfoldable pub same : ℕ → String → List String → List ℕ
same width text units = each width (map (λ u. text) units)

-- a header of signals with these units, that gives these texts as the number of its bytes and of its signals
unfoldable pub header : String → String → List String → List ℕ
header bytes signals units =
    filled 8 "0" ++ filled 80 "X X X X" ++ filled 80 "Startdate X X X X" ++ filled 8 "16.11.26" ++ filled 8 "22.30.00" ++ filled 8 bytes ++ filled 44 "EDF+C"
    ++ filled 8 "1" ++ filled 8 "1" ++ filled 4 signals
    ++ same 16 "Flow" units ++ same 80 "L/min" units ++ each 8 units ++ same 8 "-100" units ++ same 8 "100" units ++ same 8 "-32768" units
    ++ same 8 "32767" units ++ same 80 "L/s" units ++ same 8 "1" units ++ same 32 "" units

-- ---- worked ones

-- a file, and the lines of its output
pub record Headed : Type 0 where
  pub file : List ℕ
  pub lines : List String

abbrev pub headed : List ℕ → List String → Headed
headed f ls = record { file = f; lines = ls }

-- "every line written from here on ends in LF"
unfoldable pub text_of : List String → List ℕ
text_of [] = []
text_of (l ∷ ls) = characters l ++ characters "\n" ++ text_of ls

-- the definitions give each file its output
abbrev pub HoldHeaders : List Headed → Type 0
HoldHeaders = All (λ h. import_output h.file ≡ text_of h.lines)

-- the output for one flow, and a refusal's
abbrev pub one_flow : List String
one_flow = "0102" ∷ "0200008081" ∷ "0800010001003C" ∷ []

abbrev pub refused : String → List String
refused line = line ∷ []

-- the output for 32 flows
unfoldable pub flows32 : List String
flows32 =
    "0140"
    ∷ "0200008081" ∷ "0800010001003C" ∷ "0201008283" ∷ "0801010001003C"
    ∷ "0202008485" ∷ "0802010001003C" ∷ "0203008687" ∷ "0803010001003C"
    ∷ "0204008889" ∷ "0804010001003C" ∷ "0205008A8B" ∷ "0805010001003C"
    ∷ "0206008C8D" ∷ "0806010001003C" ∷ "0207008E8F" ∷ "0807010001003C"
    ∷ "0208009091" ∷ "0808010001003C" ∷ "0209009293" ∷ "0809010001003C"
    ∷ "020A009495" ∷ "080A010001003C" ∷ "020B009697" ∷ "080B010001003C"
    ∷ "020C009899" ∷ "080C010001003C" ∷ "020D009A9B" ∷ "080D010001003C"
    ∷ "020E009C9D" ∷ "080E010001003C" ∷ "020F009E9F" ∷ "080F010001003C"
    ∷ "021000A0A1" ∷ "0810010001003C" ∷ "021100A2A3" ∷ "0811010001003C"
    ∷ "021200A4A5" ∷ "0812010001003C" ∷ "021300A6A7" ∷ "0813010001003C"
    ∷ "021400A8A9" ∷ "0814010001003C" ∷ "021500AAAB" ∷ "0815010001003C"
    ∷ "021600ACAD" ∷ "0816010001003C" ∷ "021700AEAF" ∷ "0817010001003C"
    ∷ "021800B0B1" ∷ "0818010001003C" ∷ "021900B2B3" ∷ "0819010001003C"
    ∷ "021A00B4B5" ∷ "081A010001003C" ∷ "021B00B6B7" ∷ "081B010001003C"
    ∷ "021C00B8B9" ∷ "081C010001003C" ∷ "021D00BABB" ∷ "081D010001003C"
    ∷ "021E00BCBD" ∷ "081E010001003C" ∷ "021F00BEBF" ∷ "081F010001003C" ∷ []

-- a header of one signal
abbrev pub one : String → List ℕ
one unit = header "512" "1" (unit ∷ [])

unfoldable pub headers : List Headed
headers =
    -- "whose physical dimension, trailing spaces dropped, is L/min or L/s": "the opening, then .. the add and the ratio"
    headed (one "L/min") one_flow
    ∷ headed (one "L/s") one_flow
    -- "i from 0, counting only these"
    ∷ headed (header "1280" "4" ("uV" ∷ "L/s" ∷ "%" ∷ "L/min" ∷ [])) ("0104" ∷ "0200008081" ∷ "0800010001003C" ∷ "0201008283" ∷ "0801010001003C" ∷ [])
    -- "FlowCount (none, or more than 32)": only trailing spaces are dropped, and other units are passed over
    ∷ headed (one "") (refused "FF12")
    ∷ headed (one " L/min") (refused "FF12")
    ∷ headed (one "L/minute") (refused "FF12")
    ∷ headed (one "mL/min") (refused "FF12")
    ∷ headed (one "L/s\t") (refused "FF12")
    ∷ headed (header "8448" "32" (replicate 32 "L/s")) flows32
    ∷ headed (header "8704" "33" (replicate 33 "L/s")) (refused "FF12")
    -- "UnclearUnit (one of the two texts but for letter case)"
    ∷ headed (one "l/min") (refused "FF11")
    ∷ headed (one "L/S") (refused "FF11")
    ∷ headed (header "768" "2" ("L/min" ∷ "L/MIN" ∷ [])) (refused "FF11")
    -- "A plain number is one or more decimal digits, then only spaces to the end of its header field"
    ∷ headed (header "00000512" "0001" ("L/min" ∷ [])) one_flow
    ∷ headed (header "2560" "9" ("L/min" ∷ replicate 8 "uV")) one_flow
    ∷ headed (header "2816" "0:" (replicate 10 "L/min")) (refused "FF10")
    ∷ headed (header "2816" "1/" (replicate 10 "L/min")) (refused "FF10")
    ∷ headed (header "512" " 1" ("L/min" ∷ [])) (refused "FF10")
    ∷ headed (header "512" "+1" ("L/min" ∷ [])) (refused "FF10")
    ∷ headed (header "512" "1 1" ("L/min" ∷ [])) (refused "FF10")
    ∷ headed (header "512" "" ("L/min" ∷ [])) (refused "FF10")
    ∷ headed (header " 512" "1" ("L/min" ∷ [])) (refused "FF10")
    ∷ headed (header "512.0" "1" ("L/min" ∷ [])) (refused "FF10")
    -- "from 1 to 254"
    ∷ headed (header "256" "0" []) (refused "FF10")
    -- "header length not the plain number 256 × (count + 1)"
    ∷ headed (header "513" "1" ("L/min" ∷ [])) (refused "FF10")
    ∷ headed (header "256" "1" ("L/min" ∷ [])) (refused "FF10")
    -- "file shorter than its header"; what stands behind it is ignored
    ∷ headed (take 511 (one "L/min")) (refused "FF10")
    ∷ headed (take 255 (one "L/min")) (refused "FF10")
    ∷ headed [] (refused "FF10")
    ∷ headed (one "L/min" ++ characters "l/min") one_flow
    -- "in that order"
    ∷ headed (header "513" "1" ("l/min" ∷ [])) (refused "FF10")
    ∷ headed (header "768" "2" ("uV" ∷ "l/s" ∷ [])) (refused "FF11")
    ∷ []
