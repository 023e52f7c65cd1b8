-- What a header's texts and its refusals are, said in another way, and that the bytes behind a header play no part: statements. Quotations are of
-- document 02, request 3.
use Rattle.std.specs.Prelude.{ℕ, ◌+◌, ◌*◌, ◌≤◌, ◌<◌, ◌≡◌, true, false, List, ◌++◌, map, ◌≢◌, ◌⊎◌, ◌↔◌, length, take, replicate}
use Prim.Native.Char.{code}
use Rattle.std.proofs.Math.Option.{none, some}
use Rattle.fieldset.specs.Lists.{All}
use Rattle.panel.specs.declared.Refusal.TheVariants.{BadHeader}
use Rattle.hexadecimal.specs.Characters.{characters}
use Rattle.edf.specs.Texts.{dropped, is_decimal, number_from, is_plain, number_of, is_flow, lower, is_unclear}
use Rattle.edf.specs.Header.{length_text, count_text, header_length, unit_text, flows_of, is_bad_header, refusal_for}
use Rattle.importing.specs.Imports.{import_output}

-- ---- units

-- "is L/min or L/s"
abbrev pub IsFlow : List ℕ → Type 0
IsFlow unit = (unit ≡ characters "L/min") ⊎ (unit ≡ characters "L/s")

-- "one of the two texts but for letter case"
abbrev pub IsUnclear : List ℕ → Type 0
IsUnclear unit = (IsFlow unit → ⊥) × ((map lower unit ≡ characters "l/min") ⊎ (map lower unit ≡ characters "l/s"))

pub record UnitExactly (s : List ℕ) : Type 0 where
  pub flow : is_flow s ≡ true ↔ IsFlow (dropped s)
  pub unclear : is_unclear s ≡ true ↔ IsUnclear (dropped s)

abbrev pub UnitsExactly : Type 0
UnitsExactly = (s : List ℕ) → UnitExactly s

-- ---- plain numbers

-- "one or more decimal digits, then only spaces to the end of its header field", and the digits write n
pub record PlainNumber (s : List ℕ) (n : ℕ) : Type 0 where
  pub digits : List ℕ
  pub spaces : ℕ
  pub text : s ≡ digits ++ replicate spaces (code " ")
  pub some_digit : 0 < length digits
  pub all_digits : All (λ c. is_decimal c ≡ true) digits
  pub value : n ≡ number_from 0 digits

abbrev pub NumbersExactly : Type 0
NumbersExactly = (s : List ℕ) (n : ℕ) → ((is_plain s ≡ true) × (n ≡ number_of s)) ↔ PlainNumber s n

-- ---- refusals

-- a header of n signals that is not bad: "signal count .. a plain number from 1 to 254, header length .. the plain number 256 × (count + 1)", and the file
-- not "shorter than its header"
pub record IsHeader (file : List ℕ) (n : ℕ) : Type 0 where
  pub count : PlainNumber (count_text file) n
  pub some_signal : 1 ≤ n
  pub few_signals : n ≤ 254
  pub bytes : PlainNumber (length_text file) (256 * (n + 1))
  pub long : 256 * (n + 1) ≤ length file

abbrev pub HeadersExactly : Type 0
HeadersExactly = (file : List ℕ) → is_bad_header file ≡ false ↔ ((n : ℕ) × IsHeader file n)

-- a file is not refused: it has a header, no unit is unclear, and 1 to 32 signals are flows
pub record Imports (file : List ℕ) (n : ℕ) : Type 0 where
  pub header : IsHeader file n
  pub clear : (j : ℕ) → j < n → IsUnclear (dropped (unit_text file n j)) → ⊥
  pub some_flow : 1 ≤ flows_of file
  pub few_flows : flows_of file ≤ 32

abbrev pub ImportsExactly : Type 0
ImportsExactly = (file : List ℕ) → refusal_for file ≡ none ↔ ((n : ℕ) × Imports file n)

-- ---- bytes behind the header

-- what stands behind a header that is there changes nothing
abbrev pub BehindIgnored : Type 0
BehindIgnored = (file more : List ℕ) → refusal_for file ≢ some BadHeader → import_output (file ++ more) ≡ import_output file

-- the start of a file is enough, from the length of the longest header on: of 254 signals
abbrev pub StartEnough : Type 0
StartEnough = (file : List ℕ) (n : ℕ) → header_length 254 ≤ n → import_output (take n file) ≡ import_output file
