-- What reading a header's texts and a header gives, by numbers and values.
use Rattle.std.specs.Prelude.{ℕ, cond, List, [], ◌∷◌, Option, None, Some, Result, Ok, Err}
use Rattle.std.proofs.Math.Option.{Option as Maybe, none, some}
use Rattle.panel.specs.declared.Refusal.{Refusal}
use Rattle.panel.specs.Answers.{refusal_bytes}
use Rattle.edf.specs.Texts.{is_plain, number_of, is_flow, is_unclear}
use Rattle.edf.specs.Header.{count_of, is_bad_header}
use Rattle.edf.specs.declared.Unit.{Unit}
use Rattle.edf.specs.declared.Unit.TheVariants.{Flow, Unclear, Other}

-- a plain number has its value, another text has none
abbrev pub number_values : Option ℕ → List ℕ
number_values (Some n) = n ∷ []
number_values None = []

unfoldable pub number_read : List ℕ → List ℕ
number_read s = cond (is_plain s) (number_of s ∷ []) []

-- the number of signals; none where the header is refused with BadHeader
unfoldable pub signals_read : List ℕ → List ℕ
signals_read file = cond (is_bad_header file) [] (count_of file ∷ [])

-- 0: "L/min or L/s"; 1: one of these "but for letter case"; 2: another unit
abbrev pub unit_number : Unit → ℕ
unit_number Flow = 0
unit_number Unclear = 1
unit_number Other = 2

unfoldable pub unit_read : List ℕ → ℕ
unit_read s = cond (is_flow s) 0 (cond (is_unclear s) 1 2)

-- 00 and the number of flows, or FF and the bytes of the refusal
abbrev pub header_bytes : Result ℕ Refusal → List ℕ
header_bytes (Ok k) = 0x00 ∷ k ∷ []
header_bytes (Err r) = 0xFF ∷ refusal_bytes r

abbrev pub header_read : Maybe Refusal → ℕ → List ℕ
header_read none k = 0x00 ∷ k ∷ []
header_read (some r) k = 0xFF ∷ refusal_bytes r
