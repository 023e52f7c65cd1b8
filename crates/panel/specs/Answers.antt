-- Refusals and replies, by document 01's numbers.
use Rattle.std.specs.Prelude.{ℕ, ◌*◌, ◌/◌, ◌%◌, Bool, List, [], ◌∷◌, eqb, get_or}
use Rattle.panel.specs.declared.Panel.{Panel}
use Rattle.panel.specs.declared.Refusal.{Refusal}
use Rattle.panel.specs.declared.Refusal.TheVariants.{BadHex, BadFrame, AlreadyOpen, NotOpen, BadSize, BadLink, NoSuchField, LinkTaken, NoSuchLink, Conflict, Loop, TextTooLong, OutOfRange, FieldDriven, BadFormula, BadHeader, UnclearUnit, FlowCount, BadImage, UnknownVersion, Unfit}
use Rattle.std.specs.Prelude.{Result}
use Rattle.std.specs.Prelude.{Ok, Err}

-- a number in two bytes, "most significant first" (document 02, request 1)
abbrev pub two_bytes : ℕ → List ℕ
two_bytes n = n / 256 ∷ n % 256 ∷ []

-- a refusal's number ("Who causes which refusal"; from 13 on document 02) and the values behind it: "FF 01 and two bytes .., the offset .." (document
-- 02, request 1), and none for any other
abbrev pub refusal_bytes : Refusal → List ℕ
refusal_bytes (BadHex offset) = 1 ∷ two_bytes offset
refusal_bytes BadFrame = 2 ∷ []
refusal_bytes AlreadyOpen = 3 ∷ []
refusal_bytes NotOpen = 4 ∷ []
refusal_bytes BadSize = 5 ∷ []
refusal_bytes BadLink = 6 ∷ []
refusal_bytes NoSuchField = 7 ∷ []
refusal_bytes LinkTaken = 8 ∷ []
refusal_bytes NoSuchLink = 9 ∷ []
refusal_bytes Conflict = 10 ∷ []
refusal_bytes Loop = 11 ∷ []
refusal_bytes TextTooLong = 12 ∷ []
refusal_bytes OutOfRange = 13 ∷ []
refusal_bytes FieldDriven = 14 ∷ []
refusal_bytes BadFormula = 15 ∷ []
refusal_bytes BadHeader = 16 ∷ []
refusal_bytes UnclearUnit = 17 ∷ []
refusal_bytes FlowCount = 18 ∷ []
refusal_bytes BadImage = 19 ∷ []
refusal_bytes UnknownVersion = 20 ∷ []
refusal_bytes Unfit = 21 ∷ []

-- the reply to a command: the count of an accepted one, or the refusal
abbrev pub Reply : Type 0
Reply = Result ℕ Refusal

-- "Replies: 00 m (m the moved count); for a plan 00 n, ..; for a refusal FF and its number", with its values
abbrev pub reply_bytes : Reply → List ℕ
reply_bytes (Ok m) = 0x00 ∷ m ∷ []
reply_bytes (Err r) = 0xFF ∷ refusal_bytes r

-- how many bytes a plan's reply has behind these: "n times field, setter .., strength"
abbrev pub plan_rest : Reply → ℕ
plan_rest (Ok n) = 3 * n
plan_rest (Err r) = 0

-- at most: three bytes for each of 64 fields
abbrev pub rows_length : ℕ
rows_length = 192

-- a reply that is a refusal
abbrev pub is_refusal : List ℕ → Bool
is_refusal reply = eqb (get_or reply 0 0) 0xFF

-- what a command gives: the panel afterwards and the bytes of its reply
pub record Answer : Type 0 where
  pub panel : Panel
  pub reply : List ℕ

-- "a refusal .. leaves links, stay order and setters as they stood"
abbrev pub refused : Panel → Refusal → Answer
refused p r = record { panel = p; reply = 0xFF ∷ refusal_bytes r }
