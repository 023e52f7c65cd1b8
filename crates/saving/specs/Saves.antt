-- Saving (document 02, request 7): a text is "written only from an open one (else NotOpen, the lent buffer unchanged)".
use Rattle.std.specs.Prelude.{ℕ, ◌≡◌, cond, List, [], ◌∷◌, length, Option, Some, None}
use Rattle.std.proofs.lemmas.List.Edits.{sets}
use Rattle.panel.specs.declared.Refusal as refusal
use Rattle.panel.specs.Answers.{refusal_bytes}
use Rattle.panel.specs.Commands.{is_open}
use Rattle.sheet.specs.declared.Sheet.{Sheet}
use Rattle.images.specs.Images.{image_of}
use Rattle.images.specs.Reading.{version}

-- 00 and the length of a text
abbrev pub length_bytes : ℕ → List ℕ
length_bytes n = 0x00 ∷ n ∷ []

-- FF and the number of NotOpen
abbrev pub not_open : List ℕ
not_open = 0xFF ∷ refusal_bytes refusal.TheVariants.NotOpen

-- what saving answers, by its numbers and values
abbrev pub saved_values : Option ℕ → List ℕ
saved_values None = not_open
saved_values (Some n) = length_bytes n

-- what it answers of a sheet, and what it leaves in the lent buffer
pub record SavedAs (s : Sheet) (before after : List ℕ) (r : Option ℕ) : Type 0 where
  pub answer : saved_values r ≡ cond (is_open s.panel) (length_bytes (length (image_of version s))) not_open
  pub buffer : after ≡ cond (is_open s.panel) (sets before 0 (image_of version s)) before
