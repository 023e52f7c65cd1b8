-- Reading a saved text into a panel (document 02, request 7). Quotations are of that request.
use Rattle.std.specs.Prelude.{ℕ, ◌≡◌, Bool, true, false, not, ◌&&◌, ◌||◌, cond, List, [], ◌∷◌, eqb, length, take}
use Rattle.std.proofs.Math.Option.{Option, none, some}
use Rattle.fieldset.specs.Numbers.{any}
use Rattle.fieldset.specs.Tables.{at}
use Rattle.panel.specs.declared.Panel.{Panel}
use Rattle.panel.specs.declared.Refusal.TheVariants.{TextTooLong, AlreadyOpen, UnknownVersion, BadImage, Unfit}
use Rattle.panel.specs.Items.{Item, link, link_at, waits}
use Rattle.panel.specs.Solution.{is_looped, least_blocked}
use Rattle.panel.specs.Answers.{is_refusal}
use Rattle.panel.specs.Commands.{is_open, Check, check, check_reply}
use Rattle.sheet.specs.declared.Sheet.{Sheet}
use Rattle.sheet.specs.Commands.{Answer}
use Rattle.hexadecimal.specs.Hex.{is_hex, bytes_of}
use Rattle.frames.specs.Texts.{is_too_long}
use Rattle.images.specs.Images.{image_of}
use Rattle.images.specs.Entries.{candidate}
use Rattle.images.specs.Forms.{is_formed}

-- the version that is written
abbrev pub version : ℕ
version = 1

-- the versions that are read
abbrev pub is_version : ℕ → Bool
is_version v = eqb v version

-- the length of the longest text of a panel: 64 fields with a value each, and 128 links of eight fields, each with a sum
abbrev pub longest : ℕ
longest = 5322

-- "the first line begins with byte 0A and a second byte that is no known version": its first four characters
unfoldable pub is_unknown : List ℕ → Bool
is_unknown text =
    let start = take 4 text in
    eqb (length start) 4 && (is_hex start && (eqb (at (bytes_of start) 0) 0x0A && not (is_version (at (bytes_of start) 1))))

-- two texts are equal
unfoldable pub same : List ℕ → List ℕ → Bool
same [] [] = true
same [] (b ∷ bs) = false
same (a ∷ s) [] = false
same (a ∷ s) (b ∷ t) = eqb a b && same s t

-- a formed sheet that has this text
pub record Good (text : List ℕ) (s : Sheet) : Type 0 where
  pub formed : is_formed s ≡ true
  pub is_text : image_of version s ≡ text

-- BadImage: the sheet that the text's lines enter is not formed, or its text is another one. Which texts that are, the request's words say in crate
-- `layout` (`ImagesExactly`)
unfoldable pub is_bad : List ℕ → Bool
is_bad text = not (is_formed (candidate text) && same (image_of version (candidate text)) text)

abbrev pub is_some : Option Item → Bool
is_some none = false
is_some (some c) = true

-- "a required link waiting"
unfoldable pub is_short : Panel → Bool
is_short p = any (λ i. eqb (link_at p.links i).level 0 && waits p.size p.links p.setter (link i)) 128

-- Unfit "(a loop, a blocked link or stay, a required link waiting)"
unfoldable pub is_unfit : Panel → Bool
is_unfit p = is_looped p || (is_some (least_blocked p) || is_short p)

-- "TextTooLong as before comes first; after AlreadyOpen come 19 BadImage .., with 20 UnknownVersion checked just before it .., and 21 Unfit last"
abbrev pub read_checks : Sheet → List ℕ → List Check
read_checks s text =
    check (is_too_long text) TextTooLong
    ∷ check (is_open s.panel) AlreadyOpen
    ∷ check (is_unknown text) UnknownVersion
    ∷ check (is_bad text) BadImage
    ∷ check (is_unfit (candidate text).panel) Unfit
    ∷ []

-- "Reading replies 0000, or FF and the number with nothing changed"
unfoldable pub read : Sheet → List ℕ → Answer
read s text =
    let reply = check_reply (read_checks s text) in
    record { sheet = cond (is_refusal reply) s (candidate text); reply = reply }
