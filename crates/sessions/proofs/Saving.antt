-- What is written of the panel after a text: by cases on its length and on what saving answers. Assumes nothing.
use Prim.Native.Nat.{ℕ, ◌+◌, ◌≤◌}
use mathlib.Core.Path.{◌≡◌, refl, sym, ap, ap₂, ◌∙◌}
use mathlib.Core.Bool.{Bool, true, false, cond}
use mathlib.Core.List.{List, [], ◌∷◌}
use native.Mathlib.Omega.{arith}
use lib.ListN.{length}
use lib.Seq.{sets}
use Rattle.fieldset.specs.Tables.{at}
use Rattle.panel.specs.declared.Refusal.TheVariants.{TextTooLong}
use Rattle.panel.specs.Answers.{refusal_bytes}
use Rattle.panel.specs.Commands.{is_open}
use Rattle.sheet.specs.declared.Sheet.{Sheet}
use Rattle.sheet.specs.Sheets.{unopened}
use Rattle.hexadecimal.specs.Hex.{line_of}
use Rattle.hexadecimal.proofs.Bytes.{length_line}
use Rattle.sheet.specs.Legal.{LegalSheet}
use Rattle.lines.specs.Lines.{lines_of}
use Rattle.frames.specs.Texts.{is_too_long}
use Rattle.frames.specs.Frames.{sheet_after}
use Rattle.images.specs.Images.{image_of}
use Rattle.images.specs.Reading.{version, longest}
use Rattle.images.proofs.Lengths.{legal_length}
use Rattle.std.specs.Prelude.{Option, unwrap_or}
use Rattle.std.specs.Prelude.{Some, None}
use Rattle.saving.specs.Saves.{SavedAs, length_bytes, not_open}
use Rattle.sessions.specs.Sessions.{Short, text_of, saved_text, saved_of, saved_output}

-- what is written for a text into a buffer, and how many bytes it has
abbrev Written : List ℕ → List ℕ → List ℕ → ℕ → Type 0
Written text before after n = (after ≡ sets before 0 (saved_output text)) × ((n ≡ length (saved_output text)) × (n ≤ longest))

abbrev too_long : List ℕ
too_long = 0xFF ∷ refusal_bytes TextTooLong

pub too_long_saved : (text : List ℕ) → is_too_long text ≡ true → (before after : List ℕ) (n : ℕ) → after ≡ sets before 0 (line_of too_long)
    → n ≡ length (line_of too_long) → Written text before after n
unfolding saved_output
too_long_saved text e before after n put size =
    let whole : saved_output text ≡ line_of too_long = rw e in
    (put ∙ ap (sets before 0) (sym whole), (size ∙ ap length (sym whole), omega (arith, size, length_line too_long)))

module _ (text before after : List ℕ) (short : is_too_long text ≡ false) where
  -- the sheet after the text's lines
  abbrev sheet : Sheet
  sheet = sheet_after unopened (lines_of text)

  output : saved_output text ≡ saved_of sheet
  unfolding saved_output
  output = rw short

  image : saved_text text ≡ text_of sheet
  unfolding saved_text
  image = rw short

  -- by what saving answers it is known whether the panel is open
  module _ (n : ℕ) (a : SavedAs sheet before after (Some n)) where
    opened : (is_open sheet.panel ≡ true) × ((n ≡ length (image_of version sheet)) × (after ≡ sets before 0 (image_of version sheet)))
    opened = go (is_open sheet.panel) refl a.answer a.buffer
      where
        go : (b : Bool) → is_open sheet.panel ≡ b → length_bytes n ≡ cond b (length_bytes (length (image_of version sheet))) not_open
            → after ≡ cond b (sets before 0 (image_of version sheet)) before
            → (is_open sheet.panel ≡ true) × ((n ≡ length (image_of version sheet)) × (after ≡ sets before 0 (image_of version sheet)))
        go true o e f = (o, (ap (λ (x : List ℕ). at x 1) e, f))
        go false o e f = absurd (let z : ◌≡◌ {A = ℕ} 0x00 0xFF = ap (λ (x : List ℕ). at x 0) e in omega arith)

    length_short : LegalSheet sheet → n ≤ longest
    length_short legal = omega (arith, opened.1.0, legal_length version sheet legal)

    pub length_saved : n ≤ longest → Written text before after n
    length_saved few =
        let whole : saved_output text ≡ image_of version sheet = output ∙ rw opened.0 refl in
        (opened.1.1 ∙ ap (sets before 0) (sym whole), (opened.1.0 ∙ ap length (sym whole), few))

    length_text_lem : (after ≡ sets before 0 (saved_text text)) × (n ≡ length (saved_text text))
    length_text_lem =
        let whole : saved_text text ≡ image_of version sheet = image ∙ rw opened.0 refl in
        (opened.1.1 ∙ ap (sets before 0) (sym whole), opened.1.0 ∙ ap length (sym whole))

  module _ (a : SavedAs sheet before after None) where
    closed : (is_open sheet.panel ≡ false) × (after ≡ before)
    closed = go (is_open sheet.panel) refl a.answer a.buffer
      where
        go : (b : Bool) → is_open sheet.panel ≡ b → not_open ≡ cond b (length_bytes (length (image_of version sheet))) not_open
            → after ≡ cond b (sets before 0 (image_of version sheet)) before → (is_open sheet.panel ≡ false) × (after ≡ before)
        go true o e f = absurd (let z : ◌≡◌ {A = ℕ} 0xFF 0x00 = ap (λ (x : List ℕ). at x 0) e in omega arith)
        go false o e f = (o, f)

    -- its line is then written
    pub not_open_saved : (last : List ℕ) (n : ℕ) → last ≡ sets after 0 (line_of not_open) → n ≡ 0 + length (line_of not_open) → Written text before last n
    not_open_saved last n put size =
        let whole : saved_output text ≡ line_of not_open = output ∙ rw closed.0 refl in
        (put ∙ ap₂ (λ (l v : List ℕ). sets l 0 v) closed.1 (sym whole), (omega (arith, size, ap length whole), omega (arith, size, length_line not_open)))

    not_open_text : (after ≡ sets before 0 (saved_text text)) × (0 ≡ length (saved_text text))
    not_open_text =
        let whole : saved_text text ≡ [] = image ∙ rw closed.0 refl in
        (closed.1 ∙ ap (sets before 0) (sym whole), ap length (sym whole))

  -- the length that is told, 0 for none
  pub text_told : (r : Option ℕ) → SavedAs sheet before after r → (after ≡ sets before 0 (saved_text text)) × (unwrap_or r 0 ≡ length (saved_text text))
  text_told None a = not_open_text a
  text_told (Some n) a = length_text_lem n a

  -- a length that is told is that of no longer text
  pub saved_short : (r : Option ℕ) → SavedAs sheet before after r → LegalSheet sheet → Short r
  saved_short None a legal = tt
  saved_short (Some n) a legal = length_short n a legal

pub too_long_text : (text before : List ℕ) → is_too_long text ≡ true → (before ≡ sets before 0 (saved_text text)) × (0 ≡ length (saved_text text))
unfolding saved_text
too_long_text text before e = let whole : saved_text text ≡ [] = rw e in (ap (sets before 0) (sym whole), ap length (sym whole))
