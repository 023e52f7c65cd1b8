-- The saved text of a panel (document 02, request 7). Quotations are of that request, or of document 01 where that is said.
use Rattle.std.specs.Prelude.{ℕ, zero, suc, ◌+◌, ◌/◌, ◌%◌, cond, List, [], ◌∷◌, ◌++◌, eqb, ℤ, Some, None}
use Rattle.fieldset.specs.Numbers.{lowest}
use Rattle.fieldset.specs.Tables.{at, tabulate}
use Rattle.fieldset.specs.Fields.{member}
use Rattle.panel.specs.declared.Standing.{Standing}
use Rattle.panel.specs.declared.Standing.TheVariants.{Waiting, Holding}
use Rattle.panel.specs.declared.Link.{Link}
use Rattle.panel.specs.Items.{link_at}
use Rattle.values.specs.Limits.{value_at}
use Rattle.values.specs.Words.{bits_of}
use Rattle.formulas.specs.Formulas.{Rule}
use Rattle.formulas.specs.declared.Formula.TheVariants.{Ratio, Sum}
use Rattle.sheet.specs.declared.Sheet.{Sheet}
use Rattle.sheet.specs.Sheets.{formula_at}
use Rattle.frames.specs.Texts.{written}
use Rattle.frames.specs.Frames.{formula_bytes}

-- f 0, then f 1, .., then f (n - 1)
unfoldable pub gather {ℓ} : {A : Type ℓ} → (ℕ → List A) → ℕ → List A
gather f zero = []
gather f (suc n) = gather f n ++ f n

-- ---- the order of the stays

-- the field whose stay stands at a place; 64 where there is none
unfoldable pub field_at : List ℕ → ℕ → ℕ → ℕ
field_at place n p = lowest (λ f. eqb (at place f) p) n 64

-- "the n fields, strongest stay first"
unfoldable pub stay_order : List ℕ → ℕ → List ℕ
stay_order place n = tabulate (field_at place n) n

-- ---- links

-- "low six bits the field, bit 7 set if it is an output" (document 01)
abbrev pub field_byte : ℕ → ℕ → ℕ
field_byte outputs u = cond (member outputs u) (u + 128) u

abbrev pub field_piece : ℕ → ℕ → ℕ → List ℕ
field_piece covered outputs u = cond (member covered u) (field_byte outputs u ∷ []) []

-- "its field bytes"; "Field numbers rise strictly" (document 01)
unfoldable pub field_bytes : ℕ → ℕ → List ℕ
field_bytes covered outputs = gather (field_piece covered outputs) 64

-- "standing being the held field or FF"
abbrev pub standing_byte : Standing → ℕ
standing_byte Waiting = 0xFF
standing_byte (Holding f) = f

-- "0C id level standing and its field bytes"
abbrev pub link_frame : ℕ → Link → List ℕ
link_frame i l = 0x0C ∷ i ∷ l.level ∷ standing_byte l.standing ∷ field_bytes l.covered l.outputs

-- of a number not in use there is none
abbrev pub link_frames : ℕ → Link → List (List ℕ)
link_frames i l = cond l.used (link_frame i l ∷ []) []

abbrev pub link_piece : List Link → ℕ → List (List ℕ)
link_piece links i = link_frames i (link_at links i)

-- ---- formulas

-- "formulas as 08 frames"; a link without formula has none
abbrev pub formula_frames : ℕ → Rule → List (List ℕ)
formula_frames i None = []
formula_frames i (Some (Ratio p q)) = (0x08 ∷ i ∷ formula_bytes (Some (Ratio p q))) ∷ []
formula_frames i (Some (Sum f)) = (0x08 ∷ i ∷ formula_bytes (Some (Sum f))) ∷ []

abbrev pub formula_piece : List Rule → ℕ → List (List ℕ)
formula_piece formulas i = formula_frames i (formula_at formulas i)

-- ---- values

-- a number of 32 bits, "most significant first" (request 1)
abbrev pub four_bytes : ℕ → List ℕ
four_bytes n = n / 16777216 ∷ n / 65536 % 256 ∷ n / 256 % 256 ∷ n % 256 ∷ []

-- "0D f and four value bytes for each field whose value is not zero", the value in two's complement
abbrev pub value_frames : ℕ → ℕ → List (List ℕ)
value_frames f bits = cond (eqb bits 0) [] ((0x0D ∷ f ∷ four_bytes bits) ∷ [])

abbrev pub value_piece : List ℤ → ℕ → List (List ℕ)
value_piece values f = value_frames f (bits_of (value_at values f))

-- ---- the whole text

-- "0A 01 n; 0B and the n fields ..; for each link by rising number 0C ..; formulas .. by rising link number; 0D .., rising", with the version's number
unfoldable pub frames_of : ℕ → Sheet → List (List ℕ)
frames_of version s =
    let p = s.panel in
    (0x0A ∷ version ∷ p.size ∷ [])
    ∷ (0x0B ∷ stay_order p.place p.size)
    ∷ (gather (link_piece p.links) 128 ++ (gather (formula_piece s.formulas) 128 ++ gather (value_piece s.values) p.size))

-- "Every line ends in LF"
unfoldable pub image_of : ℕ → Sheet → List ℕ
image_of version s = written (frames_of version s)
