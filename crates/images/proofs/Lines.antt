-- A text of frames and its lines: the bytes of the lines are the frames. Assumes nothing.
use Prim.Native.Nat.{ℕ, zero, suc, ◌+◌, ◌*◌, ◌/◌, ◌%◌, ◌<◌}
use mathlib.Core.Path.{◌≡◌, refl, ap, ap₂, ◌∙◌}
use mathlib.Core.List.{List, [], ◌∷◌, map}
use native.Mathlib.Omega.{arith}
use borrow.Author.Tests.{lt-ltb, eq-eqb}
use lib.ListN.{length}
use Rattle.std.specs.Prelude.{Some, None}
use Rattle.fieldset.specs.Lists.{All}
use Rattle.fieldset.proofs.Lists.{all_append}
use Rattle.hexadecimal.specs.Hex.{is_hex, hex_of}
use Rattle.hexadecimal.proofs.Bytes.{length_hex, bytes_hex, digits_hex}
use Rattle.lines.specs.Lines.{lines_of}
use Rattle.formulas.specs.Formulas.{Rule}
use Rattle.formulas.specs.declared.Formula.TheVariants.{Ratio, Sum}
use Rattle.frames.specs.Texts.{written}
use Rattle.frames.specs.Frames.{formula_in, formula_bytes}
use Rattle.frames.proofs.Outputs.{lines_all}
use Rattle.images.specs.Images.{gather}
use Rattle.images.specs.Entries.{line_bytes}

abbrev pub Bytes : List ℕ → Type 0
Bytes = All (λ b. b < 256)

abbrev pub Frames : List (List ℕ) → Type 0
Frames = All Bytes

pub all_gather : {A : Type 0} (P : A → Type 0) (f : ℕ → List A) (n : ℕ) → ((i : ℕ) → i < n → All P (f i)) → All P (gather f n)
unfolding gather
all_gather P f zero h = tt
all_gather P f (suc n) h = all_append P (gather f n) (f n) (all_gather P f n (λ i l. h i (omega arith))) (h n (omega arith))

line_bytes_lem : (f : List ℕ) → Bytes f → line_bytes (hex_of f) ≡ f
unfolding line_bytes is_hex hex_of
line_bytes_lem [] h = refl
line_bytes_lem (b ∷ f) h =
    let e : length (hex_of (b ∷ f)) ≡ 2 * length (b ∷ f) = length_hex (b ∷ f) in
    rw (lt-ltb 0 (length (hex_of (b ∷ f))) (omega arith), eq-eqb (length (hex_of (b ∷ f)) % 2) 0 (omega arith), digits_hex (b ∷ f) h) (bytes_hex (b ∷ f) h)

bytes_lines : (fs : List (List ℕ)) → Frames fs → map line_bytes (map hex_of fs) ≡ fs
bytes_lines [] h = refl
bytes_lines (f ∷ fs) (k, h) = ap₂ (λ (x : List ℕ) (y : List (List ℕ)). x ∷ y) (line_bytes_lem f k) (bytes_lines fs h)

-- the frames of a text
pub frames_written : (fs : List (List ℕ)) → Frames fs → map line_bytes (lines_of (written fs)) ≡ fs
frames_written fs h = ap (map line_bytes) (lines_all fs) ∙ bytes_lines fs h

-- the formula of a frame
pub formula_back : (r : Rule) → formula_in (formula_bytes r) ≡ r
formula_back None = refl
formula_back (Some (Ratio p q)) = ap₂ (λ (p q : ℕ). Some (Ratio p q)) (halves p) (halves q)
  where
    halves : (x : ℕ) → x / 256 * 256 + x % 256 ≡ x
    halves x = omega arith
formula_back (Some (Sum f)) = refl
