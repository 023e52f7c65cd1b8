-- Writing a line: runs of stores, each behind the one before, are one run (`sets_append`), byte by byte and then part by part.
use mathlib.Core.Path.{◌≡◌, refl, sym, ap, ap₂, ◌∙◌}
use mathlib.Core.List.{List, [], ◌∷◌, ◌++◌}
use Prim.Native.Nat.{ℕ, ◌+◌, ◌*◌, ◌/◌, ◌%◌, ◌<◌}
use native.Mathlib.Numerals.{add-one}
use native.Mathlib.Omega.{arith}
use lib.ListN.{length, get_or, take, set, length-take}
use lib.Seq.{sets, take-suc}
use Rattle.fieldset.proofs.Tables.{sets_append}
use Rattle.hexadecimal.specs.Hex.{char_of, hex_of, line_of}
use Rattle.hexadecimal.proofs.Bytes.{length_hex, length_line}

pub hex_append : (a b : List ℕ) → hex_of (a ++ b) ≡ hex_of a ++ hex_of b
unfolding hex_of
hex_append [] b = refl
hex_append (x ∷ a) b = ap (λ (t : List ℕ). char_of (x / 16) ∷ char_of (x % 16) ∷ t) (hex_append a b)

-- a byte's two digits
pub byte_put : (o o₁ o₂ d : List ℕ) (at b : ℕ) → d ≡ hex_of (b ∷ []) → o₁ ≡ set o at (get_or d 0 0) → o₂ ≡ set o₁ (at + 1) (get_or d 1 0)
    → o₂ ≡ sets o at (hex_of (b ∷ []))
unfolding hex_of
byte_put o o₁ o₂ d at b ed e₁ e₂ =
    e₂ ∙ ap₂ (λ (l : List ℕ) (z : ℕ). set l (at + 1) z) (e₁ ∙ ap (λ (l : List ℕ). set o at (get_or l 0 0)) ed) (ap (λ (l : List ℕ). get_or l 1 0) ed)
    ∙ ap (λ (k : ℕ). set (set o at (char_of (b / 16))) k (char_of (b % 16))) (add-one at)

-- the first i bytes are written at p
pub record Written (bytes before after : List ℕ) (p i : ℕ) : Type 0 where
  pub digits : after ≡ sets before p (hex_of (take i bytes))

pub written_none : (bytes o : List ℕ) (p : ℕ) → Written bytes o o p 0
unfolding hex_of
written_none bytes o p = record { digits = refl }

pub written_more : (bytes o q after : List ℕ) (p i : ℕ) → Written bytes o q p i → i < length bytes
    → after ≡ sets q (p + 2 * i) (hex_of (get_or bytes i 0 ∷ [])) → Written bytes o after p (i + 1)
written_more bytes o q after p i was less e = record { digits = e ∙ more } where
  place : p + 2 * i ≡ p + length (hex_of (take i bytes))
  place = omega (arith, length_hex (take i bytes), length-take i bytes)

  more : sets q (p + 2 * i) (hex_of (get_or bytes i 0 ∷ [])) ≡ sets o p (hex_of (take (i + 1) bytes))
  more =
      ap₂ (λ (l : List ℕ) (k : ℕ). sets l k (hex_of (get_or bytes i 0 ∷ []))) was.digits place
      ∙ sets_append o p (hex_of (take i bytes)) (hex_of (get_or bytes i 0 ∷ []))
      ∙ ap (sets o p) (sym (hex_append (take i bytes) (get_or bytes i 0 ∷ []))
      ∙ ap hex_of (sym (take-suc bytes i 0 less) ∙ ap (λ (k : ℕ). take k bytes) (sym (add-one i))))

-- a whole line: two bytes, further ones, LF
line_done : (o : List ℕ) (at a b : ℕ) (r : List ℕ)
    → set (sets (sets (sets o at (hex_of (a ∷ []))) (at + 2) (hex_of (b ∷ []))) (at + 4) (hex_of r)) (at + 4 + 2 * length r) 10
    ≡ sets o at (line_of (a ∷ b ∷ r))
unfolding line_of hex_of
line_done o at a b r =
    let q : List ℕ = sets (sets o at (hex_of (a ∷ []))) (at + 2) (hex_of (b ∷ [])) in
    let e : at + 4 + 2 * length r ≡ at + 4 + length (hex_of r) = omega (arith, length_hex r) in
    ap (λ (k : ℕ). set (sets q (at + 4) (hex_of r)) k 10) e
    ∙ sets_append q (at + 4) (hex_of r) (10 ∷ [])
    ∙ ap (λ (t : List ℕ). sets t (at + 4) (hex_of r ++ (10 ∷ []))) (sets_append o at (hex_of (a ∷ [])) (hex_of (b ∷ [])))
    ∙ sets_append o at (hex_of (a ∷ b ∷ [])) (hex_of r ++ (10 ∷ []))

pub line_put : (rest o o₁ o₂ o₃ o₄ : List ℕ) (at a b : ℕ)
    → o₁ ≡ sets o at (hex_of (a ∷ [])) → o₂ ≡ sets o₁ (at + 2) (hex_of (b ∷ [])) → o₃ ≡ sets o₂ (at + 4) (hex_of rest)
    → o₄ ≡ set o₃ (at + 4 + 2 * length rest) 10
    → (o₄ ≡ sets o at (line_of (a ∷ b ∷ rest))) × (at + 5 + 2 * length rest ≡ at + length (line_of (a ∷ b ∷ rest)))
line_put rest o o₁ o₂ o₃ o₄ at a b e₁ e₂ e₃ e₄ = (
  e₄ ∙ ap (λ (l : List ℕ). set l (at + 4 + 2 * length rest) 10) (e₃ ∙ ap (λ (l : List ℕ). sets l (at + 4) (hex_of rest))
      (e₂ ∙ ap (λ (l : List ℕ). sets l (at + 2) (hex_of (b ∷ []))) e₁))
      ∙ line_done o at a b rest,
  omega (arith, length_line (a ∷ b ∷ rest)),
)
