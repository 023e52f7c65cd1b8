-- The first four characters of a text: each way through the test of the version.
use Prim.Native.Nat.{ℕ, ◌+◌, ◌≤◌, ◌<◌}
use mathlib.Core.Path.{◌≡◌, refl, sym, ap, ◌∙◌}
use mathlib.Core.Bool.{Bool, true, false, not, and-false}
use mathlib.Core.List.{List, ◌++◌}
use native.Mathlib.Omega.{arith}
use lib.Dec.{eqb}
use lib.ListN.{length, get_or, take, drop, get_or-append}
use lib.Seq.{sets-eq, length-take-le, take_all}
use borrow.Author.Tests.{eq-eqb, ne_eqb}
use Rattle.std.specs.Prelude.{Result, Ok, Err, is_err}
use Rattle.fieldset.specs.Tables.{at}
use Rattle.hexadecimal.specs.Hex.{is_hex, bytes_of}
use Rattle.hexadecimal.specs.Answers.{decoded_values, decoded, frame_after}
use Rattle.hexadecimal.specs.declared.BadHex.{BadHex}
use Rattle.hexadecimal.proofs.Bytes.{length_bytes_lem}
use Rattle.frames.proofs.Reading.{bad_told, frame_told}
use Rattle.images.specs.Reading.{is_unknown}

-- decoding refuses what is not hexadecimal
pub refuses : (line : List ℕ) (d : Result ℕ BadHex) → decoded_values d ≡ decoded line → is_hex line ≡ not (is_err d)
refuses line (Ok n) told = (frame_told line n told).0
refuses line (Err e) told = (bad_told line e told).0

module _ (text : List ℕ) where
  pub short_known : length text < 4 → false ≡ is_unknown text
  unfolding is_unknown
  short_known l = rw (ne_eqb (length (take 4 text)) 4 (λ q. omega (arith, ap length (take_all 4 text (omega arith)))))

  module _ (long : 4 ≤ length text) where
    four : length (take 4 text) ≡ 4
    four = length-take-le 4 text long

    pub bad_known : is_hex (take 4 text) ≡ false → false ≡ is_unknown text
    unfolding is_unknown
    bad_known e = rw e (sym (and-false (eqb (length (take 4 text)) 4)))

    module _ (hex : is_hex (take 4 text) ≡ true) (frame after : List ℕ) (full : length frame ≡ 12) (filled : after ≡ frame_after (take 4 text) frame) where
      byte : (i : ℕ) → i < 2 → get_or after i 0 ≡ at (bytes_of (take 4 text)) i
      unfolding frame_after
      byte i l =
          let two : length (bytes_of (take 4 text)) ≡ 2 = omega (arith, length_bytes_lem (take 4 text), four) in
          let whole : after ≡ bytes_of (take 4 text) ++ drop (0 + length (bytes_of (take 4 text))) frame =
          filled ∙ rw hex (sets-eq (bytes_of (take 4 text)) frame 0 (omega arith)) in
          ap (λ (x : List ℕ). get_or x i 0) whole
          ∙ get_or-append (bytes_of (take 4 text)) (drop (0 + length (bytes_of (take 4 text))) frame) 0 i (omega arith)

      pub other_known : {b : Bool} → b ≡ eqb (get_or after 0 0) 0x0A → b ≡ false → b ≡ is_unknown text
      unfolding is_unknown
      other_known is other =
          other ∙ rw (eq-eqb (length (take 4 text)) 4 four, hex, ← byte 0 (omega arith), ← is, other)

      pub version_known : get_or after 0 0 ≡ 0x0A → not (eqb (get_or after 1 0) 1) ≡ is_unknown text
      unfolding is_unknown
      version_known h =
          rw (eq-eqb (length (take 4 text)) 4 four, hex, eq-eqb (at (bytes_of (take 4 text)) 0) 0x0A (sym (byte 0 (omega arith)) ∙ h), byte 1 (omega arith)) refl
