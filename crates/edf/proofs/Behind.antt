-- Bytes behind the header play no part: each part of the header of a longer file is that of its start, so the checks and the flows are (`behind_flows`,
-- `behind_refusal`). Assumes nothing.
use mathlib.Core.Path.{◌≡◌, refl, ap, ◌∙◌}
use mathlib.Core.List.{List, ◌++◌}
use Prim.Native.Nat.{ℕ, ◌+◌, ◌*◌, ◌≤◌, ◌<◌}
use native.Mathlib.Omega.{arith}
use lib.ListN.{length, take, drop, length-append, length-drop}
use lib.Seq.{take-append-le, drop-append-le}
use borrow.Author.Tests.{le-ltb}
use Rattle.fieldset.specs.Numbers.{count, any}
use Rattle.fieldset.proofs.Numbers.{count_cong, any_cong}
use Rattle.edf.specs.Texts.{number_of, is_flow, is_unclear}
use Rattle.edf.specs.Header.{part_of, length_text, count_text, count_of, header_length, unit_text, flows_of, is_bad_header, has_unclear, refusal_for}

part_behind : (file more : List ℕ) (from width : ℕ) → from + width ≤ length file → part_of (file ++ more) from width ≡ part_of file from width
part_behind file more from width h =
    ap (take width) (drop-append-le from file more (omega arith)) ∙ take-append-le width (drop from file) more (omega (arith, length-drop from file))

-- the file has its first 256 bytes
module _ (file more : List ℕ) (block : 256 ≤ length file) where
  count_text_lem : count_text (file ++ more) ≡ count_text file
  unfolding count_text
  count_text_lem = part_behind file more 252 4 (omega arith)

  length_text_lem : length_text (file ++ more) ≡ length_text file
  unfolding length_text
  length_text_lem = part_behind file more 184 8 (omega arith)

  pub count_behind : count_of (file ++ more) ≡ count_of file
  count_behind = ap number_of count_text_lem

  -- and is not shorter than its header
  module _ (long : header_length (count_of file) ≤ length file) where
    unit_behind : (j : ℕ) → j < count_of file → unit_text (file ++ more) (count_of file) j ≡ unit_text file (count_of file) j
    unfolding unit_text
    unit_behind j h = part_behind file more (256 + count_of file * 96 + j * 8) 8 (omega arith)

    pub behind_flows : flows_of (file ++ more) ≡ flows_of file
    unfolding flows_of
    behind_flows =
        ap (λ (n : ℕ). count (λ j. is_flow (unit_text (file ++ more) n j)) n) count_behind
        ∙ count_cong _ _ (count_of file) (λ j h. ap is_flow (unit_behind j h))

    unclear_behind : has_unclear (file ++ more) ≡ has_unclear file
    unfolding has_unclear
    unclear_behind =
        ap (λ (n : ℕ). any (λ j. is_unclear (unit_text (file ++ more) n j)) n) count_behind
        ∙ any_cong _ _ (count_of file) (λ j h. ap is_unclear (unit_behind j h))

    bad_behind : is_bad_header (file ++ more) ≡ is_bad_header file
    unfolding is_bad_header
    bad_behind =
        rw (
          count_behind,
          count_text_lem,
          length_text_lem,
          le-ltb (length file) (header_length (count_of file)) long,
          le-ltb (length (file ++ more)) (header_length (count_of file)) (omega (arith, length-append file more)),
        )
        refl

    pub behind_refusal : refusal_for (file ++ more) ≡ refusal_for file
    unfolding refusal_for
    behind_refusal = rw (bad_behind, unclear_behind, behind_flows) refl
