-- The greatest length of a text, and the whole output, whatever answers the lines.
use Rattle.std.specs.Prelude.{ℕ, Bool, true, false, cond, List, [], ◌∷◌, ◌++◌, ltb, length}
use Rattle.panel.specs.declared.Refusal.TheVariants.{TextTooLong}
use Rattle.fieldset.specs.Tables.{at}
use Rattle.panel.specs.Answers.{refusal_bytes, is_refusal}
use Rattle.hexadecimal.specs.Hex.{line_of}
use Rattle.lines.specs.Lines.{lines_of}
use Rattle.tally.specs.declared.Tally.{Tally}
use Rattle.tally.specs.Tallies.{no_tally, tallied, tally_bytes}

-- ---- the length of a text

-- the greatest length of a text
abbrev pub text_limit : ℕ
text_limit = 65535

-- "TextTooLong, over 65,535 bytes"
abbrev pub is_too_long : List ℕ → Bool
is_too_long text = ltb text_limit (length text)

-- ---- replies

-- the number of a reply's refusal; 0 for a reply that is none
unfoldable pub refusal_of : List ℕ → ℕ
refusal_of reply = cond (is_refusal reply) (at reply 1) 0

-- the tally after replies
unfoldable pub tally_after : Tally → List (List ℕ) → Tally
tally_after t [] = t
tally_after t (r ∷ rs) = tally_after (tallied t (refusal_of r)) rs

-- replies, or frames, as lines
unfoldable pub written : List (List ℕ) → List ℕ
written [] = []
written (r ∷ rs) = line_of r ++ written rs

-- ---- the answers to lines

-- what a line is answered: the state afterwards and the bytes of the reply
pub record Answered (S : Type 0) : Type 0 where
  pub state : S
  pub reply : List ℕ

abbrev pub LineAnswer : Type 0 → Type 0
LineAnswer S = S → List ℕ → Answered S

module _ {S : Type 0} (answer : LineAnswer S) where
  -- the state after lines
  unfoldable pub state_after : S → List (List ℕ) → S
  state_after s [] = s
  state_after s (l ∷ ls) = state_after (answer s l).state ls

  -- the replies to lines, "one reply a line"
  unfoldable pub replies : S → List (List ℕ) → List (List ℕ)
  replies s [] = []
  replies s (l ∷ ls) =
      let a = answer s l in
      a.reply ∷ replies a.state ls

  -- "one reply a line, then the tally", from a state and a tally on
  unfoldable pub output : S → Tally → List (List ℕ) → List ℕ
  output s t lines =
      let rs = replies s lines in
      written rs ++ line_of (tally_bytes (tally_after t rs))

  -- what is written for a text, from a state on; where it is too long "No line is treated; the whole output is the line FF0C, without tally"
  unfoldable pub output_of : S → List ℕ → List ℕ
  output_of s text =
      elim (is_too_long text) [
        | true ↦ line_of (0xFF ∷ refusal_bytes TextTooLong)
        | false ↦ output s no_tally (lines_of text)
      ]
