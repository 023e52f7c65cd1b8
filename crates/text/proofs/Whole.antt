-- A run over all lines, and the whole output, whatever answers the lines. With room for a longest reply to each line a run does not stop before the
-- text's end (`none_left`), so the lines answered are all (`all_done`); the tally's line put behind their replies ends the output (`stored`,
-- `total`). Assumes nothing.
use mathlib.Core.Path.{◌≡◌, refl, sym, ap, ap₂, ◌∙◌}
use mathlib.Core.Bool.{true, false}
use mathlib.Core.List.{List, [], ◌∷◌, ◌++◌}
use native.Mathlib.Decide.{dec_lt}
use Prim.Native.Nat.{ℕ, ◌+◌, ◌-◌, ◌*◌, ◌≤◌, ◌<◌}
use native.Mathlib.Omega.{arith}
use lib.ListN.{length, get_or, take, drop, length-append, length-drop}
use lib.Seq.{sets, take_all}
use Rattle.hexadecimal.specs.Hex.{line_of}
use Rattle.hexadecimal.proofs.Bytes.{length_line}
use Rattle.fieldset.proofs.Tables.{sets_append}
use Rattle.tally.specs.declared.Tally.{Tally}
use Rattle.tally.specs.Tallies.{three_bytes, tally_bytes}
use Rattle.lines.specs.Lines.{lines_of}
use Rattle.lines.proofs.Lines.{lines_on, lines_end}
use Rattle.frames.specs.Texts.{LineAnswer, state_after, replies, tally_after, written, output, is_too_long}
use Rattle.replies.specs.Replies.{longest}
use Rattle.answering.specs.Runs.{Reached, Ran, Paced}
use Rattle.std.specs.Prelude.{Some, None}
use Rattle.text.specs.Outcomes.{tally_length, whole_output, outcome_of, buffer_after, tally_at_end, Told}

-- the tally's bytes in the parts that are written
pub tally_parts : (b : List ℕ) (t : Tally) → b ≡ tally_bytes t → get_or b 0 0 ∷ get_or b 1 0 ∷ take 9 (drop 2 b) ≡ tally_bytes t
unfolding tally_bytes three_bytes
tally_parts b t e = ap (λ (x : List ℕ). get_or x 0 0 ∷ get_or x 1 0 ∷ take 9 (drop 2 x)) e

pub tally_length_lem : (t : Tally) → length (line_of (tally_bytes t)) ≡ tally_length
unfolding tally_bytes three_bytes
tally_length_lem t = length_line (tally_bytes t)

module _ {S : Type 0} (answer : LineAnswer S) {scan : ℕ → S → List ℕ → ℕ} (Legal : S → Type 0) where
  -- with room for all of the lines none is left
  none_left : (text : List ℕ) (room n : ℕ) (s : S) (t : Tally) (before after : List ℕ) (r : Reached S)
      → Ran answer scan Legal text (lines_of text) n s t before after r → Paced text 0 room n r → longest * length (lines_of text) ≤ room → length text ≤ r.next
  none_left text room n s t before after r ran paced h = go (dec_lt r.next (length text)) where
    go : Dec (r.next < length text) → length text ≤ r.next
    go (yes l) =
        let more = ap length (sym ran.rest ∙ lines_on text r.next _ l refl) in
        absurd (omega (arith, paced.stops l, paced.paced, more, length-drop n (lines_of text)))
    go (no l) = omega arith

  module _ (text before middle : List ℕ) (t : Tally) (n : ℕ) (p s : S) (r : Reached S) (room : ℕ)
      (starts : p ≡ s) (ran : Ran answer scan Legal text (lines_of text) n p t before middle r) (paced : Paced text 0 room n r)
      (enough : longest * length (lines_of text) ≤ room) where
    all_done : take n (lines_of text) ≡ lines_of text
    all_done =
        let none : drop n (lines_of text) ≡ [] = sym ran.rest ∙ lines_end text r.next (none_left text room n p t before middle r ran paced enough) in
        take_all n (lines_of text) (omega (arith, ap length none, length-drop n (lines_of text)))

    -- the state after the text
    pub state_done : r.state ≡ state_after answer s (lines_of text)
    state_done = ran.state ∙ ap₂ (state_after answer) starts all_done

  module _ (text before middle after : List ℕ) (t : Tally) (n k : ℕ) (p s : S) (r : Reached S) (room : ℕ)
      (starts : p ≡ s) (ran : Ran answer scan Legal text (lines_of text) n p t before middle r) (paced : Paced text 0 room n r)
      (enough : longest * length (lines_of text) ≤ room) (put : after ≡ sets middle r.written (line_of (tally_bytes r.tally)))
      (size : k ≡ r.written + length (line_of (tally_bytes r.tally))) where
    abbrev answers : List (List ℕ)
    answers = replies answer s (lines_of text)

    -- the lines that were answered are all, from the start on
    same : replies answer p (take n (lines_of text)) ≡ answers
    same = ap₂ (replies answer) starts (all_done text before middle t n p s r room starts ran paced enough)

    tally_done : r.tally ≡ tally_after t answers
    tally_done = ran.tally ∙ ap (tally_after t) same

    abbrev last : List ℕ
    last = line_of (tally_bytes (tally_after t answers))

    ends : whole_output answer s t text ≡ written answers ++ last
    unfolding output
    ends = refl

    place : r.written ≡ 0 + length (written answers)
    place = ran.count ∙ ap (λ (rs : List (List ℕ)). length (written rs)) same ∙ omega arith

    stored : after ≡ sets before 0 (whole_output answer s t text)
    stored =
        put
        ∙ ap (λ (u : Tally). sets middle r.written (line_of (tally_bytes u))) tally_done
        ∙ ap₂ (λ (l : List ℕ) (i : ℕ). sets l i last) (ran.buffer ∙ ap (λ (rs : List (List ℕ)). sets before 0 (written rs)) same) place
        ∙ sets_append before 0 (written answers) last ∙ ap (sets before 0) (sym ends)

    total : k ≡ length (whole_output answer s t text)
    total =
        let e : k ≡ r.written + length last = size ∙ ap (λ (u : Tally). r.written + length (line_of (tally_bytes u))) tally_done in
        omega (arith, e, place, ap length ends, length-append (written answers) last)

    pub whole_text : is_too_long text ≡ false → Told answer s t text r.tally before after (Some k)
    unfolding outcome_of buffer_after tally_at_end
    whole_text short = record {
      outcome = simp short (ap (λ (i : ℕ). 0x00 ∷ i ∷ []) total);
      buffer = simp short stored;
      tally = simp short tally_done;
    }

module _ {S : Type 0} (answer : LineAnswer S) where
  pub too_long : (text before : List ℕ) (s : S) (t : Tally) → is_too_long text ≡ true → Told answer s t text t before before None
  unfolding outcome_of buffer_after tally_at_end
  too_long text before s t long = record { outcome = simp long; buffer = simp long; tally = simp long }
