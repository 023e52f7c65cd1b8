-- Where a line is wrong. A line that is no hexadecimal is refused with its offset, whatever the sheet (`bad_reply`); a frame is refused with BadFrame or
-- as its command, whose refusals are others (`command_other`); so BadHex is given exactly where `is_hex` is false, and the laws of `offset_of` say what
-- stands before the offset and at it (`wrong_at`). Assumes nothing.
use Prim.Native.Nat.{ℕ, suc, ◌%◌, ◌≤◌, ◌<◌, min}
use mathlib.Core.Path.{◌≡◌, refl, ap, ◌∙◌}
use mathlib.Core.Bool.{Bool, true, false, cond}
use mathlib.Core.List.{List, [], ◌∷◌}
use mathlib.Core.Logic.{◌⊎◌, inl, inr, ⊎_elim, ◌≢◌}
use mathlib.Core.Option.{Option, none, some}
use native.Mathlib.Decide.{ℕ_discrete, dec_lt}
use native.Mathlib.Omega.{arith}
use borrow.Author.Tests.{ltb-false, eqb-true}
use lib.Dec.{eqb}
use lib.ListN.{length}
use Rattle.fieldset.specs.Tables.{at}
use Rattle.fieldset.specs.Lists.{All}
use Rattle.fieldset.proofs.Lists.{all_map}
use Rattle.fieldset.proofs.Numbers.{clash}
use Rattle.fieldset.proofs.Tests.{and_left}
use Rattle.panel.specs.declared.Panel.{Panel}
use Rattle.panel.specs.declared.Refusal.TheVariants.{BadFrame}
use Rattle.panel.specs.Answers.{Answer, refusal_bytes, two_bytes}
use Rattle.panel.specs.Commands as panel
use Rattle.panel.specs.Commands.{touching}
use Rattle.optimality.proofs.Answers.{Outcome, Any, Not, outcome_of_lem}
use Rattle.sheet.specs.declared.Sheet.{Sheet}
use Rattle.sheet.specs.Sheets.{unopened}
use Rattle.sheet.specs.Commands.{Command, solving, entering, relating, formula_checks, performed}
use Rattle.sheet.proofs.Answers.{entering_reply, checks_reply}
use Rattle.hexadecimal.specs.Hex.{lf, is_hex, offset_of, bytes_of}
use Rattle.hexadecimal.proofs.Digits.{other_digits}
use Rattle.hexadecimal.proofs.Lines.{hex_empty, hex_odd, hex_other, hex_line}
use Rattle.hexadecimal.proofs.Offsets.{offset_within, before_offset, at_offset, end_offset}
use Rattle.lines.specs.Lines.{before, lines_of}
use Rattle.frames.specs.Texts.{refusal_of, replies, text_limit}
use Rattle.frames.specs.Frames.{fits_kind, is_frame, checked_frame, bad_hex, frame_of, command_of, answered, line_answer}
use Rattle.acceptance.specs.Replies.{Each}
use Rattle.acceptance.specs.Offsets.{IsBadHex, OtherAt, IsWrong, BadHexExactly, AtEnd, WrongAt, TellsOffset, OffsetsTold, TellsAtMost, OffsetTold}

-- ---- the offset of a line

wrong_at : (line : List ℕ) → is_hex line ≡ false → WrongAt line (offset_of line)
wrong_at line h = record { before = before_offset line; there = go (dec_lt (offset_of line) (length line)) }
  where
    ends : length line ≤ offset_of line → Dec (length line % 2 ≡ 1) → Dec (length line ≡ 0) → (length line % 2 ≡ 1) ⊎ (length line ≡ 0)
    ends l (yes o) z = inl o
    ends l (no o) (yes z) = inr z
    ends l (no o) (no z) = absurd (clash (hex_line line z o (end_offset line l)) h)

    go : Dec (offset_of line < length line) → OtherAt line (offset_of line) ⊎ AtEnd line (offset_of line)
    go (yes l) = inl (record { within = l; other = at_offset line l })
    go (no l) =
        inr (record {
          end = omega (arith, offset_within line);
          wrong_count = ends (omega arith) (ℕ_discrete (length line % 2) 1) (ℕ_discrete (length line) 0);
        })

pub wrong_within : (line : List ℕ) (offset : ℕ) → WrongAt line offset → offset ≤ length line
wrong_within line offset w = ⊎_elim (λ o. omega (arith, o.within)) (λ e. omega (arith, e.end)) w.there

is_wrong : (line : List ℕ) (offset : ℕ) → WrongAt line offset → IsWrong line
is_wrong line offset w = ⊎_elim (λ o. inr (inr (offset, o))) (λ e. ⊎_elim (λ o. inr (inl o)) inl e.wrong_count) w.there

wrong_no_hex : (line : List ℕ) → IsWrong line → is_hex line ≡ false
wrong_no_hex line (inl z) = hex_empty line z
wrong_no_hex line (inr (inl o)) = hex_odd line o
wrong_no_hex line (inr (inr (i, o))) = hex_other line (other_digits line i o.within o.other)

-- ---- who gives BadHex

panel_other : (p : Panel) (c : panel.Command) → refusal_of (panel.performed p c).reply ≢ 0x01
unfolding refusal_of
panel_other p c = go (panel.performed p c) (outcome_of_lem (Not 0x01) p (λ r h e. omega arith) (λ e. omega arith) (λ e. omega arith) c)
  where
    go : (a : Answer) → Outcome (Not 0x01) Any p a → refusal_of a.reply ≢ 0x01
    go a (Outcome.no r h) = h
    go a (Outcome.yes q bytes t) = λ e. omega arith

command_other : (s : Sheet) (c : Command) → refusal_of (performed s c).reply ≢ 0x01
unfolding refusal_of
command_other s (solving c) = panel_other s.panel c
command_other s (entering f v) =
    entering_reply (λ b. refusal_of b ≢ 0x01) s f v (panel_other s.panel (touching f)) (λ e. omega arith) (λ e. omega arith)
    (λ m l e. omega arith)
command_other s (relating id formula) =
    checks_reply (λ b. refusal_of b ≢ 0x01) (formula_checks s.panel id formula)
    (λ e. omega arith, (λ e. omega arith, (λ e. omega arith, (λ e. omega arith, (λ e. omega arith, tt))))) (λ e. omega arith)

module _ (p : Sheet) (line : List ℕ) where
  bad_reply : is_hex line ≡ false → (line_answer p line).reply ≡ 0xFF ∷ refusal_bytes (bad_hex line)
  unfolding line_answer frame_of command_of
  bad_reply h = rw h refl

  frame_other : is_hex line ≡ true → refusal_of (line_answer p line).reply ≢ 0x01
  unfolding line_answer frame_of checked_frame refusal_of is_frame fits_kind command_of
  frame_other h = rw h (go (is_frame (bytes_of line)) refl)
    where
      -- no frame begins with FF
      bytes_other : is_frame (bytes_of line) ≡ true → (b : Bool) → eqb (at (bytes_of line) 0) 0xFF ≡ b → cond b (at (bytes_of line) 1) 0 ≢ 0x01
      bytes_other f true e k =
          let fits : fits_kind (at (bytes_of line) 0) (at (bytes_of line) 2) (length (bytes_of line)) ≡ true = and_left _ _ f in
          clash (rw (eqb-true (at (bytes_of line) 0) 0xFF e) at fits) refl
      bytes_other f false e k = omega arith

      told : is_frame (bytes_of line) ≡ true → (c : Option Command) → refusal_of (answered p (bytes_of line) c).reply ≢ 0x01
      told f none = bytes_other f (eqb (at (bytes_of line) 0) 0xFF) refl
      told f (some c) = command_other p c

      go : (b : Bool) → is_frame (bytes_of line) ≡ b
          → let frame = cond b (bytes_of line) (0xFF ∷ refusal_bytes BadFrame) in
          refusal_of (answered p frame (command_of frame)).reply ≢ 0x01
      go true f = told f (command_of (bytes_of line))
      go false f = λ e. omega arith

  bad_no_hex : IsBadHex (line_answer p line).reply → is_hex line ≡ false
  bad_no_hex k = go (is_hex line) refl
    where
      go : (b : Bool) → is_hex line ≡ b → is_hex line ≡ false
      go true h = absurd (frame_other h k)
      go false h = h

  gives_bad : is_hex line ≡ false → IsBadHex (line_answer p line).reply
  unfolding refusal_of
  gives_bad h = ap refusal_of (bad_reply h)

pub bad_hex_exactly : BadHexExactly
bad_hex_exactly p line =
    (λ k. is_wrong line (offset_of line) (wrong_at line (bad_no_hex p line k)), λ w. gives_bad p line (wrong_no_hex line w))

-- ---- what the reply tells

pub offset_told : OffsetTold
offset_told p line k =
    let h = bad_no_hex p line k in
    record { offset = offset_of line; wrong = wrong_at line h; bytes = bad_reply p line h }

short_told : (line reply : List ℕ) → length line ≤ text_limit → TellsAtMost line reply → TellsOffset line reply
short_told line reply l t =
    let few : t.offset ≤ text_limit = omega (arith, wrong_within line t.offset t.wrong) in
    let same : min t.offset 0xFFFF ≡ t.offset = omega arith in
    record {
      offset = t.offset;
      wrong = t.wrong;
      bytes = t.bytes ∙ ap (λ (n : ℕ). 0xFF ∷ 0x01 ∷ two_bytes n) same;
      two = omega arith;
    }

-- no line is longer than its text
lines_within : (text : List ℕ) → All (λ line. length line ≤ length text) (lines_of text)
unfolding lines_of
lines_within [] = tt
lines_within (c ∷ s) = go (eqb c lf) (lines_of s) (all_map _ _ (λ l h. omega arith) (lines_of s) (lines_within s)) (lines_within s)
  where
    go : (b : Bool) (ls : List (List ℕ)) → All (λ line. length line ≤ suc (length s)) ls → All (λ line. length line ≤ length s) ls
        → All (λ line. length line ≤ suc (length s)) (cond b ([] ∷ ls) (before c ls))
    go true ls a h = (omega arith, a)
    go false [] a h = (omega arith, tt)
    go false (l ∷ ls) a h = (omega arith, a.1)

lines_told : (p : Sheet) (lines : List (List ℕ)) → All (λ line. length line ≤ text_limit) lines
    → Each (λ line reply. IsBadHex reply → TellsOffset line reply) lines (replies line_answer p lines)
unfolding replies
lines_told p [] a = tt
lines_told p (l ∷ ls) (h, a) = (λ k. short_told l (line_answer p l).reply h (offset_told p l k), lines_told (line_answer p l).state ls a)

pub offsets_told : OffsetsTold
offsets_told text short =
    lines_told unopened (lines_of text)
    (all_map _ _ (λ l h. omega (arith, ltb-false text_limit (length text) short)) (lines_of text) (lines_within text))
