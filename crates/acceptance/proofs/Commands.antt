-- Lines and the commands that they give: a line changes the sheet as its command does, or not at all where it gives none, so a text's lines leave
-- the sheet of their commands (by induction on the lines), and condition 3 of these is one of every text. Assumes nothing.
use mathlib.Core.Path.{◌≡◌, refl, sym, ap, subst, ◌∙◌}
use mathlib.Core.Bool.{true}
use mathlib.Core.List.{[], ◌∷◌, filter_map}
use mathlib.Core.Option.{Option, none, some, Option-elim}
use Rattle.panel.specs.Answers.{is_refusal}
use Rattle.sheet.specs.declared.Sheet.{Sheet}
use Rattle.sheet.specs.Commands.{Command}
use Rattle.optimality.specs.Condition3.{Store, stepped, after}
use Rattle.exactness.specs.Values.{Exact, EnteredExactly}
use Rattle.exactness.specs.Systems.{sheets}
use Rattle.exactness.specs.Beginnings.{start_of}
use Rattle.exactness.proofs.Values.{refused_sheet_unchanged}
use Rattle.exactness.proofs.Lists.{condition_3, values_right}
use Rattle.lines.specs.Lines.{lines_of}
use Rattle.frames.specs.Texts.{state_after}
use Rattle.frames.specs.Frames.{line_answer, answered, frame_of, command_of, sheet_after}
use Rattle.frames.proofs.Outputs.{state_more}
use Rattle.acceptance.specs.Lines.{commands_of, LinesAsCommands, AfterEveryText, LastLineExact, RefusedLineUnchanged}

pub lines_as_commands : LinesAsCommands
unfolding state_after line_answer commands_of filter_map after stepped
lines_as_commands p b [] = refl
lines_as_commands p b (l ∷ ls) = go (command_of (frame_of l)) (λ q d. lines_as_commands q d ls) where
  go : (c : Option Command) → ((q : Sheet) (d : Store) → sheet_after q ls ≡ (after sheets (record { state = q; store = d }) (commands_of ls)).state)
      → sheet_after (answered p (frame_of l) c).state ls
      ≡ (after sheets (record { state = p; store = b }) (Option-elim c (commands_of ls) (λ x. x ∷ commands_of ls))).state
  go none rest = rest p b
  go (some c) rest = rest _ _

pub after_every_text : AfterEveryText
after_every_text x text = record {
  optimal = condition_3 x (commands_of (lines_of text));
  exact = values_right x (commands_of (lines_of text));
  sheet = sym (lines_as_commands (start_of x).state (start_of x).store (lines_of text));
}

-- the last line's answer leaves the text's sheet
pub last_line_exact : LastLineExact
unfolding line_answer
last_line_exact x text lines line f v e c ok =
    let s = (start_of x).state in
    subst (λ (t : Sheet). Exact (sheet_after s lines) t f v) (sym (ap (sheet_after s) e ∙ state_more line_answer lines line s ∙ rw c refl))
    (subst EnteredExactly (sym (lines_as_commands s (start_of x).store lines)) (values_right x (commands_of lines)) f v (rw c at ok))

pub refused_line_unchanged : RefusedLineUnchanged
unfolding line_answer
refused_line_unchanged p line = go (command_of (frame_of line)) where
  go : (c : Option Command) → is_refusal (answered p (frame_of line) c).reply ≡ true → (answered p (frame_of line) c).state ≡ p
  go none e = refl
  go (some c) e = refused_sheet_unchanged p c e
