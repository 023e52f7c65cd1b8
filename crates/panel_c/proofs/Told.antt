-- The number that stands for a text's outcome, from what `text::run_text` tells: the outcome's numbers determine it (`outcomes_apart`), by cases on
-- whether the text is too long. Assumes nothing.
use Prim.Native.Nat.{ℕ}
use mathlib.Core.Path.{◌≡◌, ap}
use mathlib.Core.Bool.{Bool, true, false, cond}
use mathlib.Core.List.{List, [], ◌∷◌}
use lib.ListN.{length}
use Rattle.panel.specs.declared.Refusal.TheVariants.{TextTooLong as TooLong}
use Rattle.panel.specs.Answers.{refusal_bytes}
use Rattle.tally.specs.declared.Tally.{Tally}
use Rattle.frames.specs.Texts.{LineAnswer, is_too_long}
use Rattle.std.specs.Prelude.{Option}
use Rattle.std.specs.Prelude.{Some, None}
use Rattle.text.specs.Outcomes.{whole_output, outcome_numbers, outcome_of}
use Rattle.text.proofs.Outcomes.{outcomes_apart}
use Rattle.panel_c.specs.Lengths.{length_of}

-- what the outcome's numbers say of its length
told : (b : Bool) (n : ℕ) (r : Option ℕ) → outcome_numbers r ≡ cond b (0xFF ∷ refusal_bytes TooLong) (0x00 ∷ n ∷ []) → length_of r ≡ cond b 0 n
told true n r e = ap length_of (outcomes_apart r None e)
told false n r e = ap length_of (outcomes_apart r (Some n) e)

pub told_length : {S : Type 0} (answer : LineAnswer S) (s : S) (t : Tally) (text : List ℕ) (r : Option ℕ) → outcome_numbers r ≡ outcome_of answer s t text
    → length_of r ≡ cond (is_too_long text) 0 (length (whole_output answer s t text))
unfolding outcome_of
told_length answer s t text r e = told (is_too_long text) (length (whole_output answer s t text)) r e
