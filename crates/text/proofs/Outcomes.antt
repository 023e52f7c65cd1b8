-- The numbers of a text's answer tell its cases apart, since they begin with 00 and with FF; and the answer to a text is what the program writes
-- for it, by cases on whether it is too long and on the answer (`told_output`). Assumes nothing.
use mathlib.Core.Path.{◌≡◌, refl, sym, ap, ◌∙◌}
use mathlib.Core.Bool.{Bool, true, false, cond}
use mathlib.Core.List.{List, [], ◌∷◌}
use Prim.Native.Nat.{ℕ}
use native.Mathlib.Omega.{arith}
use lib.ListN.{length}
use lib.Seq.{sets}
use Rattle.fieldset.specs.Tables.{at}
use Rattle.panel.specs.declared.Refusal.TheVariants.{TextTooLong as TooLong}
use Rattle.panel.specs.Answers.{refusal_bytes}
use Rattle.tally.specs.declared.Tally.{Tally}
use Rattle.tally.specs.Tallies.{no_tally}
use Rattle.frames.specs.Texts.{LineAnswer, is_too_long, output_of}
use Rattle.std.specs.Prelude.{Option}
use Rattle.std.specs.Prelude.{Some, None}
use Rattle.text.specs.Outcomes.{outcome_numbers, whole_output, outcome_of, buffer_after, Told, AsWritten}

pub outcomes_apart : (a b : Option ℕ) → outcome_numbers a ≡ outcome_numbers b → a ≡ b
outcomes_apart (Some m) (Some n) e = cc
outcomes_apart (Some m) None e = let z : ◌≡◌ {A = ℕ} 0 255 = ap (λ (b : List ℕ). at b 0) e in absurd (omega arith)
outcomes_apart None (Some n) e = let z : ◌≡◌ {A = ℕ} 255 0 = ap (λ (b : List ℕ). at b 0) e in absurd (omega arith)
outcomes_apart None None e = refl

pub told_output : {S : Type 0} (answer : LineAnswer S) (s : S) (text : List ℕ) (u : Tally) (before after : List ℕ) (r : Option ℕ)
    → Told answer s no_tally text u before after r → AsWritten answer s text before after r
unfolding outcome_of buffer_after output_of
told_output answer s text u before after r told = go (is_too_long text) refl r told.outcome told.buffer where
  go : (b : Bool) → is_too_long text ≡ b → (r : Option ℕ)
      → outcome_numbers r ≡ cond b (0xFF ∷ refusal_bytes TooLong) (0x00 ∷ length (whole_output answer s no_tally text) ∷ [])
      → after ≡ cond b before (sets before 0 (whole_output answer s no_tally text)) → AsWritten answer s text before after r
  go true t (Some n) e f = let z : ◌≡◌ {A = ℕ} 0 255 = ap (λ (b : List ℕ). at b 0) e in absurd (omega arith)
  go true t None e f = (rw (t, output_of) refl, f)
  go false t (Some n) e f =
      let short : output_of answer s text ≡ whole_output answer s no_tally text = rw (t, output_of) refl in
      (ap (λ (b : List ℕ). at b 1) e ∙ ap length (sym short), f ∙ ap (sets before 0) (sym short))
  go false t None e f = let z : ◌≡◌ {A = ℕ} 255 0 = ap (λ (b : List ℕ). at b 0) e in absurd (omega arith)
