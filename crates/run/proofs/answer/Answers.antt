-- `run::answer` meets its contract: what is passed on starts from the sheet of an unopened panel.
use mathlib.Core.Path.{◌≡◌, ap, subst}
use Prim.Native.Nat.{ℕ}
use lib.ListN.{length}
use Rattle.std.specs.Prelude.{IfOk}
use Rattle.frames.specs.Texts.{output_of}
use Rattle.frames.specs.Frames.{line_answer}
use Rattle.run.proofs.answer.Goals as goal

pub answer_from-requires : goal.answer_from-requires
answer_from-requires g c = c.unopened.ensures.1

pub returns : goal.returns
returns g c =
    subst (λ (k : ℕ). IfOk c.answer_from.result (λ n. n ≡ k)) (ap (λ s. length (output_of line_answer s c.args.text.now)) c.unopened.ensures.0)
    c.answer_from.ensures
