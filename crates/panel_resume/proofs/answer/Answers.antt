-- `panel_resume::answer` meets its contract: behind the reply's line stands the output from the sheet that was read (`taken_resumed`). Assumes nothing.
use mathlib.Core.Path.{◌≡◌, sym, ap, ◌∙◌}
use native.Mathlib.Omega.{arith}
use Prim.Native.Nat.{ℕ, ◌+◌}
use lib.ListN.{length, length-append}
use Rattle.std.specs.Prelude.{Result, Ok, Err, IfOk}
use Rattle.panel.specs.Answers.{reply_bytes}
use Rattle.hexadecimal.specs.Hex.{line_of}
use Rattle.sheet.specs.Commands.{Answer}
use Rattle.frames.specs.Texts.{output_of}
use Rattle.frames.specs.Frames.{line_answer}
use Rattle.sessions.proofs.Resuming.{taken_legal, taken_resumed}
use Rattle.panel_resume.proofs.answer.Goals as goal

-- what holds of the count of an answer
counted : {E : Type 0} {a : ℕ} {P : ℕ → Type 0} (r : Result ℕ E) → IfOk r (λ n. n ≡ a) → ((n : ℕ) → n ≡ a → P n) → IfOk r P
counted (Ok n) h f = f n h
counted (Err e) h f = tt

pub tell-requires : goal.tell-requires
tell-requires g c = ap (λ (a : Answer). a.reply) c.requires.0

pub answer_from-requires : goal.answer_from-requires
answer_from-requires g c = taken_legal c.args.saved.now c.args.text.now c.args.s.now c.args.reply c.requires.0 c.requires.1

pub returns : goal.returns
returns g c =
    counted c.answer_from.result c.answer_from.ensures
    (λ n e.
    omega (
      arith,
      e,
      ap (λ (a : Answer). length (line_of a.reply)) c.requires.0,
      ap length (taken_resumed c.args.saved.now c.args.text.now c.args.s.now c.args.reply c.requires.0 c.requires.1),
      length-append (line_of (reply_bytes c.args.reply)) (output_of line_answer c.args.s.now c.args.text.now),
    ))
