-- `sessions::put_answer` meets its contract: by cases on the reply.
use mathlib.Core.Path.{ap}
use mathlib.Core.List.{◌∷◌}
use native.Mathlib.Omega.{arith}
use Rattle.hexadecimal.proofs.Bytes.{length_line}
use Rattle.panel.specs.Answers.{refusal_bytes, reply_bytes}
use Rattle.panel.proofs.Answers.{refusal_length}
use Rattle.sessions.proofs.Resuming.{reply_line}
use Rattle.sessions.proofs.put_answer.Goals as goal

pub put_refusal-requires : goal.put_refusal-requires
put_refusal-requires c =
    let r = c.in-Err.r in
    omega (arith, length_line (0xFF ∷ refusal_bytes r), (refusal_length r).1)

pub returns-in-Ok : goal.returns-in-Ok
returns-in-Ok c =
    let w = reply_line c.args.reply _ _ _ _ (ap reply_bytes c.in-Ok.is) c.put_line.ensures.out_after c.put_line.ensures.value in
    record { out_after = w.0; value = w.1 }

pub returns-in-Err : goal.returns-in-Err
returns-in-Err c =
    let w = reply_line c.args.reply _ _ _ _ (ap reply_bytes c.in-Err.is) c.put_refusal.ensures.out_after c.put_refusal.ensures.value in
    record { out_after = w.0; value = w.1 }
