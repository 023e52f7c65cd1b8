-- `panel_resume::tell` meets its contract: the line of the reply fits the buffer, so what is passed on is all of it (`start_is`). Assumes nothing.
use Prim.Native.Nat.{ℕ}
use mathlib.Core.Path.{◌≡◌, sym, ap, ◌∙◌, subst}
use mathlib.Core.List.{List}
use native.Mathlib.Omega.{arith}
use lib.ListN.{length, take, length-replicate}
use Rattle.std.specs.Prelude.{IfOk, IfErr}
use Rattle.panel.specs.Answers.{reply_bytes}
use Rattle.hexadecimal.specs.Hex.{line_of}
use Rattle.hexadecimal.proofs.Stores.{start_fits, start_is}
use Rattle.sessions.proofs.Resuming.{reply_short}
use Rattle.panel_resume.proofs.tell.Given.{Over}
use Rattle.panel_resume.proofs.tell.Goals as goal
use Rattle.panel_resume.proofs.tell.Goals.{After-put_answer-n}

is-line : (g : Over) (c : After-put_answer-n g) → take c.put_answer-n.result c.put_answer-n.new.out ≡ line_of (reply_bytes c.args.reply)
is-line g c =
    let e = c.put_answer-n.ensures in
    start_is _ _ (line_of (reply_bytes c.args.reply)) _ (omega (arith, reply_short c.args.reply, length-replicate {A = ℕ} 16 0)) e.out_after e.value

pub slice_bounds-out-end : goal.slice_bounds-out-end
slice_bounds-out-end g c =
    let e = c.put_answer-n.ensures in
    start_fits _ _ (line_of (reply_bytes c.args.reply)) _ (omega (arith, reply_short c.args.reply, length-replicate {A = ℕ} 16 0)) e.out_after e.value

pub slice_bounds-send-end : goal.slice_bounds-send-end
slice_bounds-send-end g c =
    c.put_answer-n.ensures.value ∙ sym (ap length (is-line g (goal.at.slice_bounds-send-end g c).After-put_answer-n))

pub send-requires : goal.send-requires
send-requires g c = is-line g (goal.at.send-requires g c).After-put_answer-n ∙ ap line_of c.requires

pub returns : goal.returns
returns g c =
    let e = is-line g (goal.at.returns g c).After-put_answer-n ∙ ap line_of c.requires in
    record {
      written = subst (λ (l : List ℕ). IfOk c.send.result (λ n. n ≡ length l)) e c.send.ensures.written;
      unwritten = subst (λ (l : List ℕ). IfErr c.send.result (λ x. x.len ≡ length l)) e c.send.ensures.unwritten;
    }
