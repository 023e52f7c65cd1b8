-- `sessions::resume` meets its contract: the line of the reply; where the saved text is taken in, the output behind it, as far as the buffer goes.
use mathlib.Core.Path.{◌≡◌, sym, ap, ◌∙◌}
use mathlib.Core.Bool.{false}
use native.Mathlib.Omega.{arith}
use lib.ListN.{length}
use lib.Seq.{sets}
use Rattle.std.specs.Prelude.{is_err}
use Rattle.sheet.specs.Sheets.{unopened}
use Rattle.sheet.specs.Commands.{Answer}
use Rattle.images.specs.Reading.{read}
use Rattle.loading.specs.Loaded.{answer_of}
use Rattle.sessions.proofs.Resuming.{reply_short, refused_resumed, taken_legal, resumed_length, resumed_behind, resumed_full}
use Rattle.sessions.proofs.resume.Goals as goal
use Rattle.sessions.proofs.resume.Goals.{After-load-reply, Else-is_err}

-- the saved text is read
is_read : (c : After-load-reply) → answer_of c.load-reply.new.s c.load-reply.result ≡ read unopened c.args.saved.now
is_read c = rw c.unopened-s.ensures.0 at c.load-reply.ensures

accepted : (c : Else-is_err) → is_err c.load-reply.result ≡ false
accepted c = sym c.is_err.ensures.value ∙ c.if-is_err.false

-- ---- the goals

pub returns-then-is_err : goal.returns-then-is_err
returns-then-is_err c =
    let s = c.args in
    let e = refused_resumed s.saved.now s.text.now c.load-reply.result (ap (λ (a : Answer). a.reply) (is_read (goal.at.returns-then-is_err c).After-load-reply)) (sym c.is_err.ensures.value ∙ c.if-is_err.true) in
    record { out_after = c.put_answer-n.ensures.out_after ∙ ap (sets s.out.now 0) (sym e); value = c.put_answer-n.ensures.value ∙ ap length (sym e) }

pub output_from-requires : goal.output_from-requires
output_from-requires c =
    taken_legal c.args.saved.now c.args.text.now _ _ (is_read (goal.at.output_from-requires c).After-load-reply) (accepted (goal.at.output_from-requires c).Else-is_err)

pub output_from-requires-else-n-out : goal.output_from-requires-else-n-out
output_from-requires-else-n-out c =
    taken_legal c.args.saved.now c.args.text.now _ _ (is_read (goal.at.output_from-requires-else-n-out c).After-load-reply) (accepted (goal.at.output_from-requires-else-n-out c).Else-is_err)

pub returns-then-n-out : goal.returns-then-n-out
returns-then-n-out c =
    let s = c.args in
    let p = c.put_answer-n in
    let o = c.output_from in
    let is = is_read (goal.at.returns-then-n-out c).After-load-reply in
    let t = accepted (goal.at.returns-then-n-out c).Else-is_err in
    record {
      out_after =
          resumed_behind s.saved.now s.text.now _ _ is t s.out.now p.new.out p.result o.result p.ensures.out_after p.ensures.value o.ensures.value.0
          c.if-n-out.true _ o.ensures.out_after;
      value = resumed_length s.saved.now s.text.now _ _ is t s.out.now p.new.out p.result o.result p.ensures.out_after p.ensures.value o.ensures.value.0;
    }

pub returns-else-n-out : goal.returns-else-n-out
returns-else-n-out c =
    let s = c.args in
    let p = c.put_answer-n in
    let o = c.output_from-else-n-out in
    let is = is_read (goal.at.returns-else-n-out c).After-load-reply in
    let t = accepted (goal.at.returns-else-n-out c).Else-is_err in
    record {
      out_after =
          resumed_full s.saved.now s.text.now _ _ is t s.out.now p.new.out p.result o.result p.ensures.out_after p.ensures.value o.ensures.value.0
          c.if-n-out.false;
      value = resumed_length s.saved.now s.text.now _ _ is t s.out.now p.new.out p.result o.result p.ensures.out_after p.ensures.value o.ensures.value.0;
    }

-- a reply's line is short, and so is the output behind it
pub overflow_add-result : goal.overflow_add-result
overflow_add-result c =
    record { fits = omega (arith, c.put_answer-n.ensures.value, reply_short c.load-reply.result, c.output_from.ensures.value.1) }

pub overflow_add-result-else-n-out : goal.overflow_add-result-else-n-out
overflow_add-result-else-n-out c =
    record { fits = omega (arith, c.put_answer-n.ensures.value, reply_short c.load-reply.result, c.output_from-else-n-out.ensures.value.1) }
