use mathlib.Core.Path.{◌≡◌, refl, sym, ap, ◌∙◌, subst}
use Prim.Native.Nat.{ℕ, ◌+◌, ◌≤◌}
use native.Mathlib.Omega.{arith}
use mathlib.Core.List.{List}
use lib.ListN.{length, take, length-replicate}
use lib.Seq.{length-take-le}
use borrow.Author.Rules.{rules}
use Rattle.std.specs.Prelude.{Result, IfOk}
use Rattle.hexadecimal.specs.Hex.{line_of}
use Rattle.sheet.specs.Legal.{LegalSheet}
use Rattle.tally.specs.Tallies.{no_tally, tally_bytes}
use Rattle.frames.specs.Texts.{output_of}
use Rattle.frames.specs.Frames.{line_answer}
use Rattle.output.proofs.Sending.{put_fits, put_part, from_zero, too_long_line, too_long_short, too_long_line_lem, sent_none, part_fits, is_part, sent_more, tally_short, tally_last, sent_all}
use Rattle.output.proofs.answer_from.Given.{Over}
use Rattle.output.proofs.answer_from.Goals.{After-put_too_long-n, After-lines_from-r, After-put_tally-n}
use Rattle.output.proofs.answer_from.Goals as goal

-- ---- the line of a text that is too long, the replies of lines that were answered, the tally's line: each fits the buffer

line_fits : (g : Over) (c : After-put_too_long-n g) → c.put_too_long-n.result ≤ length c.put_too_long-n.new.out
line_fits g c =
    let e = c.put_too_long-n.ensures in
    put_fits _ _ too_long_line c.put_too_long-n.result (length-replicate {A = ℕ} 65536 0) too_long_short e.out_after (from_zero _ _ e.value)

replies_fit : (g : Over) (c : After-lines_from-r g) → c.lines_from-r.result.written ≤ length c.lines_from-r.new.out
replies_fit g c =
    let e = c.lines_from-r.ensures in
    part_fits _ _ _ _ _ _ _ _ _ c.loop-next.invariant _ _ _ _ e.ran_from e.resumed

tally_fits : (g : Over) (c : After-put_tally-n g) → c.put_tally-n.result ≤ length c.put_tally-n.new.out
tally_fits g c =
    let e = c.put_tally-n.ensures in
    let s = c.loop-next.invariant in
    put_fits c.loop-next.out _ (line_of (tally_bytes c.loop-next.t)) c.put_tally-n.result s.full (tally_short _ _ _ _ _ _ _ _ _ s) e.out_after e.value

-- what is counted is the same number by another name
counted : {E : Type 0} {a b : ℕ} (r : Result ℕ E) → IfOk r (λ n. n ≡ a) → a ≡ b → IfOk r (λ n. n ≡ b)
counted r h e = subst (λ (k : ℕ). IfOk r (λ n. n ≡ k)) e h

-- ---- the goals

pub slice_bounds-out-end : goal.slice_bounds-out-end
slice_bounds-out-end g c = line_fits g (goal.at.slice_bounds-out-end g c).After-put_too_long-n

pub slice_bounds-send-end : goal.slice_bounds-send-end
slice_bounds-send-end g c = sym (length-take-le _ _ (line_fits g (goal.at.slice_bounds-send-end g c).After-put_too_long-n))

pub send-requires : goal.send-requires
send-requires g c =
    let e = c.put_too_long-n.ensures in
    let whole = too_long_line_lem line_answer LegalSheet c.args.first.now c.args.text.now (sym c.is_too_long.ensures ∙ c.if-is_too_long.true) in (
      put_part _ _ too_long_line c.put_too_long-n.result (length-replicate {A = ℕ} 65536 0) too_long_short e.out_after (from_zero _ _ e.value)
          (output_of line_answer c.args.first.now c.args.text.now) 0 whole,
      omega (arith, length-take-le _ _ (line_fits g (goal.at.send-requires g c).After-put_too_long-n), e.value, too_long_short),
    )

pub returns-then-is_too_long : goal.returns-then-is_too_long
returns-then-is_too_long g c =
    let whole = too_long_line_lem line_answer LegalSheet c.args.first.now c.args.text.now (sym c.is_too_long.ensures ∙ c.if-is_too_long.true) in
    counted _ c.send.ensures.written
    (omega (arith, length-take-le _ _ (line_fits g (goal.at.returns-then-is_too_long g c).After-put_too_long-n), c.put_too_long-n.ensures.value, ap length whole))

pub loop-next-init : goal.loop-next-init
loop-next-init g c =
    let e : c.default-t.result ≡ no_tally = search rules in
    rw e (sent_none _ _ _ _ _ _ (sym c.is_too_long.ensures ∙ c.if-is_too_long.false) (length-replicate {A = ℕ} 65536 0) refl c.requires)

pub slice_bounds-out-end-in-loop-next : goal.slice_bounds-out-end-in-loop-next
slice_bounds-out-end-in-loop-next g c = replies_fit g (goal.at.slice_bounds-out-end-in-loop-next g c).After-lines_from-r

pub send-requires-in-loop-next : goal.send-requires-in-loop-next
send-requires-in-loop-next g c =
    let e = c.lines_from-r.ensures in
    let s = c.loop-next.invariant in
    let r = e.resumed in (
      is_part _ _ _ _ _ _ _ _ _ s _ _ _ _ e.ran_from e.resumed,
      omega (arith, length-take-le _ _ (replies_fit g (goal.at.send-requires-in-loop-next g c).After-lines_from-r), s.few, s.short, s.within, r.paced, r.within, r.onward),
    )

pub loop-next-smaller : goal.loop-next-smaller
loop-next-smaller g c =
    let t = c.loop-next-test.true in
    omega (arith, t, c.lines_from-r.ensures.resumed.progress t (omega (arith, c.loop-next.invariant.full)))

pub loop-next-preserved : goal.loop-next-preserved
loop-next-preserved g c =
    let e = c.lines_from-r.ensures in
    sent_more _ _ _ _ _ _ _ _ _ c.loop-next.invariant _ _ _ _ e.ran_from e.resumed _
    (c.in_ok-sent.ensures.written ∙ ap (λ (k : ℕ). c.loop-next.sent + k) (length-take-le _ _ (replies_fit g (goal.at.loop-next-preserved g c).After-lines_from-r)))

pub slice_bounds-out-end-2 : goal.slice_bounds-out-end-2
slice_bounds-out-end-2 g c = tally_fits g (goal.at.slice_bounds-out-end-2 g c).After-put_tally-n

pub slice_bounds-send-end-2 : goal.slice_bounds-send-end-2
slice_bounds-send-end-2 g c = sym (length-take-le _ _ (tally_fits g (goal.at.slice_bounds-send-end-2 g c).After-put_tally-n))

pub send-requires-2 : goal.send-requires-2
send-requires-2 g c =
    let e = c.put_tally-n.ensures in
    let l = c.loop-next in
    let s = l.invariant in (
      put_part l.out _ (line_of (tally_bytes l.t)) c.put_tally-n.result s.full (tally_short _ _ _ _ _ _ _ _ _ s) e.out_after e.value
          (output_of line_answer c.args.first.now c.args.text.now) l.sent (tally_last _ _ _ _ _ _ _ _ _ s (omega (arith, c.loop-next-test.false))),
      omega (arith, length-take-le _ _ (tally_fits g (goal.at.send-requires-2 g c).After-put_tally-n), s.few, s.short, s.within, tally_short _ _ _ _ _ _ _ _ _ s, e.value),
    )

pub returns : goal.returns
returns g c =
    let l = c.loop-next in
    counted _ c.send-2.ensures.written
    (ap (λ (k : ℕ). l.sent + k) (length-take-le _ _ (tally_fits g (goal.at.returns g c).After-put_tally-n))
    ∙ sent_all _ _ _ _ _ _ _ _ _ l.invariant (omega (arith, c.loop-next-test.false)) _ c.put_tally-n.ensures.value)
