use mathlib.Core.Path.{◌∙◌}
use native.Mathlib.Omega.{arith}
use borrow.Author.Tests.{eq-eqb, ne_eqb}
use Rattle.fieldset.specs.Tables.{at}
use Rattle.fieldbytes.proofs.FieldBytes.{read_none, read_more, read_all, reads_output, reads_input, reads_low, reads_bit, reads_rising}
use Rattle.fieldbytes.proofs.read_fields.Goals as goal
use Rattle.fieldbytes.proofs.read_fields.Goals.{then-b-ge128, else-b-ge128}
use Rattle.fieldbytes.proofs.read_fields.Goals.{then-f-least, then-f-least-via-then-f-least, then-f-least-via-else-f-least+then-b-eq1, else-f-least+else-b-eq1}

pub loop-b-init : goal.loop-b-init
loop-b-init c = read_none c.args.bytes.now

pub loop-b-preserved : goal.loop-b-preserved
loop-b-preserved c =
    let loop = c.loop-b in
    let bytes = c.args.bytes.now in
    let b = at bytes loop.b-index in
    let f = c.from-f.result in
    let small = c.type_inv.bytes loop.b-index in
    let outputs = c.if-b-ge128.outputs in
    let rising = c.if-f-least.rising in
    read_more bytes loop.b-index loop.covered loop.outputs loop.rising loop.least loop.invariant f c.with-covered.result outputs rising
    c.loop-b-test.true c.from-f.ensures c.with-covered.ensures
    (elim c.if-b-ge128.branch [
      | then-b-ge128 w ↦ reads_output b f loop.outputs outputs (omega (arith, small)) w.if-b-ge128.true (w.outputs-is ∙ w.with-outputs.ensures)
      | else-b-ge128 w ↦ reads_input b f loop.outputs outputs w.if-b-ge128.false w.outputs-is
    ])
    (elim c.if-f-least.branch [
      | then-f-least w ↦ elim w.then-f-least.branch [
        | then-f-least-via-then-f-least v ↦ reads_low b f loop.least loop.rising rising v.if-f-least.true w.rising-is
        | then-f-least-via-else-f-least+then-b-eq1 v ↦ reads_bit b f loop.least loop.rising rising (eq-eqb _ _ v.if-b-eq1.true) w.rising-is
      ]
      | else-f-least+else-b-eq1 w ↦ reads_rising b f loop.least loop.rising rising w.if-f-least.false (ne_eqb _ _ w.if-b-eq1.false) w.rising-is
    ])

pub returns : goal.returns
returns c =
    let loop = c.loop-b in
    read_all c.args.bytes.now loop.b-index loop.covered loop.outputs loop.rising loop.least loop.invariant c.loop-b-test.false
