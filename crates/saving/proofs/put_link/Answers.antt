-- `saving::put_link` meets its contract: nothing of a number that is not in use, and the line of a link.
use native.Mathlib.Omega.{arith}
use Rattle.saving.proofs.Writing.{fields_short, link_unused, link_written}
use Rattle.saving.proofs.put_link.Goals as goal

pub returns-then-not-l : goal.returns-then-not-l
returns-then-not-l c = link_unused c.args.i c.args.l.now _ _ c.if-not-l.true

pub put_lf-requires : goal.put_lf-requires
put_lf-requires c = let l = c.args.l.now in omega (arith, c.put_fields-q.ensures.position, fields_short l.covered l.outputs)

pub returns : goal.returns
returns c =
    link_written c.args.i c.args.l.now _ _ _ _ _ _ _ _ c.if-not-l.false c.standing_byte.ensures c.put_bytes.ensures
    c.put_fields-q.ensures c.put_lf.ensures
