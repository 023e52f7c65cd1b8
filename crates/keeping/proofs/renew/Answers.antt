-- `keeping::renew` meets its contract: the field is struck out and entered (`renewed`).
use mathlib.Core.Path.{refl}
use Rattle.keeping.proofs.Renewing.{renewed}
use Rattle.keeping.proofs.renew.Goals as goal

pub returns : goal.returns
returns c =
    let p = c.requires in
    let entered = c.enter_readers.ensures in (
      refl,
      renewed c.args.shown.now c.args.new p.0 p.1 p.2 p.3 refl c.minus.ensures c.strike_reader.ensures.1
          c.minus-2.ensures entered.1 entered.0,
    )
