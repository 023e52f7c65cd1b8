-- `opening::open` meets its contract: the reply of the checks is a refusal (`open_refused`) or the opening passes (`open_accepted`).
use mathlib.Core.Path.{sym, ◌∙◌}
use Rattle.opening.proofs.Opened.{open_refused, open_accepted}
use Rattle.opening.proofs.open.Goals as goal
use Rattle.opening.proofs.open.Goals.{then-is_ok, else-is_ok}

pub returns : goal.returns
returns c k path long same =
    let p = c.args.p.now in
    let says = sym c.is_ok.ensures.value in
    elim c.if-is_ok.branch [
      | then-is_ok w ↦
          open_accepted p c.args.n _ _ k same path long _ c.check_open-reply.ensures _ c.requires (says ∙ w.if-is_ok.true) (w.size-is ∙ w.from-size.ensures)
          c.unchanged.ensures
      | else-is_ok w ↦
          open_refused p c.args.n _ _ k same path long _ c.check_open-reply.ensures _ (says ∙ w.if-is_ok.false) w.size-is c.unchanged.ensures
    ]
