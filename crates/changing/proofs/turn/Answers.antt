-- `changing::turn` meets its contract: the step gives nothing free, and reverses the path; where there is none, nothing turns (`turned_free`).
use Rattle.changing.proofs.Halves.{turned_free}
use Rattle.changing.proofs.turn.Goals as goal

pub returns-in_default : goal.returns-in_default
returns-in_default c =
    record { reversed = turned_free _ _ _ c.args.path.now c.in_default.not-Path; tabled = c.requires.2 }
