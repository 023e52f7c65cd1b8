-- `panel_save::answer` meets its contract: the output fits the buffer, so what is passed on is all of it (`start_is`). Assumes nothing.
use mathlib.Core.Path.{◌≡◌, ap, ◌∙◌}
use Prim.Native.Nat.{ℕ, ◌≤◌}
use native.Mathlib.Omega.{arith}
use lib.ListN.{length, take, length-replicate}
use Rattle.hexadecimal.proofs.Stores.{start_fits, start_is}
use Rattle.images.specs.Reading.{longest}
use Rattle.sessions.specs.Sessions.{saved_output}
use Rattle.panel_save.proofs.answer.Given.{Over}
use Rattle.panel_save.proofs.answer.Goals as goal
use Rattle.panel_save.proofs.answer.Goals.{After-save_after-n}

short : (g : Over) (c : After-save_after-n g) → length (saved_output c.args.text.now) ≤ longest
short g c = omega (arith, c.save_after-n.ensures.value.0, c.save_after-n.ensures.value.1)

is_output_lem : (g : Over) (c : After-save_after-n g) → take c.save_after-n.result c.save_after-n.new.out ≡ saved_output c.args.text.now
is_output_lem g c =
    let e = c.save_after-n.ensures in
    start_is _ _ (saved_output c.args.text.now) _ (omega (arith, short g c, length-replicate {A = ℕ} 5322 0)) e.out_after e.value.0

pub slice_bounds-out-end : goal.slice_bounds-out-end
slice_bounds-out-end g c =
    let e = c.save_after-n.ensures in
    start_fits _ _ (saved_output c.args.text.now) _ (omega (arith, short g (goal.at.slice_bounds-out-end g c).After-save_after-n, length-replicate {A = ℕ} 5322 0)) e.out_after e.value.0

pub send-requires : goal.send-requires
send-requires g c = is_output_lem g (goal.at.send-requires g c).After-save_after-n

pub returns : goal.returns
returns g c = c.send.ensures ∙ ap length (is_output_lem g (goal.at.returns g c).After-save_after-n)
