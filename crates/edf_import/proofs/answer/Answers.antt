-- `edf_import::answer` meets its contract: the output fits the buffer (`output_short`), so what is passed on is all of it (`start_is`).
use mathlib.Core.Path.{◌≡◌, sym, ap, ◌∙◌}
use mathlib.Core.List.{List}
use Prim.Native.Nat.{ℕ}
use native.Mathlib.Omega.{arith}
use lib.ListN.{length, take, length-replicate}
use Rattle.hexadecimal.proofs.Stores.{start_fits, start_is}
use Rattle.importing.specs.Imports.{import_output}
use Rattle.importing.proofs.Flows.{output_short}
use Rattle.edf_import.proofs.answer.Given.{Over}
use Rattle.edf_import.proofs.answer.Goals as goal
use Rattle.edf_import.proofs.answer.Goals.{After-import-n}

is_output_lem : (g : Over) (c : After-import-n g) → take c.import-n.result c.import-n.new.out ≡ import_output (take c.args.len c.args.buffer.now)
is_output_lem g c =
    let file : List ℕ = take c.args.len c.args.buffer.now in
    start_is _ _ (import_output file) _ (omega (arith, output_short file, length-replicate {A = ℕ} 837 0)) c.import-n.ensures.out_after c.import-n.ensures.value

pub slice_bounds-out-end : goal.slice_bounds-out-end
slice_bounds-out-end g c =
    let file : List ℕ = take c.args.len c.args.buffer.now in
    start_fits _ _ (import_output file) _ (omega (arith, output_short file, length-replicate {A = ℕ} 837 0)) c.import-n.ensures.out_after c.import-n.ensures.value

pub slice_bounds-send-end : goal.slice_bounds-send-end
slice_bounds-send-end g c =
    c.import-n.ensures.value ∙ sym (ap length (is_output_lem g (goal.at.slice_bounds-send-end g c).After-import-n))

pub send-requires : goal.send-requires
send-requires g c = is_output_lem g (goal.at.send-requires g c).After-import-n

pub returns : goal.returns
returns g c = c.send.ensures ∙ ap length (is_output_lem g (goal.at.returns g c).After-import-n)
