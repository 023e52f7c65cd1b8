-- `importing::put_flow` meets its contract: the ratio's line is put behind the add's (`behind`).
use native.Mathlib.Omega.{arith}
use Rattle.hexadecimal.specs.Hex.{line_of}
use Rattle.hexadecimal.proofs.Bytes.{length_line}
use Rattle.importing.specs.Imports.{add_frame, ratio_frame}
use Rattle.importing.proofs.Flows.{behind}
use Rattle.importing.proofs.put_flow.Goals as goal

pub put_line-requires : goal.put_line-requires
put_line-requires c = omega (arith, c.put_line-n.ensures.value, c.requires.1, length_line (add_frame c.args.i))

pub returns : goal.returns
returns c =
    let i = c.args.i in
    let both = behind _ _ _ _ _ _ (line_of (add_frame i)) (line_of (ratio_frame i)) c.put_line-n.ensures.out_after c.put_line-n.ensures.value c.put_line.ensures.out_after c.put_line.ensures.value in
    record { out_after = both.0; value = both.1 }
