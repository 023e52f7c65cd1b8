-- `text::put_too_long` meets its contract, by that of `put_refusal`: the refusal has a number alone, so its line is short (`length_line`).
use native.Mathlib.Omega.{arith}
use Rattle.hexadecimal.proofs.Bytes.{length_line}
use Rattle.text.proofs.put_too_long.Goals as goal

pub put_refusal-requires : goal.put_refusal-requires
put_refusal-requires c = simp length_line (omega arith)
