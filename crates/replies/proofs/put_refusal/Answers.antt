-- `replies::put_refusal` meets its contract: the line that `put_line` writes is as long as the refusal's, whose values are the offset's two bytes or none.
use mathlib.Core.Path.{ap}
use mathlib.Core.List.{List, ◌∷◌}
use Prim.Native.Nat.{ℕ}
use native.Mathlib.Omega.{arith}
use lib.ListN.{length}
use Rattle.panel.specs.declared.Refusal.{Refusal}
use Rattle.panel.specs.Answers.{refusal_bytes}
use Rattle.panel.proofs.Answers.{refusal_length}
use Rattle.hexadecimal.proofs.Bytes.{length_line}
use Rattle.replies.proofs.put_refusal.Goals as goal

pub put_line-requires : goal.put_line-requires
put_line-requires c =
    let r = c.args.r in
    omega (
      arith,
      c.requires,
      length_line (0xFF ∷ refusal_bytes r),
      ap (λ (x : Refusal). length (refusal_bytes x)) c.in-BadHex.is,
      ap (λ (b : List ℕ). length b) c.to_be_bytes.ensures,
    )

pub put_line-requires-in_default : goal.put_line-requires-in_default
put_line-requires-in_default c =
    let r = c.args.r in omega (arith, c.requires, length_line (0xFF ∷ refusal_bytes r), (refusal_length r).0)
