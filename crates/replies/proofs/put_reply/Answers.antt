-- `replies::put_reply` meets its contract, by cases on the reply: what is handed to `put_line` is the whole reply of an accepted command
-- (`accepted_whole`), as long as the contract allows.
use mathlib.Core.Path.{sym, ap, ◌∙◌}
use mathlib.Core.List.{List, ◌∷◌}
use Prim.Native.Nat.{ℕ}
use native.Mathlib.Omega.{arith}
use lib.ListN.{length, take}
use Rattle.hexadecimal.specs.Hex.{line_of}
use Rattle.hexadecimal.proofs.Bytes.{length_line}
use Rattle.replies.specs.Replies.{rest_of}
use Rattle.replies.proofs.Replies.{accepted_whole}
use Rattle.replies.proofs.put_reply.Goals as goal

pub put_line-requires : goal.put_line-requires
put_line-requires c =
    let s = c.args in
    let m = c.in-Ok.m in
    let counted = c.rest_of-count.ensures ∙ ap (rest_of s.command) (sym c.in-Ok.is) in
    omega (
      arith,
      c.requires.1,
      ap (λ (n : ℕ). length (take n s.rows.now)) counted,
      ap (λ (b : List ℕ). length (line_of b)) (accepted_whole s.command s.reply m s.rows.now c.in-Ok.is),
      length_line (0x00 ∷ m ∷ take (rest_of s.command s.reply) s.rows.now),
    )
