-- `hexadecimal::decode` meets its contract: a line that has another character (`hex_other`), is empty (`hex_empty`) or odd (`hex_odd`) is refused with its
-- offset and leaves the buffer (`bad_line`); any other (`hex_line`) has its first bytes in the buffer (`good_line`). Assumes nothing.
use mathlib.Core.Path.{◌≡◌, refl}
use mathlib.Core.Bool.{true, false}
use mathlib.Core.List.{List}
use Prim.Native.Nat.{ℕ, ◌≤◌}
use lib.ListN.{length}
use native.Mathlib.Omega.{arith}
use Rattle.hexadecimal.specs.Hex.{are_digits, offset_of, is_hex}
use Rattle.hexadecimal.proofs.Offsets.{other_offset, end_offset}
use Rattle.hexadecimal.proofs.Lines.{hex_empty, hex_odd, hex_other, hex_line, bad_line, good_line}
use Rattle.hexadecimal.proofs.decode.Goals as goal
use Rattle.hexadecimal.proofs.decode.Goals.{then-offset-n-via-then-offset-n, then-offset-n-via-else-offset-n+then-n-eq0, then-offset-n-via-else-offset-n+else-n-eq0+then-n-eq1}

-- where the line is not refused, all characters are digits
digits : (s : List ℕ) (n offset : ℕ) → offset ≡ offset_of s → n ≡ length s → n ≤ offset → are_digits s ≡ true
digits s n offset e m h = end_offset s (omega arith)

pub returns-then-offset-n : goal.returns-then-offset-n
returns-then-offset-n c =
    let e : is_hex c.args.s.now ≡ false =
    elim c.then-offset-n.branch [
      | then-offset-n-via-then-offset-n w ↦ hex_other _ (other_offset _ (omega (arith, c.offset_of-offset.ensures, w.if-offset-n.true)))
      | then-offset-n-via-else-offset-n+then-n-eq0 w ↦ hex_empty _ w.if-n-eq0.true
      | then-offset-n-via-else-offset-n+else-n-eq0+then-n-eq1 w ↦ hex_odd _ w.if-n-eq1.true
    ] in
    let h = bad_line _ c.args.frame.now _ c.offset_of-offset.ensures e in
    record { result_value = h.0; frame_after = h.1 }

pub fill-requires : goal.fill-requires
fill-requires c = (digits _ _ _ c.offset_of-offset.ensures refl c.if-offset-n.false, c.requires)

pub returns : goal.returns
returns c =
    let d = digits _ _ _ c.offset_of-offset.ensures refl c.if-offset-n.false in
    let h = good_line _ _ _ (hex_line _ c.if-n-eq0.false c.if-n-eq1.false d) c.fill.ensures in
    record { result_value = h.0; frame_after = h.1 }
