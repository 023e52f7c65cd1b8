-- `text::put_tally` meets its contract: the first two bytes and the others that are handed to `put_line` are the tally's bytes (`tally_parts`), so
-- the line that it writes is the tally's.
use mathlib.Core.Path.{ap, ◌∙◌}
use mathlib.Core.List.{List}
use Prim.Native.Nat.{ℕ, ◌+◌}
use lib.ListN.{length}
use lib.Seq.{sets}
use Rattle.hexadecimal.specs.Hex.{line_of}
use Rattle.text.proofs.Whole.{tally_parts}
use Rattle.text.proofs.put_tally.Goals as goal

pub returns : goal.returns
returns c =
    let w = c.put_line.ensures in
    let s = c.args in
    let e = tally_parts _ _ c.tally_bytes-bytes.ensures in
    record { out_after = w.out_after ∙ ap (λ (b : List ℕ). sets s.out.now s.at (line_of b)) e; value = w.value ∙ ap (λ (b : List ℕ). s.at + length (line_of b)) e }
