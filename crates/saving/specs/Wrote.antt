-- A text was written at a position of a buffer, as many of its first bytes as fit there, and where it ends.
use Rattle.std.specs.Prelude.{ℕ, ◌+◌, ◌≡◌, List, length}
use Rattle.std.proofs.lemmas.List.Edits.{sets}

pub record Wrote (before : List ℕ) (at : ℕ) (after : List ℕ) (behind : ℕ) (text : List ℕ) : Type 0 where
  pub buffer : after ≡ sets before at text
  pub position : behind ≡ at + length text
