-- Replies: the refusal that one tells stands in its first two bytes, so what follows them tells none; a refusal has no rows; and no line of a reply is
-- longer than the longest, since a plan has at most 64 rows. By cases and by lengths. Assumes nothing.
use mathlib.Core.Path.{◌≡◌, refl, sym, ap, ap₂, ◌∙◌}
use mathlib.Core.Bool.{cond}
use mathlib.Core.List.{List, ◌∷◌, ◌++◌, append-nil}
use Prim.Native.Nat.{ℕ, ◌+◌, ◌*◌, ◌≤◌}
use native.Mathlib.Omega.{arith}
use lib.Dec.{eqb}
use lib.ListN.{length, take, length-take, get_or-append}
use Rattle.std.specs.Prelude.{Ok, Err}
use Rattle.panel.specs.declared.Refusal.{Refusal}
use Rattle.panel.specs.Answers.{Reply, refusal_bytes, reply_bytes, rows_length}
use Rattle.panel.proofs.Answers.{refusal_length, reply_two}
use Rattle.hexadecimal.specs.Hex.{line_of}
use Rattle.hexadecimal.proofs.Bytes.{length_line}
use Rattle.frames.specs.declared.Command.{Command}
use Rattle.frames.specs.declared.Command.TheVariants.{Open, Add, Remove, Touch, Plan, Change, Enter, Relate, Refused}
use Rattle.frames.specs.Texts.{refusal_of}
use Rattle.replies.specs.Replies.{longest, rest_of, whole_reply}

-- what stands behind its first two bytes tells none
pub rows_tell_none : (c : Command) (r : Reply) (rows : List ℕ) → refusal_of (reply_bytes r) ≡ refusal_of (whole_reply c r rows)
unfolding refusal_of
rows_tell_none c r rows =
    let rest : List ℕ = take (rest_of c r) rows in
    ap₂ (λ (x : ℕ) (y : ℕ). cond (eqb x 0xFF) y 0)
    (sym (get_or-append (reply_bytes r) rest 0 0 (omega (arith, reply_two r))))
    (sym (get_or-append (reply_bytes r) rest 0 1 (reply_two r)))

-- ---- the rows

-- a refusal has none
refused_rest : (c : Command) (x : Refusal) → rest_of c (Err x) ≡ 0
refused_rest (Open n) x = refl
refused_rest (Add id level) x = refl
refused_rest (Remove id) x = refl
refused_rest (Touch f) x = refl
refused_rest Plan x = refl
refused_rest (Change id level) x = refl
refused_rest (Enter f b) x = refl
refused_rest (Relate id form) x = refl
refused_rest (Refused y) x = refl

-- the whole reply, by its cases
pub accepted_whole : (c : Command) (r : Reply) (m : ℕ) (rows : List ℕ) → r ≡ Ok m → 0x00 ∷ m ∷ take (rest_of c r) rows ≡ whole_reply c r rows
accepted_whole c r m rows e = ap (λ (x : Reply). reply_bytes x ++ take (rest_of c r) rows) (sym e)

refused_whole : (c : Command) (x : Refusal) (rows : List ℕ) → whole_reply c (Err x) rows ≡ 0xFF ∷ refusal_bytes x
refused_whole c x rows =
    ap (λ (n : ℕ). 0xFF ∷ refusal_bytes x ++ take n rows) (refused_rest c x) ∙ append-nil (0xFF ∷ refusal_bytes x)

-- no line is longer than the longest: a refusal has at most four bytes, and anything else two and the rows
refusal_short : (r : Refusal) → length (line_of (0xFF ∷ refusal_bytes r)) ≤ 2 * 4 + 1
refusal_short r = omega (arith, length_line (0xFF ∷ refusal_bytes r), (refusal_length r).1)

pub reply_short : (c : Command) (r : Reply) (rows : List ℕ) → rest_of c r ≤ rows_length → length (line_of (whole_reply c r rows)) ≤ longest
reply_short c (Ok m) rows h =
    omega (arith, length_line (whole_reply c (Ok m) rows), length-take (rest_of c (Ok m)) rows)
reply_short c (Err x) rows h =
    omega (arith, ap (λ (b : List ℕ). length (line_of b)) (refused_whole c x rows), refusal_short x)
