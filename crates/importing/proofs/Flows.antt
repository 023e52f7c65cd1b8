-- The lines of an import: how long they are, and `Put`, what the loop over the flows keeps: the lines of the first ones are put, each flow's behind those
-- before it (`behind`).
use mathlib.Core.Path.{◌≡◌, refl, sym, ap, ap₂, ◌∙◌}
use mathlib.Core.List.{List, [], ◌∷◌, ◌++◌, append-nil}
use mathlib.Core.Option.{Option, none, some}
use Prim.Native.Nat.{ℕ, zero, suc, ◌+◌, ◌*◌, ◌≤◌}
use native.Mathlib.Numerals.{add-one}
use native.Mathlib.Omega.{arith}
use lib.ListN.{length, length-append}
use lib.Seq.{sets}
use Rattle.fieldset.proofs.Tables.{sets_append}
use Rattle.panel.specs.declared.Refusal.{Refusal}
use Rattle.panel.specs.Answers.{refusal_bytes}
use Rattle.panel.proofs.Answers.{refusal_length}
use Rattle.hexadecimal.specs.Hex.{line_of}
use Rattle.hexadecimal.proofs.Bytes.{length_line}
use Rattle.frames.specs.Texts.{written}
use Rattle.frames.proofs.Outputs.{written_append}
use Rattle.edf.specs.Header.{flows_of, refusal_for}
use Rattle.edf.proofs.Checks.{flow_count}
use Rattle.importing.specs.Imports.{open_frame, add_frame, ratio_frame, flow_lines, flow_frames, frames_for, lines_for, import_output}

-- two runs of stores, one behind the other
module _ (before middle after : List ℕ) (at n m : ℕ) (a b : List ℕ) (e : middle ≡ sets before at a) (c : n ≡ at + length a) (f : after ≡ sets middle n b)
    (d : m ≡ n + length b) where
  pub behind : (after ≡ sets before at (a ++ b)) × (m ≡ at + length (a ++ b))
  behind = (f ∙ ap₂ (λ (l : List ℕ) (k : ℕ). sets l k b) e c ∙ sets_append before at a b, omega (arith, c, d, length-append a b))

-- ---- how long the lines are

flow_length : (i : ℕ) → length (flow_lines i) ≡ 26
flow_length i = omega (arith, length-append (line_of (add_frame i)) (line_of (ratio_frame i)), length_line (add_frame i), length_line (ratio_frame i))

flows_more : (i : ℕ) → written (flow_frames (suc i)) ≡ written (flow_frames i) ++ flow_lines i
unfolding written flow_frames
flows_more i =
    written_append (flow_frames i) (add_frame i ∷ ratio_frame i ∷ [])
    ∙ ap (λ (w : List ℕ). written (flow_frames i) ++ (line_of (add_frame i) ++ w)) (append-nil (line_of (ratio_frame i)))

flows_length : (i : ℕ) → length (written (flow_frames i)) ≡ 26 * i
unfolding written flow_frames
flows_length zero = refl
flows_length (suc i) = omega (arith, ap length (flows_more i), length-append (written (flow_frames i)) (flow_lines i), flows_length i, flow_length i)

frames_length : (k : ℕ) → length (written (frames_for k)) ≡ 5 + 26 * k
unfolding written
frames_length k = omega (arith, length-append (line_of (open_frame k)) (written (flow_frames k)), length_line (open_frame k), flows_length k)

-- ---- the lines of the first i flows are put behind a position, and n is the position behind them

pub record Put (before after : List ℕ) (at i n : ℕ) : Type 0 where
  pub lines : after ≡ sets before at (written (flow_frames i))
  pub counted : n ≡ at + length (written (flow_frames i))

pub put_none : (before : List ℕ) (at : ℕ) → Put before before at 0 at
unfolding written flow_frames
put_none before at = record { lines = refl; counted = omega arith }

module _ {before middle : List ℕ} {at i n : ℕ} (was : Put before middle at i n) where
  -- where they end
  pub put_ends : n ≡ at + 26 * i
  put_ends = omega (arith, was.counted, flows_length i)

  pub put_more : {after : List ℕ} {m : ℕ} → after ≡ sets middle n (flow_lines i) → m ≡ n + length (flow_lines i) → Put before after at (i + 1) m
  put_more {after} {m} e c =
      let both = behind before middle after at n m (written (flow_frames i)) (flow_lines i) was.lines was.counted e c in
      let more : written (flow_frames i) ++ flow_lines i ≡ written (flow_frames (i + 1)) = sym (flows_more i) ∙ ap (λ (j : ℕ). written (flow_frames j)) (sym (add-one i)) in
      record { lines = both.0 ∙ ap (sets before at) more; counted = both.1 ∙ ap (λ (w : List ℕ). at + length w) more }

  -- if they are all, behind the opening's line
  pub put_all : (out : List ℕ) → before ≡ sets out 0 (line_of (open_frame i)) → at ≡ 0 + length (line_of (open_frame i))
      → (middle ≡ sets out 0 (written (frames_for i))) × (n ≡ length (written (frames_for i)))
  unfolding written
  put_all out e c =
      let both = behind out before middle 0 at n (line_of (open_frame i)) (written (flow_frames i)) e c was.lines was.counted in
      (both.0, omega (arith, both.1))

-- ---- the output for a file

pub flows_output : (file : List ℕ) → refusal_for file ≡ none → import_output file ≡ written (frames_for (flows_of file))
unfolding import_output
flows_output file e = ap (λ (r : Option Refusal). lines_for r (flows_of file)) e

pub refused_output : (file : List ℕ) (r : Refusal) → refusal_for file ≡ some r → import_output file ≡ line_of (0xFF ∷ refusal_bytes r)
unfolding import_output
refused_output file r e = ap (λ (s : Option Refusal). lines_for s (flows_of file)) e

-- it has at most this length
pub output_short : (file : List ℕ) → length (import_output file) ≤ 837
output_short file = go (refusal_for file) refl where
  go : (r : Option Refusal) → refusal_for file ≡ r → length (import_output file) ≤ 837
  go none e = omega (arith, ap length (flows_output file e), frames_length (flows_of file), (flow_count file e).1)
  go (some r) e = omega (arith, ap length (refused_output file r e), length_line (0xFF ∷ refusal_bytes r), (refusal_length r).1)
