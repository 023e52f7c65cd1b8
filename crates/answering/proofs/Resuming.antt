-- A run that goes on, whatever answers the lines: what stands in the buffer, followed by the output from where the run stands, is the output from
-- where it began (`resumes`), since the output to lines one after the other is in two parts (`output_append`). Assumes nothing.
use mathlib.Core.Path.{◌≡◌, sym, ap, ap₂, ◌∙◌}
use mathlib.Core.List.{List, ◌++◌}
use Prim.Native.Nat.{ℕ, ◌+◌, ◌≤◌}
use native.Mathlib.Omega.{arith}
use lib.ListN.{length, take, drop, take-append-drop}
use lib.Seq.{sets-eq, take_at, drop_at}
use Rattle.tally.specs.declared.Tally.{Tally}
use Rattle.lines.specs.Lines.{lines_of}
use Rattle.frames.specs.Texts.{LineAnswer, state_after, replies, written, output}
use Rattle.frames.proofs.Outputs.{output_append}
use Rattle.answering.specs.Runs.{Reached, Ran, Paced, Resumed}

module _ {S : Type 0} (answer : LineAnswer S) (scan : ℕ → S → List ℕ → ℕ) (Legal : S → Type 0) where
  pub resumed : (text : List ℕ) (from n : ℕ) (s : S) (t : Tally) (before after : List ℕ) (r : Reached S)
      → Ran answer scan Legal text (lines_of (drop from text)) n s t before after r → Paced text from (length before) n r → Resumed answer text from s t before after r
  resumed text from n s t before after r ran paced =
      let ls : List (List ℕ) = lines_of (drop from text) in
      let bytes : List ℕ = written (replies answer s (take n ls)) in
      let size : length bytes ≡ r.written = sym ran.count in
      let fits : 0 + length bytes ≤ length before = omega (arith, paced.fits) in
      let stored : after ≡ bytes ++ drop (0 + length bytes) before = ran.buffer ∙ sets-eq bytes before 0 fits in
      let end : 0 + length bytes ≡ r.written = omega arith in
      record {
        resumes =
            ap₂ (λ (w : List ℕ) (o : List ℕ). w ++ o)
            (ap (take r.written) stored ∙ take_at bytes (drop (0 + length bytes) before) r.written size)
            (ap (λ (q : S). output answer q r.tally (lines_of (drop r.next text))) ran.state
            ∙ ap₂ (output answer (state_after answer s (take n ls))) ran.tally ran.rest)
            ∙ sym (output_append answer (take n ls) (drop n ls) s t) ∙ ap (output answer s t) (take-append-drop n ls);
        behind =
            ap (drop r.written) stored ∙ drop_at bytes (drop (0 + length bytes) before) r.written size
            ∙ ap (λ (k : ℕ). drop k before) end;
        onward = omega (arith, paced.onward);
        within = paced.within;
        paced = omega (arith, paced.paced, paced.onward);
        fits = paced.fits;
        progress = paced.progress;
      }
