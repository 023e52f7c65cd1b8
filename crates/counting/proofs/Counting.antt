-- The scans of a run, a line at a time: with room for one longest reply exactly one line is answered (`one_line`), so the count that is handed out is
-- that line's. `Counted` is what the loop keeps: the counts so far and those of the lines from the position on are all; a line adds its count
-- (`line_scans`) or, where it makes no scan, none (`line_still`). Assumes nothing.
use Prim.Native.Nat.{ℕ, suc, ◌+◌, ◌-◌, ◌≤◌, ◌<◌}
use mathlib.Core.Path.{◌≡◌, refl, sym, ap, ap₂, ◌∙◌}
use mathlib.Core.Logic.{◌≢◌}
use mathlib.Core.Bool.{false, cond}
use mathlib.Core.List.{List, [], ◌∷◌, ◌++◌, append_assoc, append-nil}
use native.Mathlib.Omega.{arith}
use borrow.Author.Tests.{eq-eqb, ne_eqb}
use lib.Dec.{eqb}
use lib.ListN.{length, take, drop, set, length-append}
use lib.Seq.{sets}
use Rattle.fieldset.proofs.Tables.{sets_append}
use Rattle.sheet.specs.declared.Sheet.{Sheet}
use Rattle.sheet.specs.Sheets.{unopened}
use Rattle.sheet.specs.Legal.{LegalSheet}
use Rattle.hexadecimal.specs.Hex.{line_of}
use Rattle.hexadecimal.proofs.Bytes.{length_line}
use Rattle.tally.specs.declared.Tally.{Tally}
use Rattle.lines.specs.Lines.{lines_of}
use Rattle.lines.proofs.Lines.{lines_on, lines_end}
use Rattle.frames.specs.Texts.{is_too_long, state_after}
use Rattle.frames.specs.Frames.{line_answer}
use Rattle.replies.specs.Replies.{longest}
use Rattle.answering.specs.Runs.{Reached, fitting, worked_after, RanFrom}
use Rattle.answering.specs.Scans.{line_scan}
use Rattle.answering.proofs.Going.{fitting_line, fitting_full}
use Rattle.counting.specs.Counts.{scan_counts, scans_of}

-- what a line that is answered by itself adds: its count, where it is not 0
abbrev pub added : ℕ → List ℕ → List ℕ
added n rest = cond (eqb n 0) rest (n ∷ rest)

module _ (text : List ℕ) (from room : ℕ) (s : Sheet) (t : Tally) (before after : List ℕ) (r : Reached Sheet) where
  -- one line is answered
  one_line : RanFrom line_answer line_scan LegalSheet text from room s t before after r → from < length text → room ≡ longest
      → scan_counts s (lines_of (drop from text)) ≡ added r.worked (scan_counts r.state (lines_of (drop r.next text)))
  unfolding scan_counts state_after worked_after
  one_line ran l e = go _ _ (lines_on text from _ l refl)
    where
      go : (line : List ℕ) (rest : List (List ℕ)) → lines_of (drop from text) ≡ line ∷ rest
          → scan_counts s (lines_of (drop from text)) ≡ added r.worked (scan_counts r.state (lines_of (drop r.next text)))
      go line rest is =
          let one : fitting line_answer room s (lines_of (drop from text)) ≡ 1 =
          ap (fitting line_answer room s) is ∙ fitting_line line_answer room s line rest (line_answer s line) refl (omega arith)
          ∙ ap suc (fitting_full line_answer (room - length (line_of (line_answer s line).reply)) (line_answer s line).state rest
          (omega (arith, length_line (line_answer s line).reply)))
          in
          let first : take (fitting line_answer room s (lines_of (drop from text))) (lines_of (drop from text)) ≡ line ∷ [] = ap₂ take one is in
          let others : lines_of (drop r.next text) ≡ rest = ran.rest ∙ ap₂ drop one is in
          rw (ran.worked, ran.state, first, others, is) refl

-- the scans so far are counted: a run over a text stands at a position and in a state, and so many counts are stored
pub record Counted (text before counts : List ℕ) (at : ℕ) (s : Sheet) (made : ℕ) : Type 0 where
  pub done : List ℕ
  pub all : scan_counts unopened (lines_of text) ≡ done ++ scan_counts s (lines_of (drop at text))
  pub stored : counts ≡ sets before 0 done
  pub number : made ≡ length done
  pub few : made ≤ at
  pub within : at ≤ length text
  pub legal : LegalSheet s

pub none_counted : (text before : List ℕ) (s : Sheet) → s ≡ unopened → LegalSheet s → Counted text before before 0 s 0
none_counted text before s e h = record {
  done = [];
  all = ap (λ (x : Sheet). scan_counts x (lines_of text)) (sym e);
  stored = refl;
  number = refl;
  few = omega arith;
  within = omega arith;
  legal = h;
}

-- all are counted
pub counted_all : {text before counts : List ℕ} {at made : ℕ} {s : Sheet} → Counted text before counts at s made → length text ≤ at → is_too_long text ≡ false
    → (made ≡ length (scans_of text)) × (counts ≡ sets before 0 (scans_of text))
unfolding scan_counts scans_of
counted_all {text} {before} {s = s} c end short =
    let all : scan_counts unopened (lines_of text) ≡ c.done =
    c.all ∙ ap (λ (ls : List (List ℕ)). c.done ++ scan_counts s ls) (lines_end text _ end) ∙ append-nil c.done in
    rw short (c.number ∙ ap length (sym all), c.stored ∙ ap (sets before 0) (sym all))

module _ {text before counts : List ℕ} {at made : ℕ} {s : Sheet} (c : Counted text before counts at s made) where
  -- one line more, which adds these counts
  module _ {t : Tally} {out out' : List ℕ} (room : ℕ) (r : Reached Sheet)
      (ran : RanFrom line_answer line_scan LegalSheet text at room s t out out' r) (full : room ≡ longest)
      (left : at < length text) (on : at < r.next) (within : r.next ≤ length text) where
    more : (xs : List ℕ) → added r.worked (scan_counts r.state (lines_of (drop r.next text))) ≡ xs ++ scan_counts r.state (lines_of (drop r.next text))
        → scan_counts unopened (lines_of text) ≡ (c.done ++ xs) ++ scan_counts r.state (lines_of (drop r.next text))
    more xs e =
        c.all ∙ ap (λ (ys : List ℕ). c.done ++ ys) (one_line text at room s t out out' r ran left full ∙ e)
        ∙ sym (append_assoc c.done xs (scan_counts r.state (lines_of (drop r.next text))))

    -- it makes no scan
    pub line_still : r.worked ≡ 0 → Counted text before counts r.next r.state made
    line_still z = record {
      done = c.done;
      all = more [] (rw (eq-eqb r.worked 0 z) refl) ∙ ap (λ (ys : List ℕ). ys ++ scan_counts r.state (lines_of (drop r.next text))) (append-nil c.done);
      stored = c.stored;
      number = c.number;
      few = omega (arith, c.few);
      within = within;
      legal = ran.legal;
    }

    -- it makes one
    pub line_scans : r.worked ≢ 0 → (counts' : List ℕ) → counts' ≡ set counts made r.worked → Counted text before counts' r.next r.state (made + 1)
    line_scans nz counts' e =
        let place : made ≡ 0 + length c.done = omega (arith, c.number) in
        record {
          done = c.done ++ (r.worked ∷ []);
          all = more (r.worked ∷ []) (rw (ne_eqb r.worked 0 nz) refl);
          stored =
              e ∙ ap₂ (λ (l : List ℕ) (i : ℕ). sets l i (r.worked ∷ [])) c.stored place
              ∙ sets_append before 0 c.done (r.worked ∷ []);
          number = omega (arith, c.number, length-append c.done (r.worked ∷ []));
          few = omega (arith, c.few);
          within = within;
          legal = ran.legal;
        }
