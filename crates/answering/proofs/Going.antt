-- The run over lines, whatever answers them. `Going` says what the loop keeps: the lines done and those from the position on are all; the state,
-- the tally and the buffer are those after the lines done; and with what still fits from here on they are as many as fit at all. One line more
-- keeps it (`line_done`); where none fits or none is left, the lines done are those that fit (`finish`). Assumes nothing.
use mathlib.Core.Path.{◌≡◌, refl, sym, ap, ap₂, ◌∙◌}
use mathlib.Core.List.{List, [], ◌∷◌, ◌++◌, append_assoc}
use Prim.Native.Nat.{ℕ, suc, ◌+◌, ◌-◌, ◌*◌, ◌≤◌, ◌<◌, max}
use native.Mathlib.Nat.{sub-zero}
use native.Mathlib.Omega.{arith}
use borrow.Author.Tests.{le-leb, lt-leb}
use lib.ListN.{length, take, drop, length-append}
use lib.Seq.{sets, take_at, drop_at}
use Rattle.hexadecimal.specs.Hex.{line_of}
use Rattle.fieldset.proofs.Tables.{sets_append}
use Rattle.tally.specs.declared.Tally.{Tally}
use Rattle.tally.specs.Tallies.{tallied}
use Rattle.lines.specs.Lines.{lines_of, line_length, behind_of}
use Rattle.lines.proofs.Lines.{behind_within, behind_on, lines_on, lines_end}
use Rattle.frames.specs.Texts.{Answered, LineAnswer, refusal_of, state_after, replies, tally_after, written}
use Rattle.frames.proofs.Outputs.{state_more, replies_more, tally_more, written_more}
use Rattle.replies.specs.Replies.{longest}
use Rattle.answering.specs.Runs.{Reached, fitting, worked_after, Finished}

-- ---- how many lines fit

module _ {S : Type 0} (answer : LineAnswer S) where
  pub fitting_line : (room : ℕ) (s : S) (l : List ℕ) (ls : List (List ℕ)) (a : Answered S) → a ≡ answer s l → longest ≤ room
      → fitting answer room s (l ∷ ls) ≡ suc (fitting answer (room - length (line_of a.reply)) a.state ls)
  unfolding fitting
  fitting_line room s l ls a e h =
      simp (le-leb longest room h) (ap (λ (x : Answered S). suc (fitting answer (room - length (line_of x.reply)) x.state ls)) (sym e))

  fitting_none : (room : ℕ) (s : S) (ls : List (List ℕ)) → ls ≡ [] → fitting answer room s ls ≡ 0
  unfolding fitting
  fitting_none room s ls e = rw e refl

  pub fitting_full : (room : ℕ) (s : S) (ls : List (List ℕ)) → room < longest → fitting answer room s ls ≡ 0
  unfolding fitting
  fitting_full room s [] h = refl
  fitting_full room s (l ∷ ls) h = simp (lt-leb longest room h)

  -- one line more
  worked_more : (scan : ℕ → S → List ℕ → ℕ) (done : List (List ℕ)) (l : List ℕ) (n : ℕ) (s : S)
      → worked_after answer scan n s (done ++ (l ∷ [])) ≡ scan (worked_after answer scan n s done) (state_after answer s done) l
  unfolding worked_after state_after
  worked_more scan [] l n s = refl
  worked_more scan (d ∷ ds) l n s = worked_more scan ds l (scan n s d) (answer s d).state

-- ---- the loop

module _ {S : Type 0} (answer : LineAnswer S) (Legal : S → Type 0) where
  -- what one line does: the state after it and its reply are the answer
  pub record Did (s : S) (line : List ℕ) (s' : S) (reply : List ℕ) : Type 0 where
    pub is : record { state = s'; reply = reply } ≡ answer s line
    pub legal : Legal s'
    pub short : length (line_of reply) ≤ longest

module _ {S : Type 0} (answer : LineAnswer S) (scan : ℕ → S → List ℕ → ℕ) (Legal : S → Type 0) where
  -- these lines are done: what the code holds is what they are answered, and as many are due as they and the rest give
  pub record Going (text : List ℕ) (from room : ℕ) (s : S) (t : Tally) (before out : List ℕ) (r : Reached S) : Type 0 where
    pub done : List (List ℕ)
    pub lines : lines_of (drop from text) ≡ done ++ lines_of (drop r.next text)
    pub due : fitting answer room s (lines_of (drop from text)) ≡ length done + fitting answer (room - r.written) r.state (lines_of (drop r.next text))
    pub state : r.state ≡ state_after answer s done
    pub legal : Legal r.state
    pub tally : r.tally ≡ tally_after t (replies answer s done)
    pub stored : out ≡ sets before 0 (written (replies answer s done))
    pub count : r.written ≡ length (written (replies answer s done))
    pub worked : r.worked ≡ worked_after answer scan 0 s done
    pub within : r.next ≤ max from (length text)
    pub moved : from + length done ≤ r.next
    pub fits : r.written ≤ room
    pub paced : r.written ≤ longest * length done

  pub start : (text : List ℕ) (from room : ℕ) (s : S) (t : Tally) (before : List ℕ) → Legal s
      → Going text from room s t before before (record { next = from; state = s; tally = t; written = 0; worked = 0 })
  unfolding state_after replies tally_after written worked_after
  start text from room s t before h = record {
    done = [];
    lines = refl;
    due =
        let all : ℕ = fitting answer (room - 0) s (lines_of (drop from text)) in
        let e : all ≡ 0 + all = omega arith in
        ap (λ (r : ℕ). fitting answer r s (lines_of (drop from text))) (sym (sub-zero room)) ∙ e;
    state = refl;
    legal = h;
    tally = refl;
    stored = refl;
    count = refl;
    worked = refl;
    within = omega arith;
    moved = omega arith;
    fits = omega arith;
    paced = omega arith;
  }

  module _ (text : List ℕ) (from room : ℕ) (s : S) (t : Tally) (before out : List ℕ) (r : Reached S) (g : Going text from room s t before out r) where
    -- one line more
    pub line_done : r.next < length text → longest ≤ room - r.written → (end : ℕ) → end ≡ r.next + line_length (drop r.next text)
        → (line : List ℕ) → line ≡ take (end - r.next) (drop r.next text) → (out' : List ℕ) (r' : Reached S) (reply : List ℕ)
        → Did answer Legal r.state line r'.state reply
        → out' ≡ sets out r.written (line_of reply) → r'.written ≡ r.written + length (line_of reply)
        → r'.tally ≡ tallied r.tally (refusal_of reply) → r'.next ≡ behind_of end (length text) → r'.worked ≡ scan r.worked r.state line
        → Going text from room s t before out' r'
    line_done h k end ee line el out' r' reply did eo en eu ea es =
        let rest : List (List ℕ) = lines_of (drop r'.next text) in
        let was : List (List ℕ) = replies answer s g.done in
        let here : answer r.state line ≡ answer (state_after answer s g.done) line = ap (λ (x : S). answer x line) g.state in
        let next : lines_of (drop r.next text) ≡ line ∷ rest =
        lines_on text r.next end h ee ∙ ap₂ (λ (x : List ℕ) (i : ℕ). x ∷ lines_of (drop i text)) (sym el) (sym ea)
        in
        let one : length (g.done ++ (line ∷ [])) ≡ length g.done + 1 = length-append g.done (line ∷ []) in
        let left : room - r.written - length (line_of reply) ≡ room - r'.written = omega arith in
        let more : replies answer s (g.done ++ (line ∷ [])) ≡ was ++ (reply ∷ []) =
        replies_more answer g.done line s ∙ ap (λ (x : Answered S). was ++ (x.reply ∷ [])) (sym (did.is ∙ here))
        in
        let bytes : written (replies answer s (g.done ++ (line ∷ []))) ≡ written was ++ line_of reply = ap written more ∙ written_more was reply in
        let place : r.written ≡ 0 + length (written was) = omega (arith, g.count) in
        record {
          done = g.done ++ (line ∷ []);
          lines = g.lines ∙ ap (λ (ls : List (List ℕ)). g.done ++ ls) next ∙ sym (append_assoc g.done (line ∷ []) rest);
          due =
              g.due
              ∙ ap (λ (ls : List (List ℕ)). length g.done + fitting answer (room - r.written) r.state ls) next
              ∙ ap (λ (i : ℕ). length g.done + i) (fitting_line answer (room - r.written) r.state line rest _ did.is k)
              ∙ ap (λ (i : ℕ). length g.done + suc (fitting answer i r'.state rest)) left
              ∙ omega (arith, one);
          state = ap (λ (x : Answered S). x.state) (did.is ∙ here) ∙ sym (state_more answer g.done line s);
          legal = did.legal;
          tally = eu ∙ ap (λ (u : Tally). tallied u (refusal_of reply)) g.tally ∙ sym (ap (tally_after t) more ∙ tally_more was reply t);
          stored =
              eo ∙ ap₂ (λ (l : List ℕ) (i : ℕ). sets l i (line_of reply)) g.stored place
              ∙ sets_append before 0 (written was) (line_of reply) ∙ ap (sets before 0) (sym bytes);
          count = en ∙ omega (arith, g.count, ap length bytes, length-append (written was) (line_of reply));
          worked = es ∙ ap₂ (λ (n : ℕ) (x : S). scan n x line) g.worked g.state ∙ sym (worked_more answer scan g.done line 0 s);
          within = omega (arith, ea, behind_within text r.next end h ee);
          moved = omega (arith, g.moved, one, ea, behind_on text r.next end h ee);
          fits = omega (arith, en, did.short);
          paced = omega (arith, g.paced, one, en, did.short);
        }

    -- what the run's end says
    abbrev Ended : Type 0
    Ended = Finished answer scan Legal text from room s t before out r

    -- no further line is answered
    finish : fitting answer (room - r.written) r.state (lines_of (drop r.next text)) ≡ 0
        → (from < length text → longest ≤ room → from < r.next) → (r.next < length text → room < r.written + longest) → Ended
    finish z progress stops =
        let ls : List (List ℕ) = lines_of (drop from text) in
        let rest : List (List ℕ) = lines_of (drop r.next text) in
        let n : ℕ = fitting answer room s ls in
        let all : length g.done ≡ n = omega (arith, g.due, z) in
        let taken : g.done ≡ take n ls = sym (ap (take n) g.lines ∙ take_at g.done rest n all) in
        let replied : replies answer s g.done ≡ replies answer s (take n ls) = ap (replies answer s) taken in (
          record {
            state = g.state ∙ ap (state_after answer s) taken;
            legal = g.legal;
            tally = g.tally ∙ ap (tally_after t) replied;
            rest = sym (ap (drop n) g.lines ∙ drop_at g.done rest n all);
            buffer = g.stored ∙ ap (λ (rs : List (List ℕ)). sets before 0 (written rs)) replied;
            count = g.count ∙ ap (λ (rs : List (List ℕ)). length (written rs)) replied;
            worked = g.worked ∙ ap (worked_after answer scan 0 s) taken;
          },
          record { onward = omega (arith, g.moved, all); within = g.within; fits = g.fits; paced = omega (arith, g.paced, all); progress = progress; stops = stops },
        )

    pub finish_end : length text ≤ r.next → Ended
    finish_end h =
        finish (fitting_none answer (room - r.written) r.state (lines_of (drop r.next text)) (lines_end text r.next h))
        (λ a b. omega arith) (λ a. absurd (omega arith))

    pub finish_full : room - r.written < longest → Ended
    finish_full h =
        finish (fitting_full answer (room - r.written) r.state (lines_of (drop r.next text)) h)
        (λ a b. omega (arith, g.moved, g.paced)) (λ a. omega arith)
