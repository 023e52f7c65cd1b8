-- What a run over the lines of a text gives, whatever answers the lines.
use Rattle.std.specs.Prelude.{ℕ, suc, ◌+◌, ◌-◌, ◌*◌, ◌≤◌, ◌<◌, max, ◌≡◌, cond, List, [], ◌∷◌, ◌++◌, leb, length, take, drop}
use Rattle.std.proofs.lemmas.List.Edits.{sets}
use Rattle.sheet.specs.declared.Sheet.{Sheet}
use Rattle.hexadecimal.specs.Hex.{line_of}
use Rattle.tally.specs.declared.Tally.{Tally}
use Rattle.lines.specs.Lines.{lines_of}
use Rattle.frames.specs.Texts.{LineAnswer, state_after, replies, tally_after, written, output}
use Rattle.replies.specs.Replies.{longest}
use Rattle.answering.specs.declared.Progress.{Progress}

-- where a run over a text stands: the position of the next line, the state, the tally, how many bytes were written, and how many strengths the last
-- scan worked out
pub record Reached (S : Type 0) : Type 0 where
  pub next : ℕ
  pub state : S
  pub tally : Tally
  pub written : ℕ
  pub worked : ℕ

-- what the code answers
abbrev pub reached : Progress → Reached Sheet
reached r = record { next = r.next; state = r.sheet; tally = r.tally; written = r.written; worked = r.worked }

-- how far a run got that answered n lines
pub record Paced {S : Type 0} (text : List ℕ) (from room n : ℕ) (r : Reached S) : Type 0 where
  pub onward : from + n ≤ r.next
  pub within : r.next ≤ max from (length text)
  pub fits : r.written ≤ room
  pub paced : r.written ≤ longest * n
  pub progress : from < length text → longest ≤ room → from < r.next
  -- it stops where no line is left, or no longest reply fits
  pub stops : r.next < length text → room < r.written + longest

module _ {S : Type 0} (answer : LineAnswer S) where
  -- how many lines are answered: one after the other, while a longest reply still fits the room that is left
  unfoldable pub fitting : ℕ → S → List (List ℕ) → ℕ
  fitting room s [] = 0
  fitting room s (l ∷ ls) =
      let a = answer s l in
      cond (leb longest room) (suc (fitting (room - length (line_of a.reply)) a.state ls)) 0

  -- how many strengths the last scan worked out after lines, where `scan n s l` is that after the line l and n that before it
  unfoldable pub worked_after : (ℕ → S → List ℕ → ℕ) → ℕ → S → List (List ℕ) → ℕ
  worked_after scan n s [] = n
  worked_after scan n s (l ∷ ls) = worked_after scan (scan n s l) (answer s l).state ls

  -- a run that goes on from a position
  pub record Resumed (text : List ℕ) (from : ℕ) (s : S) (t : Tally) (before after : List ℕ) (r : Reached S) : Type 0 where
    -- the bytes written, and the output from where it stands now, are the output from where it stood
    pub resumes : take r.written after ++ output answer r.state r.tally (lines_of (drop r.next text)) ≡ output answer s t (lines_of (drop from text))
    pub behind : drop r.written after ≡ drop r.written before
    -- it stands where it stood or further on, and past the end only where it stood there
    pub onward : from ≤ r.next
    pub within : r.next ≤ max from (length text)
    pub paced : r.written ≤ longest * (r.next - from)
    pub fits : r.written ≤ length before
    -- where a line is left and a longest reply fits, a line is answered
    pub progress : from < length text → longest ≤ length before → from < r.next

module _ {S : Type 0} (answer : LineAnswer S) (scan : ℕ → S → List ℕ → ℕ) where
  -- of these lines of a text the first n are answered, from a state and a tally on; what is legal of a state holds of the one that is reached
  pub record Ran (Legal : S → Type 0) (text : List ℕ) (lines : List (List ℕ)) (n : ℕ) (s : S) (t : Tally) (before after : List ℕ) (r : Reached S) : Type 0 where
    pub state : r.state ≡ state_after answer s (take n lines)
    pub legal : Legal r.state
    pub tally : r.tally ≡ tally_after t (replies answer s (take n lines))
    pub rest : lines_of (drop r.next text) ≡ drop n lines
    -- as many of their replies' characters as fit stand at the start of the buffer, whose bytes behind are as they were
    pub buffer : after ≡ sets before 0 (written (replies answer s (take n lines)))
    pub count : r.written ≡ length (written (replies answer s (take n lines)))
    pub worked : r.worked ≡ worked_after answer scan 0 s (take n lines)

  -- the lines from a position on, as many as fit the room
  abbrev pub RanFrom : (Legal : S → Type 0) (text : List ℕ) (from room : ℕ) (s : S) (t : Tally) (before after : List ℕ) (r : Reached S) → Type 0
  RanFrom Legal text from room s t before after r =
      let lines = lines_of (drop from text) in
      Ran Legal text lines (fitting answer room s lines) s t before after r

  -- the same, and how far the run got
  abbrev pub Finished : (Legal : S → Type 0) (text : List ℕ) (from room : ℕ) (s : S) (t : Tally) (before after : List ℕ) (r : Reached S) → Type 0
  Finished Legal text from room s t before after r =
      RanFrom Legal text from room s t before after r × Paced text from room (fitting answer room s (lines_of (drop from text))) r
