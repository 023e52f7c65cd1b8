-- What an operation promises: the step that it answers, taken, gives the panel and the reply of the command.
use Rattle.std.specs.Prelude.{ℕ, ◌≤◌, ◌<◌, ◌≡◌, cond, ◌≢◌, ◌⊎◌, List, eqb, length, take, drop, set}
use Rattle.std.proofs.lemmas.List.Edits.{sets}
use Rattle.fieldset.specs.Tables.{at}
use Rattle.fieldset.specs.Fields.{union, size}
use Rattle.downstream.specs.Downstream.{spread}
use Rattle.panel.specs.declared.Standing.TheVariants.{Waiting, Holding}
use Rattle.panel.specs.declared.Link.{Link}
use Rattle.panel.specs.declared.Panel.{Panel}
use Rattle.panel.specs.Answers.{Reply}
use Rattle.std.specs.Prelude.{Ok, Err}
use Rattle.panel.specs.declared.Step.{Step}
use Rattle.panel.specs.Items.{item_of, link_at}
use Rattle.panel.specs.Answers.{reply_bytes, plan_rest, rows_length}
use Rattle.panel.specs.Panels.{freed}
use Rattle.panel.specs.Solution.{setter_reads, reversed}
use Rattle.panel.specs.Moved.{turned}
use Rattle.panel.specs.Commands.{Command, performed, planning}

-- the step that leaves these fields, places and this link
abbrev pub unchanged : ℕ → List ℕ → Link → Reply → Step
unchanged size place named reply =
    record { reply = reply; size = size; place = place; link = named; freed = Waiting; setter = 128; count = 0; changed = 0; revalued = 0 }

-- the panel with the fields, places and the link of number k that a step gives
abbrev pub altered : Panel → ℕ → Step → Panel
altered p k s = record { size = s.size; links = set p.links k s.link; place = s.place; setter = p.setter }

-- the panel after a step: then what a dropped link held is set by its stay, and the path is reversed whose fields stand at the start of the buffer
unfoldable pub taken : Panel → ℕ → Step → List ℕ → Panel
taken p k s path = reversed (freed (altered p k s) s.freed) (item_of s.setter (at path 0)) (take s.count path)

-- a path of so many fields stands at the start of a buffer of 64
pub record PathOf (path : List ℕ) (count : ℕ) : Type 0 where
  pub full : length path ≡ 64
  pub few : count ≤ 64
  pub fields : (i : ℕ) → i < count → at path i < 64

-- a step that the panel can take, and the panel after it
pub record Takes (p : Panel) (k : ℕ) (path : List ℕ) (s : Step) (after : Panel) : Type 0 where
  pub panel : taken p k s path ≡ after
  -- the fields that get another setter; where there are none, no path is reversed
  pub changed : s.changed ≡ turned p after
  pub still : s.changed ≡ 0 → (s.freed ≡ Waiting) × (s.setter ≡ 128) × (s.count ≡ 0)
  pub path_of : PathOf path s.count
  -- what a dropped link held is a field, which gets another setter
  pub freed_field : (v : ℕ) → s.freed ≡ Holding v → v < 64
  pub freed_turns : (v : ℕ) → s.freed ≡ Holding v → at p.setter v ≢ at after.setter v
  -- a link that sets a field stays, or gives that field free
  pub keeps : (f : ℕ) → f < 64 → at p.setter f ≡ k → (s.link ≡ link_at p.links k) ⊎ (s.freed ≡ Holding f)

-- a reply without a moved count: a refusal, or 00 00
abbrev pub Uncounted : Reply → Type 0
Uncounted (Ok m) = m ≡ 0
Uncounted (Err r) = Unit {0}

-- a reply with the count of a set of fields, where it has any: else it stays, as a plan's does, which has a count of its own
abbrev pub counted : Reply → ℕ → Reply
counted (Ok m) set = Ok (cond (eqb set 0) m (size set))
counted (Err r) set = Err r

-- the fields that are redrawn on the panel q: those of a set whose setters changed, all downstream of these, and those of a set whose values changed
unfoldable pub redrawn_by : ℕ → ℕ → Panel → ℕ
redrawn_by changed revalued q = union (spread (setter_reads q) q.size changed) revalued

-- the reply to a step that leaves the panel q: with the count that is known then
abbrev pub step_reply : Step → Panel → Reply
step_reply s q = counted s.reply (redrawn_by s.changed s.revalued q)

-- the step of a command, which names the link of number k: the panel after it and its reply are the command's; no value changes
pub record Decides (p : Panel) (k : ℕ) (c : Command) (path : List ℕ) (s : Step) : Type 0 where
  pub takes : Takes p k path s (performed p c).panel
  pub reply : reply_bytes (step_reply s (performed p c).panel) ≡ (performed p c).reply
  pub uncounted : Uncounted s.reply
  pub unvalued : s.revalued ≡ 0

-- a plan: the first two bytes of the answer's reply are the reply's, and the rest of it, the rows, stands at the start of the buffer, whose
-- bytes behind are as they were
pub record Plans (p : Panel) (r : Reply) (before after : List ℕ) : Type 0 where
  pub reply : reply_bytes r ≡ take 2 (performed p planning).reply
  pub rows : after ≡ sets before 0 (drop 2 (performed p planning).reply)
  -- three bytes for each field that the reply counts, which are no more than a buffer of rows holds
  pub length_rows : length (drop 2 (performed p planning).reply) ≡ plan_rest r
  pub few : plan_rest r ≤ rows_length
