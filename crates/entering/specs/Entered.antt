-- What entering a value promises.
use Rattle.std.specs.Prelude.{ℕ, ◌≡◌, List, ℤ}
use Rattle.panel.specs.declared.Panel.{Panel}
use Rattle.std.specs.Prelude.{Ok}
use Rattle.panel.specs.declared.Step.{Step}
use Rattle.panel.specs.Answers.{reply_bytes}
use Rattle.panel.specs.Commands.{touching}
use Rattle.panel.specs.Outcomes.{Takes, Uncounted, step_reply, Decides}
use Rattle.tables.specs.Tables.{Tabled}
use Rattle.values.specs.Changes.{revalued}
use Rattle.sheet.specs.declared.Sheet.{Sheet}
use Rattle.sheet.specs.Commands.{entering, performed}

-- a panel's setters, and the table of the fields that they read, one of its tables
pub record SettersOf (p : Panel) (setter reads : List ℕ) : Type 0 where
  pub sets : setter ≡ p.setter
  pub levels : List ℕ
  pub others : List ℕ
  pub tabled : Tabled p levels others reads

-- the step of a touch with the fields that get another value
abbrev pub valued_step : Step → ℕ → Step
valued_step s set =
    record {
      reply = Ok 0;
      size = s.size;
      place = s.place;
      link = s.link;
      freed = s.freed;
      setter = s.setter;
      count = s.count;
      changed = s.changed;
      revalued = set;
    }

-- the step, from the step of the touch, and the values afterwards are those of the command; no formula changes
pub record Entered (s : Sheet) (f : ℕ) (v : ℤ) (touch : Step) (after : List ℤ) (step : Step) : Type 0 where
  -- both steps name the link of number 0, and have one path
  pub takes : (path : List ℕ) → Decides s.panel 0 (touching f) path touch → Takes s.panel 0 path step (performed s (entering f v)).sheet.panel
  pub reply : reply_bytes (step_reply step (performed s (entering f v)).sheet.panel) ≡ (performed s (entering f v)).reply
  pub uncounted : Uncounted step.reply
  pub revalued_are : step.revalued ≡ revalued s.panel.size s.values after
  pub values : after ≡ (performed s (entering f v)).sheet.values
