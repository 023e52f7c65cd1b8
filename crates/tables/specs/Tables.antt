-- The tables of a panel's setters.
use Rattle.std.specs.Prelude.{ℕ, ◌+◌, ◌<◌, ◌≡◌, cond, List, ltb, length, set}
use Rattle.fieldset.specs.Tables.{at}
use Rattle.fieldset.specs.Fields.{without}
use Rattle.panel.specs.declared.Link.{Link}
use Rattle.panel.specs.declared.Panel.{Panel}
use Rattle.panel.specs.Solution.{setter_level, setter_others, setter_reads, strength_of}
use Rattle.tables.specs.declared.Entry.{Entry}
use Rattle.tables.specs.declared.Tables.{Tables}

-- the entry of field f whose setter has the number c: the link l, or a stay at this place
pub record EntryOf (c : ℕ) (l : Link) (place f : ℕ) (e : Entry) : Type 0 where
  pub level : e.level ≡ cond (ltb c 128) l.level (16 + place)
  pub others : e.others ≡ cond (ltb c 128) (without l.outputs f) 0
  pub reads : e.reads ≡ cond (ltb c 128) (without l.covered f) 0

-- the level, the other outputs and the read fields of the setter of f
pub record Setting (p : Panel) (f level others reads : ℕ) : Type 0 where
  pub level_is : level ≡ setter_level p f
  pub others_are : others ≡ setter_others p f
  pub reads_are : reads ≡ setter_reads p f

-- the tables of 64 entries have the panel's own for the first n fields
pub record TabledTo (n : ℕ) (p : Panel) (levels others reads : List ℕ) : Type 0 where
  pub levels_full : length levels ≡ 64
  pub others_full : length others ≡ 64
  pub reads_full : length reads ≡ 64
  pub setting : (f : ℕ) → f < n → Setting p f (at levels f) (at others f) (at reads f)

-- the tables are the panel's own
abbrev pub Tabled : Panel → List ℕ → List ℕ → List ℕ → Type 0
Tabled = TabledTo 64

-- the same, of the three as one value
abbrev pub TablesOf : Panel → Tables → Type 0
TablesOf p t = Tabled p t.levels t.others t.reads

-- the tables with another entry of field f
abbrev pub with_entry : Tables → ℕ → Entry → Tables
with_entry t f e = record { levels = set t.levels f e.level; others = set t.others f e.others; reads = set t.reads f e.reads }

-- the table has every field's strength
abbrev pub StrengthsOf : Panel → List ℕ → Type 0
StrengthsOf p table = (f : ℕ) → f < p.size → at table f ≡ strength_of p f

-- 64 places, each below 64
abbrev pub Places : List ℕ → Type 0
Places place = (f : ℕ) → f < 64 → at place f < 64

-- the level of the setter c of a field: a stay's by its place, a link's as it was
abbrev pub level_with : ℕ → ℕ → ℕ → ℕ
level_with c place level = cond (ltb c 128) level (16 + place)
