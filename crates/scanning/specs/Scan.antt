-- What the scan for blocked links and stays asks, works out and finds.
use Rattle.std.specs.Prelude.{ℕ, ◌≡◌, Bool, ◌&&◌, List, ◌++◌, ltb, drop, Option as Answer, Some, None}
use Rattle.std.proofs.Math.Option.{Option, none, some}
use Rattle.fieldset.specs.Numbers.{any}
use Rattle.fieldset.specs.Tables.{at, tabulate}
use Rattle.fieldset.specs.Fields.{member}
use Rattle.panel.specs.declared.Link.{Link}
use Rattle.panel.specs.declared.Panel.{Panel}
use Rattle.panel.specs.Items.{Item, link, stay, link_at, outputs_of, is_in_force, is_waiting, waits, items_of}
use Rattle.panel.specs.Solution.{level, strength_of, least, least_blocked}
use Rattle.scanning.specs.declared.Blocked.{Blocked}
use Rattle.scanning.specs.declared.Blocked.TheVariants.{Link as ALink, Stay as AStay}

-- some field of a set has an entry above a level
unfoldable pub is_over : List ℕ → ℕ → ℕ → Bool
is_over table level set = any (λ u. member set u && ltb level (at table u)) 64

-- a link in force waits and is blocked, by a table of strengths
abbrev pub is_blocked_link : List ℕ → Link → Bool
is_blocked_link table l = (is_in_force l && is_waiting l.standing) && is_over table l.level l.outputs

-- the panel with other setters
abbrev pub with_setters : Panel → List ℕ → Panel
with_setters p setter = record { size = p.size; links = p.links; place = p.place; setter = setter }

-- a waiting link or stay is blocked by a table: one of its outputs has an entry above its level
unfoldable pub is_blocked_by : List ℕ → Panel → Item → Bool
is_blocked_by table p c = waits p.size p.links p.setter c && is_over table (level p c) (outputs_of p.links c)

-- of all links and stays that a table blocks the one of least level, among equals the lowest link number; whatever stands in the table
unfoldable pub least_blocked_by : List ℕ → Panel → Option Item
least_blocked_by table p = least (is_blocked_by table p) (level p) (items_of p.size)

-- the answer of a scan, which the code gives by its own Option, as an item
abbrev pub found_of : Answer Blocked → Option Item
found_of None = none
found_of (Some (ALink i l)) = some (link i)
found_of (Some (AStay f)) = some (stay f)

-- a link that is found comes with its record
abbrev pub Recorded : List Link → Answer Blocked → Type 0
Recorded links None = Unit {0}
Recorded links (Some (ALink i l)) = l ≡ link_at links i
Recorded links (Some (AStay f)) = Unit {0}

-- the answer of a scan is this item, a link with its record
abbrev pub Names : List Link → Option Item → Answer Blocked → Type 0
Names links o found = (o ≡ found_of found) × Recorded links found

-- what is found is document 01's blocked link or stay of least level
abbrev pub Finds : Panel → Answer Blocked → Type 0
Finds p found = Names p.links (least_blocked p) found

-- a scan of a panel
pub record Scanned (p : Panel) (before table : List ℕ) (found : Answer Blocked) (worked : ℕ) : Type 0 where
  -- every entry of the table is document 01's strength of that field; behind the fields it is as it was
  pub strengths : table ≡ tabulate (strength_of p) p.size ++ drop p.size before
  -- as many were worked out as there are fields
  pub once : worked ≡ p.size
  -- document 01's blocked link or stay of least level is found, and none exactly where none is blocked (`Exactly.antt`)
  pub finds : Finds p found
