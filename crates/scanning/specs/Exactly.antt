-- What the scan for blocked links and stays finds, in the words of document 01: statements.
use Rattle.std.specs.Prelude.{ℕ, ◌≤◌, ◌<◌, max, ◌≡◌, true, false, ◌↔◌, List, Option as Answer}
use Rattle.std.proofs.Math.Option.{none, some}
use Rattle.fieldset.specs.Tables.{at}
use Rattle.fieldset.specs.Fields.{member}
use Rattle.strength.specs.Strength.{greatest}
use Rattle.panel.specs.declared.Panel.{Panel}
use Rattle.panel.specs.Items.{Item, link, outputs_of, waits}
use Rattle.panel.specs.Panels.{dropped}
use Rattle.panel.specs.Solution.{level, setter_level, setter_others, strength_of, is_blocked, least_blocked}
use Rattle.panel.specs.Legal.{Legal}
use Rattle.scanning.specs.declared.Blocked.{Blocked}
use Rattle.scanning.specs.Scan.{found_of, Recorded, Scanned}

-- "look at all blocked links and stays; if there are any, take the one with the least level (among equals, the lowest link number)": it is blocked,
-- no blocked one has a lesser level, and if it is a link, every blocked link of a lower number has a greater level
pub record IsTaken (p : Panel) (c : Item) : Type 0 where
  pub blocked : is_blocked p c ≡ true
  pub least : (d : Item) → is_blocked p d ≡ true → level p c ≤ level p d
  pub lowest : (i j : ℕ) → c ≡ link j → i < j → is_blocked p (link i) ≡ true → level p c < level p (link i)

pub record ScanExactly (p : Panel) : Type 0 where
  -- "The strength of field v with setter c is the largest of c's level and the strengths of c's other outputs"
  pub strength : (v : ℕ) → v < p.size → strength_of p v ≡ max (setter_level p v) (greatest (member (setter_others p v)) (strength_of p) 64)
  -- "A waiting link or stay is blocked when one of its outputs has strength greater than its level"
  pub blocked : (c : Item) → is_blocked p c ≡ true
      ↔ ((waits p.size p.links p.setter c ≡ true)
      × ((u : ℕ) × (u < 64) × (member (outputs_of p.links c) u ≡ true) × (level p c < strength_of p u)))
  -- what is found is the one that document 01 takes
  pub finds : (c : Item) → least_blocked p ≡ some c ↔ IsTaken p c
  -- nothing is found exactly when no link and no stay is blocked
  pub none_blocked : least_blocked p ≡ none ↔ ((c : Item) → is_blocked p c ≡ false)

-- of every legal panel, so of the one that a removal leaves without its link
abbrev pub ScansExactly : Type 0
ScansExactly = (p : Panel) → Legal p → ScanExactly p

-- what the scan of a removal answers, in these words; p is the panel without the link
pub record RemovalScan (p : Panel) (table : List ℕ) (found : Answer Blocked) (worked : ℕ) : Type 0 where
  -- "every entry is document 01's strength"
  pub entries : (f : ℕ) → f < p.size → at table f ≡ strength_of p f
  -- "n strengths worked out"
  pub count : worked ≡ p.size
  -- "the scan finds the one that document 01 takes"
  pub finds : (c : Item) → found_of found ≡ some c ↔ IsTaken p c
  -- "and none exactly when none is blocked"
  pub none_blocked : found_of found ≡ none ↔ ((c : Item) → is_blocked p c ≡ false)
  pub recorded : Recorded p.links found
  -- what strength, blocked and the one that is taken are
  pub exactly : ScanExactly p

-- of every removal of a link, from what `scan_without` promises (`Scanned`)
abbrev pub RemovalScans : Type 0
RemovalScans =
    (p : Panel) → Legal p → (id : ℕ) → id < 128 → (before table : List ℕ) (found : Answer Blocked) (worked : ℕ) → Scanned (dropped p id) before table found worked
    → RemovalScan (dropped p id) table found worked
