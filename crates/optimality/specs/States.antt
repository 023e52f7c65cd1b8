-- What holds in every state after a list of commands, and document 01's Better.
use Rattle.std.specs.Prelude.{ℕ, ◌<◌, ◌≡◌, ◌↔◌, true, false, List}
use Rattle.std.proofs.Math.Option.{some}
use Rattle.fieldset.specs.Lists.{In}
use Rattle.panel.specs.declared.Panel.{Panel}
use Rattle.panel.specs.Items.{Item, link, link_at, is_in_force}
use Rattle.panel.specs.Panels.{dropped}
use Rattle.panel.specs.Solution.{is_blocked, least_blocked}
use Rattle.panel.specs.Steps.{settled, remove_step}
use Rattle.optimality.specs.Condition3.{Entry, Store, level_in, Pair, items, Matching, held}

-- ---- every state

-- every required link of the store is held: "0 is required"
abbrev pub HoldsRequired : Store → List Pair → Type 0
HoldsRequired b xs = (i : ℕ) (e : Entry) → b.links i ≡ some e → e.level ≡ 0 → In (link i) (items xs)

-- "In every state: each field has exactly one setter (a link holding it, or its stay); every required link in force holds"
pub record Settled (b : Store) (plan : List ℕ) : Type 0 where
  pub setter : (f : ℕ) → In f b.stays → Item
  pub sets : (f : ℕ) (h : In f b.stays) → In (record { item = setter f h; field = f }) (held plan)
  pub only : (f : ℕ) (h : In f b.stays) (c : Item) → In (record { item = c; field = f }) (held plan) → c ≡ setter f h
  pub required : HoldsRequired b (held plan)

-- no link or stay is blocked
abbrev pub NothingBlocked : Panel → Type 0
NothingBlocked p = (c : Item) → is_blocked p c ≡ false

-- ---- Remove

-- "If the link waits, drop it. If it sets v, .. Then look at all blocked links and stays": to look after a link that waits is dropped, too, gives the
-- same answer
abbrev pub LooksAlike : Panel → Type 0
LooksAlike p = (id : ℕ) → is_in_force (link_at p.links id) ≡ true → remove_step p id ≡ settled p (dropped p id) (least_blocked (dropped p id))

-- ---- Better

-- source 003, definition 9, with the inclusion as document 01 turns it: "the side whose held set contains the other's at the first differing
-- level is better"
pub record Better (b : Store) (xs ys : List Pair) : Type 0 where
  -- the first level at which xs and ys hold different items
  pub level : ℕ
  pub same : (c : Item) → level_in b c < level → In c (items xs) ↔ In c (items ys)
  pub contains : (c : Item) → level_in b c ≡ level → In c (items ys) → In c (items xs)
  -- an item of this level that only xs holds
  pub more : Item
  pub more_level : level_in b more ≡ level
  pub more_held : In more (items xs)
  pub more_missed : In more (items ys) → ⊥

-- "Condition 3 of the tender implies that nothing is better"
abbrev pub NothingBetter : Store → List ℕ → Type 0
NothingBetter b plan = (xs : List Pair) → Matching b xs → Better b xs (held plan) → ⊥
