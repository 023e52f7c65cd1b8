-- Strength, blocked items, the reversal of a path, the plan and loops, of a panel.
use Rattle.std.specs.Prelude.{ℕ, Bool, ◌&&◌, cond, List, [], ◌∷◌, leb, ltb}
use Rattle.std.proofs.Math.Option.{Option, none, some}
use Rattle.fieldset.specs.Numbers.{any}
use Rattle.fieldset.specs.Tables.{at}
use Rattle.fieldset.specs.Fields.{member, without}
use Rattle.strength.specs.Strength.{strength, strongest, path}
use Rattle.ordering.specs.Order.{order, has_loop}
use Rattle.panel.specs.declared.Panel.{Panel}
use Rattle.panel.specs.Items.{Item, setter_of, level_of, outputs_of, reads_of, waits, items_of}
use Rattle.panel.specs.Panels.{holding, waiting}

-- the level of an item, and the level, the other outputs and the read fields of the setter of f
abbrev pub level : Panel → Item → ℕ
level p c = level_of p.links p.place c

abbrev pub setter_level : Panel → ℕ → ℕ
setter_level p f = level p (setter_of p.setter f)

abbrev pub setter_others : Panel → ℕ → ℕ
setter_others p f = without (outputs_of p.links (setter_of p.setter f)) f

abbrev pub setter_reads : Panel → ℕ → ℕ
setter_reads p f = reads_of p.links (setter_of p.setter f) f

-- the strength of a field
unfoldable pub strength_of : Panel → ℕ → ℕ
strength_of p f = strength (setter_level p) (setter_others p) p.size f

-- "A waiting link or stay is blocked when one of its outputs has strength greater than its level"
unfoldable pub is_blocked : Panel → Item → Bool
is_blocked p c = waits p.size p.links p.setter c && any (λ u. member (outputs_of p.links c) u && ltb (level p c) (strength_of p u)) 64

-- the reversible path for c, from its output of greatest strength
unfoldable pub path_for : Panel → Item → List ℕ
path_for p c =
    let v = strongest (strength_of p) (outputs_of p.links c) in
    path (setter_level p) (setter_others p) (strength_of p) (strength_of p v) p.size v

-- "The last setter becomes waiting, every earlier one sets the next field of the walk, and the new link sets v". (Document 01's turning: the
-- reversal of the path.)
unfoldable pub reversed : Panel → Item → List ℕ → Panel
reversed p c [] = waiting p c
reversed p c (v ∷ vs) = reversed (holding p c v) (setter_of p.setter v) vs

-- of two that may be: the one with the lesser level, the first among equals
abbrev pub lesser : (Item → ℕ) → Item → Option Item → Option Item
lesser lev c none = some c
lesser lev c (some d) = cond (leb (lev c) (lev d)) (some c) (some d)

-- the first of least level among the items of a list that pass the test
unfoldable pub least : (Item → Bool) → (Item → ℕ) → List Item → Option Item
least q lev [] = none
least q lev (c ∷ cs) = cond (q c) (lesser lev c (least q lev cs)) (least q lev cs)

-- "look at all blocked links and stays; if there are any, take the one with the least level (among equals, the lowest link number)"
unfoldable pub least_blocked : Panel → Option Item
least_blocked p = least (is_blocked p) (level p) (items_of p.size)

-- the plan: all fields in the order of evaluation
unfoldable pub plan_of : Panel → List ℕ
plan_of p = order (setter_reads p) p.size

-- "a loop from setter to field to a setter that reads it"
unfoldable pub is_looped : Panel → Bool
is_looped p = has_loop (setter_reads p) p.size

-- "n times field, setter (link number, or 80 for the stay), strength"
unfoldable pub rows_of : Panel → List ℕ → List ℕ
rows_of p [] = []
rows_of p (f ∷ fs) = f ∷ at p.setter f ∷ strength_of p f ∷ rows_of p fs
