-- `edf::read_unit` meets its contract: each comparison is the definition's test of the unit (`flow-is`, `unclear-is`).
use mathlib.Core.Path.{◌≡◌, refl, sym, ◌∙◌}
use mathlib.Core.List.{map}
use Rattle.hexadecimal.specs.Characters.{characters}
use Rattle.edf.specs.Texts.{are_spaces, dropped, is_either, is_flow, lower}
use Rattle.edf.proofs.Counting.{text_equal, text_lowered, either_first, either_second, unit_flow, unit_unclear, unit_other}
use Rattle.edf.proofs.read_unit.Goals as goal
use Rattle.edf.proofs.read_unit.Goals.{Joined-eq, then-eq, else-eq, Joined-eq_ignore_ascii_case, then-eq_ignore_ascii_case, else-eq_ignore_ascii_case}

-- ---- the places: the unit is compared with the texts; and but for letter case

flow-is : (c : Joined-eq) → c.if-eq.value ≡ is_flow c.args.field.now
unfolding is_flow dropped are_spaces characters
flow-is c =
    let s = c.args.field.now in
    let first = text_equal (characters "L/min") s _ _ refl c.trimmed-unit.ensures c.as_slice.ensures _ c.eq.ensures in
    elim c.if-eq.branch [
      | then-eq w ↦ w.value-is ∙ w.if-eq.true ∙ either_first _ _ _ (sym first ∙ w.if-eq.true)
      | else-eq w ↦
          w.value-is ∙ text_equal (characters "L/s") s _ _ refl c.trimmed-unit.ensures w.as_slice-else-eq.ensures _ w.eq-else-eq.ensures
          ∙ either_second _ _ _ (sym first ∙ w.if-eq.false)
    ]

unclear-is : (c : Joined-eq_ignore_ascii_case) → c.if-eq_ignore_ascii_case.value ≡ is_either (characters "l/min") (characters "l/s") (map lower c.args.field.now)
unfolding dropped are_spaces characters
unclear-is c =
    let s = c.args.field.now in
    let first = text_lowered (characters "l/min") s _ refl c.trimmed-unit.ensures _ c.eq_ignore_ascii_case.ensures.test in
    elim c.if-eq_ignore_ascii_case.branch [
      | then-eq_ignore_ascii_case w ↦ w.value-is ∙ w.if-eq_ignore_ascii_case.true ∙ either_first _ _ _ (sym first ∙ w.if-eq_ignore_ascii_case.true)
      | else-eq_ignore_ascii_case w ↦
          w.value-is ∙ text_lowered (characters "l/s") s _ refl c.trimmed-unit.ensures _ w.eq_ignore_ascii_case-else-eq_ignore_ascii_case.ensures.test
          ∙ either_second _ _ _ (sym first ∙ w.if-eq_ignore_ascii_case.false)
    ]

-- ---- the goals

pub returns-then-eq-2 : goal.returns-then-eq-2
returns-then-eq-2 c = unit_flow _ (sym (flow-is (goal.at.returns-then-eq-2 c).Joined-eq) ∙ c.if-eq-2.true)

pub returns-then-eq_ignore_ascii_case-2 : goal.returns-then-eq_ignore_ascii_case-2
returns-then-eq_ignore_ascii_case-2 c =
    let at = goal.at.returns-then-eq_ignore_ascii_case-2 c in
    unit_unclear _ (sym (flow-is at.Joined-eq) ∙ c.if-eq-2.false) (sym (unclear-is at.Joined-eq_ignore_ascii_case) ∙ c.if-eq_ignore_ascii_case-2.true)

pub returns-else-eq_ignore_ascii_case-2 : goal.returns-else-eq_ignore_ascii_case-2
returns-else-eq_ignore_ascii_case-2 c =
    let at = goal.at.returns-else-eq_ignore_ascii_case-2 c in
    unit_other _ (sym (flow-is at.Joined-eq) ∙ c.if-eq-2.false) (sym (unclear-is at.Joined-eq_ignore_ascii_case) ∙ c.if-eq_ignore_ascii_case-2.false)
