use Prim.Native.Nat.{◌+◌, max}
use mathlib.Core.Path.{sym, ap, ◌∙◌}
use native.Mathlib.Omega.{arith}
use Rattle.fieldset.specs.Fields.{with}
use Rattle.fieldset.proofs.Fields.{within_member, size_le}
use Rattle.strength.proofs.Gather.{step, finish, one_known, fill_known, one_filled}
use Rattle.strength.proofs.+fill.Goals as goal
use Rattle.strength.proofs.+fill.Goals.{then-within, else-within, then-not-member, else-not-member}

pub overflow_add-count : goal.overflow_add-count
overflow_add-count t c = omega (arith, c.loop-u.invariant.counted, c.fill-t.ensures.counted, size_le c.fill-t.result.known)

pub overflow_add-count-then-not-member : goal.overflow_add-count-then-not-member
overflow_add-count-then-not-member t c =
    let G = c.loop-u.invariant in
    let U = c.in-Some.ensures.steps.0 in
    let unknown = sym c.member.ensures ∙ c.if-not-member.true in
    elim c.if-within.branch [
      | then-within w ↦
          let known = fill_known c.requires G U (λ u l. within_member _ _ u (sym c.within.ensures ∙ w.if-within.true) l) in
          let F = one_filled c.requires G U unknown known (w.s-is ∙ w.max-s.ensures ∙ ap (max _) w.top_of.ensures) in
          omega (arith, G.counted, F.counted, size_le (with c.loop-u.k c.in-Some.u))
      | else-within w ↦
          let F = one_filled c.requires G U unknown w.fill-t.ensures (w.s-is ∙ w.max-s-else-within.ensures) in
          omega (arith, G.counted, F.counted, size_le (with w.fill-t.result.known c.in-Some.u))
    ]

pub loop-u-preserved : goal.loop-u-preserved
loop-u-preserved t c =
    let G = c.loop-u.invariant in
    let (U, q) = c.in-Some.ensures.steps in
    elim c.if-not-member.branch [
      | then-not-member w ↦
          let unknown = sym c.member.ensures ∙ w.if-not-member.true in
          elim w.if-within.branch [
            | then-within v ↦
                let known = fill_known c.requires G U (λ u l. within_member _ _ u (sym w.within.ensures ∙ v.if-within.true) l) in
                let F = one_filled c.requires G U unknown known (v.s-is ∙ v.max-s.ensures ∙ ap (max _) v.top_of.ensures) in
                step {more = 1} G U (rw (w.table-is, v.table-is, w.k-is, w.with-k.ensures, v.k-is) F) (omega arith) c.max-top.ensures q
            | else-within v ↦
                let F = one_filled c.requires G U unknown v.fill-t.ensures (v.s-is ∙ v.max-s-else-within.ensures) in
                step {more = v.fill-t.result.count + 1} G U (rw (w.table-is, v.table-is, w.k-is, w.with-k.ensures, v.k-is) F) (omega arith) c.max-top.ensures q
          ]
      | else-not-member w ↦
          step {more = 0} G U (rw (w.table-is, w.k-is) (one_known G.strengths (sym c.member.ensures ∙ w.if-not-member.false))) (omega arith)
          c.max-top.ensures q
    ]

pub returns : goal.returns
returns t c = finish c.loop-u.invariant c.in-None.ensures.steps.0
