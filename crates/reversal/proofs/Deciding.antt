-- What `decide` answers, from what its callees answer: the lowest-numbered output of the strength s on the table is the one by document 01's strengths,
-- so the path that is found from it is the one that is sought; `resolve` adds whether the item is blocked.
use mathlib.Core.Path.{◌≡◌, refl, sym, ap, ◌∙◌, subst}
use mathlib.Core.Bool.{Bool, true}
use mathlib.Core.List.{List, ◌++◌}
use Prim.Native.Nat.{ℕ, ◌^◌, ◌≤◌, ◌<◌}
use native.Mathlib.Omega.{arith}
use borrow.Author.Tests.{lt-ltb, le-ltb, ltb-true}
use lib.ListN.{length, take, drop, length-append, length-drop, get_or-append}
use lib.Seq.{take_at}
use Rattle.fieldset.specs.Tables.{at}
use Rattle.fieldset.specs.Fields.{member, below, Within}
use Rattle.fieldset.proofs.Fields.{some_member, member_below}
use Rattle.fieldset.proofs.Lists.{all_at}
use Rattle.strength.specs.Strength.{greatest, strength, lowest_at, path}
use Rattle.strength.specs.Filling.{PathFound}
use Rattle.strength.proofs.Maxima.{greatest_some}
use Rattle.strength.proofs.Paths.{Tie, lowest_at_found, lowest_at_cong, Reversible, path_reversible}
use Rattle.ordering.specs.Order.{has_loop}
use Rattle.ordering.specs.Walks.{Among}
use Rattle.keeping.specs.Keeping.{loops_through}
use Rattle.keeping.proofs.Changes.{loop_through}
use Rattle.panel.specs.Outcomes.{PathOf}
use Rattle.reversal.specs.declared.Verdict.{Verdict}
use Rattle.reversal.specs.declared.Verdict.TheVariants.{Free, Looped, Path}
use Rattle.reversal.specs.Reversals.{reversed_reads, fields_of, with_path, resolved_path, Undecided, Found, Decided, Resolved}
use Rattle.reversal.proofs.Fields.{reads_differ, fields_low}
use Rattle.reversal.proofs.ReadFields.{among_reversed}

module _ {levels others table : List ℕ} {n known s outputs covered : ℕ} {reads path₀ : List ℕ} (small : outputs < 2 ^ 64)
    (u : Undecided levels others table n known s outputs covered reads path₀) where
  pub start_same : lowest_at (at table) s outputs ≡ lowest_at (strength (at levels) (at others) n) s outputs
  start_same =
      lowest_at_cong (at table) (strength (at levels) (at others) n) s outputs (λ w l e. u.strengths.right w l (u.outputs_known w l e))

  start_tie : Tie (strength (at levels) (at others) n) s outputs (lowest_at (at table) s outputs)
  start_tie =
      let m = some_member outputs small u.some_output in
      let top = greatest_some (member outputs) (strength (at levels) (at others) n) 64 m.0 m.1 m.2 in
      rw start_same (lowest_at_found (strength (at levels) (at others) n) s outputs top.0
      (record { field = top.1; is_in = top.2; strong = top.3 ∙ sym u.is_greatest }))

  module _ {v : ℕ} (is : v ≡ lowest_at (at table) s outputs) where
    tie : Tie (strength (at levels) (at others) n) s outputs v
    tie = rw is start_tie

    pub start_small : v < n
    start_small = ltb-true v n (sym (member_below n v tie.field) ∙ u.outputs_inside v tie.field tie.is_in)

    pub start_known : member known v ≡ true
    start_known = u.outputs_known v tie.field tie.is_in

    module _ {path₁ : List ℕ} {end : ℕ} (w : PathFound levels others n v path₀ path₁ end) where
      is_reversible : Reversible (at levels) (at others) n v w.fields
      is_reversible =
          rw w.is_path (path_reversible (at levels) (at others) u.acyclic.rank u.acyclic.ranked.falls n u.acyclic.few
          u.acyclic.inside v start_small (u.acyclic.ranked.small v start_small))

      fields_taken : take end path₁ ≡ w.fields
      fields_taken = rw w.stored (take_at w.fields (drop (length w.fields) path₀) end (sym w.ended))

      -- the buffer keeps its length
      pub after_length : length path₁ ≡ 64
      after_length =
          ap length w.stored
          ∙ simp (length-append, length-drop) (omega (arith, is_reversible.short, u.acyclic.few, u.path_length))

      -- the path is that of the strength s
      is_path : w.fields ≡ path (at levels) (at others) (strength (at levels) (at others) n) s n (lowest_at (strength (at levels) (at others) n) s outputs)
      is_path =
          w.is_path
          ∙ ap (λ (x : ℕ). path (at levels) (at others) (strength (at levels) (at others) n) x n v) tie.strong
          ∙ ap (λ (x : ℕ). path (at levels) (at others) (strength (at levels) (at others) n) s n x) (is ∙ start_same)

      pub path_stored : path₁ ≡ with_path levels others n s outputs path₀
      unfolding with_path
      path_stored = w.stored ∙ ap (λ (vs : List ℕ). vs ++ drop (length vs) path₀) is_path

      pub path_of : PathOf path₁ end
      path_of = record {
        full = after_length;
        few = omega (arith, w.ended, is_reversible.short, u.acyclic.few);
        fields = λ i l.
            let k : i < length w.fields = omega (arith, w.ended) in
            let low : at w.fields i < n = all_at (λ f. f < n) 0 w.fields is_reversible.inside i k in
            let same : at path₁ i ≡ at w.fields i =
            ap (λ (x : List ℕ). at x i) w.stored ∙ get_or-append w.fields (drop (length w.fields) path₀) 0 i k in
            omega (arith, u.acyclic.few);
      }

      pub after_among : Among (reversed_reads reads covered (take end path₁)) n
      after_among =
          rw fields_taken (among_reversed n w.fields reads covered u.reads_length u.among u.covered_inside is_reversible.inside)

      pub path_low : {m : ℕ} → m ≡ fields_of (take end path₁) → Within m (below n)
      path_low e = rw (e, fields_taken) (fields_low n w.fields is_reversible.inside)

      -- a loop goes through a field of the path
      pub decided : {reads₁ : List ℕ} {m : ℕ} {looped : Bool} → reads₁ ≡ reversed_reads reads covered (take end path₁) → m ≡ fields_of (take end path₁)
          → looped ≡ loops_through (at reads₁) n m → Found levels others n s outputs covered reads path₁ end looped
      decided {reads₁} {m} rs em lp = record {
        fields = path_of;
        is_path = fields_taken ∙ is_path;
        is_looped =
            lp
            ∙ loop_through {old = reads} {new = reads₁} (rw rs after_among) (path_low em) (rw (rs, em) (reads_differ reads covered (take end path₁))) u.loopless
            ∙ ap (λ (x : List ℕ). has_loop (at x) n) rs;
      }

-- the buffer of an item that is not blocked, and of one that is
pub free_path : (levels others : List ℕ) (n level s outputs : ℕ) (buffer : List ℕ) → s ≡ greatest (member outputs) (strength (at levels) (at others) n) 64
    → s ≤ level → buffer ≡ resolved_path levels others n level outputs buffer
unfolding resolved_path
free_path levels others n level s outputs buffer e l = rw (le-ltb level _ (rw e at l), resolved_path) refl

pub blocked_path : (levels others : List ℕ) (n level s outputs : ℕ) (before after : List ℕ) → s ≡ greatest (member outputs) (strength (at levels) (at others) n) 64
    → level < s → after ≡ with_path levels others n s outputs before → after ≡ resolved_path levels others n level outputs before
unfolding resolved_path
blocked_path levels others n level s outputs before after e l h =
    h ∙ rw (lt-ltb level _ (rw e at l), resolved_path) (ap (λ (x : ℕ). with_path levels others n x outputs before) e)

-- what is decided for a blocked item is what is to be done for it
pub resolved : (levels others : List ℕ) (n level s outputs covered : ℕ) (reads after : List ℕ) (t : Verdict)
    → s ≡ greatest (member outputs) (strength (at levels) (at others) n) 64 → level < s
    → Decided levels others n s outputs covered reads after t → Resolved levels others n level outputs covered reads after t
resolved levels others n level s outputs covered reads after Free e l d = absurd d
resolved levels others n level s outputs covered reads after Looped e l d =
    (lt-ltb level _ (rw e at l), subst (λ (x : ℕ). Decided levels others n x outputs covered reads after Looped) e d)
resolved levels others n level s outputs covered reads after (Path k m) e l d =
    (lt-ltb level _ (rw e at l), subst (λ (x : ℕ). Decided levels others n x outputs covered reads after (Path k m)) e d)
