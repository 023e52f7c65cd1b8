-- What a removal decides: by its checks, by the link's standing, and by what is blocked then. The checks agree with the command's (`remove_agree`). A
-- waiting link is dropped and nothing else (`remove_waiting`). For one that holds v the tables with v's stay are the panel's without the link
-- (`tabled`), so what is chosen is the definition's least blocked item; with none the drop is the step, else the verdict on it gives the answer
-- (`settles`), by the laws of a reversal (`found_refused`, `decides_path`).
use mathlib.Core.Path.{◌≡◌, refl, sym, ap, ◌∙◌, subst}
use mathlib.Core.Logic.{◌≢◌, inr}
use mathlib.Core.Bool.{true, false, not}
use mathlib.Core.List.{List}
use mathlib.Core.Option.{some}
use Prim.Native.Nat.{ℕ, ◌%◌, ◌<◌}
use native.Mathlib.Nat.{mod-eq_of_lt}
use native.Mathlib.Decide.{dec_lt}
use native.Mathlib.Omega.{arith}
use borrow.Author.Tests.{eqb-true, lt-ltb, le-ltb, ltb-true, ltb-false}
use lib.ListN.{length, get_or-eq_default}
use Rattle.fieldset.specs.Tables.{at}
use Rattle.fieldset.specs.Fields.{member, below}
use Rattle.fieldset.proofs.Fields.{member_some, member_below, member_only}
use Rattle.strength.specs.Strength.{greatest, strength}
use Rattle.strength.specs.Filling.{Strengths, Within}
use Rattle.panel.specs.declared.Standing.{Standing}
use Rattle.panel.specs.declared.Standing.TheVariants.{Waiting, Holding}
use Rattle.panel.specs.declared.Link.{Link}
use Rattle.panel.specs.declared.Panel.{Panel}
use Rattle.panel.specs.declared.Refusal.{Refusal}
use Rattle.panel.specs.declared.Refusal.TheVariants.{Loop}
use Rattle.panel.specs.Answers.{Reply}
use Rattle.std.specs.Prelude.{Option, Some, None, Ok, Err}
use Rattle.panel.specs.declared.Step.{Step}
use Rattle.panel.specs.Items.{Item, link, stay, no_link, link_at, outputs_of, in_force}
use Rattle.panel.specs.Answers.{refused, reply_bytes}
use Rattle.panel.specs.Panels.{with_link, freed, dropped}
use Rattle.panel.specs.Solution.{is_blocked, least_blocked}
use Rattle.panel.specs.Steps.{settled, drop_step, remove_step}
use Rattle.panel.specs.Commands.{Passes, check_reply, remove_checks, removing, performed, check_remove}
use Rattle.panel.specs.Legal.{Legal}
use Rattle.panel.specs.Outcomes.{unchanged, Decides}
use Rattle.panel.proofs.InForce.{force_used, unused_off}
use Rattle.panel.proofs.Answers.{replies_apart}
use Rattle.panel.proofs.Reversed.{number_of, link_here}
use Rattle.panel.proofs.Legal.{Filled, LegalBut, force_formed}
use Rattle.panel.proofs.Setters.{outputs_inside, waits_force}
use Rattle.panel.proofs.Reversal.{Blocking, blocking, legal_waits}
use Rattle.panel.proofs.Changes.{freed_parts}
use Rattle.panel.proofs.Checks.{Agree, checked_step, passes_reply, reply_refused, reply_accepted, named_link, removable}
use Rattle.panel.proofs.Outcomes.{decides_unchanged}
use Rattle.tables.specs.Tables.{Tabled}
use Rattle.tables.proofs.Agreement.{greatest_same, panel_acyclic, panel_among, panel_loopless, all_strengths, table_strengths, table_full}
use Rattle.reversal.specs.declared.Verdict.{Verdict}
use Rattle.reversal.specs.declared.Verdict.TheVariants.{Free, Looped, Path}
use Rattle.reversal.specs.Reversals.{Undecided, Decided, step_of}
use Rattle.reversal.proofs.ReadFields.{cover_of}
use Rattle.reversal.proofs.Decision.{found_refused}
use Rattle.reversal.proofs.Steps.{Change, decides_free, decides_path}
use Rattle.scanning.specs.declared.Blocked.{Blocked}
use Rattle.scanning.specs.declared.Blocked.TheVariants.{Link as ALink, Stay as AStay}
use Rattle.scanning.specs.Scan.{Finds, Scanned}
use Rattle.scanning.proofs.Dropped.{sets_holds, field_small, Held, rest, dropped_rest, legal_rest, found_blocked, dropped_setter}
use Rattle.removing.specs.declared.Chosen.{Chosen}
use Rattle.removing.specs.Choice.{OfField, chosen_of}
use Rattle.removing.specs.Settled.{Settles}
use Rattle.removing.specs.Scans.{count_after, scan_count}

-- ---- the checks

-- the checks agree with the command's: the number is in use where its link is, once it is one of 128
module _ (p : Panel) (id : ℕ) (old : Link) (same : old ≡ link_at p.links (id % 128)) where
  remove_agree : Agree (check_remove p.size id old.used) (remove_checks p id)
  remove_agree = (refl, refl, λ is_open. (refl, refl, λ low. (ap not (used_is (omega (arith, ltb-false 127 id low))), refl, λ used. tt)))
    where
      used_is : id < 128 → old.used ≡ (link_at p.links id).used
      used_is l = ap (λ (x : Link). x.used) (named_link p.links id old same l)

  module _ (reply : Reply) (checks : reply_bytes reply ≡ check_reply (check_remove p.size id old.used)) where
    pub remove_refused : (x : Refusal) → reply ≡ Err x → refused p x ≡ performed p (removing id)
    remove_refused = reply_refused p (check_remove p.size id old.used) (remove_checks p id) (remove_step p id) remove_agree reply checks

    pub remove_passes : (m : ℕ) → reply ≡ Ok m → (id < 128) × (performed p (removing id) ≡ remove_step p id)
    remove_passes m e =
        let (_, passed, step) = reply_accepted p (check_remove p.size id old.used) (remove_checks p id) (remove_step p id) remove_agree reply checks m e in
        ((removable p id passed).number, step)

-- ---- the count

-- a removal that its checks refuse names no link that sets a field
module _ (p : Panel) (h : Legal p) (id : ℕ) where
  held_number : (v : ℕ) → (link_at p.links id).standing ≡ Holding v → id < 128
  held_number v e = go (dec_lt id 128)
    where
      go : Dec (id < 128) → id < 128
      go (yes l) = l
      go (no l) =
          let z : Waiting ≡ Holding v = ap (λ (x : Link). x.standing) (sym (get_or-eq_default p.links no_link (omega (arith, h.links_length)))) ∙ e in
          let y : ◌≡◌ {A = ℕ} 0 1 = cc in absurd (omega arith)

  held_passes : (v : ℕ) → (link_at p.links id).standing ≡ Holding v → Passes (remove_checks p id)
  held_passes v e =
      let small : id < 128 = held_number v e in
      let field : v < p.size = h.holding_field id v small e in
      let sets : at p.setter v ≡ id = h.holding_sets id v small e in
      let used : (link_at p.links id).used ≡ true = force_used _ (rw sets at (h.setter_in_force v (omega (arith, h.few)) (omega arith))) in
      (ap not (lt-ltb 0 p.size (omega arith)), (le-ltb 127 id (omega arith), (ap not used, tt)))

  pub count_refused : (old : Link) → old ≡ link_at p.links (id % 128) → (reply : Reply) → reply_bytes reply ≡ check_reply (check_remove p.size id old.used)
      → (x : Refusal) → reply ≡ Err x → (n : ℕ) → n ≡ scan_count n p id
  unfolding scan_count
  count_refused old is reply checks x refuses n = go (link_at p.links id).standing refl
    where
      go : (s : Standing) → (link_at p.links id).standing ≡ s → n ≡ count_after n p.size s
      go Waiting e = refl
      go (Holding v) e =
          let named : old ≡ link_at p.links id = named_link p.links id old is (held_number v e) in
          let same : ◌≡◌ {A = Reply} (Err x) (Ok 0) =
          sym refuses ∙ replies_apart reply (Ok 0)
          (checks ∙ ap (λ (l : Link). check_reply (check_remove p.size id l.used)) named ∙ passes_reply (remove_checks p id) (held_passes v e)) in
          let z : ◌≡◌ {A = ℕ} 0 1 = cc in absurd (omega arith)

  -- it names a link of this standing
  pub count_standing : (n : ℕ) (s : Standing) → (link_at p.links id).standing ≡ s → count_after n p.size s ≡ scan_count n p id
  unfolding scan_count
  count_standing n s e = ap (count_after n p.size) (sym e)

-- ---- the change

module _ (p : Panel) (h : Legal p) (id : ℕ) (small : id < 128) where
  pub change : (s : Standing) → (link_at p.links id).standing ≡ s → Change p id p.size p.place no_link s
  change s is = record {
    legal = h;
    size = (freed_parts (with_link p id no_link) s).0;
    field = λ v e. field_small p h id v small (is ∙ e);
    gone = λ v e.
        let now : at p.setter v ≡ id = h.holding_sets id v small (is ∙ e) in
        (omega arith, rw (now, (freed_parts (with_link p id no_link) s).1, link_here p.links id no_link (omega (arith, h.links_length))) (unused_off no_link refl));
    keeps = λ f l e. inr (sym is ∙ sets_holds p h id f small l e);
  }

  -- the link under the number
  pub old_standing : (old : Link) → old ≡ link_at p.links (id % 128) → (link_at p.links id).standing ≡ old.standing
  old_standing old same = ap (λ (x : Link). x.standing) (sym (named_link p.links id old same small))

  pub remove_waiting : (old l : Link) (path : List ℕ) (s : Step) → length path ≡ 64 → old ≡ link_at p.links (id % 128) → l ≡ no_link → old.standing ≡ Waiting
      → performed p (removing id) ≡ remove_step p id → s ≡ step_of Free p.size p.place l old.standing 128 → Decides p (id % 128) (removing id) path s
  unfolding remove_step dropped
  remove_waiting old l path s long same el w pass is =
      let rests : (link_at p.links id).standing ≡ Waiting = old_standing old same ∙ w in
      rw (is, w, el, mod-eq_of_lt small)
      (decides_free p id p.size p.place no_link Waiting (change Waiting rests) (removing id) path long 128
      (pass ∙ ap (λ (t : Standing). drop_step p (freed (with_link p id no_link) t) t) rests))

-- ---- a link that held v

-- what an item in force covers are fields of the panel
cover_inside : (n : ℕ) (links : List Link) → Filled n links → (d : Item) → in_force n links d ≡ true → (u : ℕ) → u < 64
    → member (cover_of links d) u ≡ true → u < n
cover_inside n links h (link i) f u l e = (force_formed n links h i f).inside u l e
cover_inside n links h (stay g) f u l e = rw (eqb-true u g (sym (member_only g u l) ∙ e)) (ltb-true g n f)

-- a removal of a link that holds v passes its checks
pub record Removal (p : Panel) (id v : ℕ) (levels others reads : List ℕ) : Type 0 where
  pub held : Held p id v levels others reads
  pub step : performed p (removing id) ≡ remove_step p id

pub removal : {p : Panel} {v : ℕ} {levels others reads : List ℕ} → Legal p × Tabled p levels others reads × (v < 64) × (at p.setter v < 128)
    → Removal p (at p.setter v) v levels others reads
removal {p} {v} (h, t, l, small) =
    let holds = h.setter_holds v l small in
    record {
      held = record { legal = h; tabled = t; small = small; holds = holds };
      step = checked_step p (remove_checks p (at p.setter v)) (remove_step p (at p.setter v)) (held_passes p h (at p.setter v) v holds);
    }

module _ {p : Panel} {id v : ℕ} {levels others reads : List ℕ} (x : Removal p id v levels others reads) where
  -- the panel without the link
  abbrev pub q : Panel
  q = rest x.held

  legal : Legal q
  legal = legal_rest x.held

  pub of_field : (b : Blocked) → Finds q (Some b) → OfField b
  of_field (ALink i l) e = tt
  of_field (AStay f) (e, _) =
      let w = (blocking q (stay f) (found_blocked x.held (stay f) e)).waits_now in
      omega (arith, legal.few, ltb-true f q.size (waits_force q.size q.links q.setter (stay f) w))

  -- the least blocked item, by its number as a setter, its outputs and covered fields
  abbrev pub Choice : ℕ → ℕ → ℕ → Type 0
  Choice number outputs covered =
      (d : Item) × (least_blocked q ≡ some d) × (number ≡ number_of d) × (outputs ≡ outputs_of q.links d) × (covered ≡ cover_of q.links d)

  pub choice : (w : Chosen) (b : Blocked) → w ≡ chosen_of b → Finds q (Some b) → Choice w.number w.outputs w.covered
  choice w b e finds = subst (λ (w : Chosen). Choice w.number w.outputs w.covered) (sym e) (go b finds)
    where
      go : (b : Blocked) → Finds q (Some b) → Choice (chosen_of b).number (chosen_of b).outputs (chosen_of b).covered
      go (ALink i l) (e, is) = (link i, e, refl, ap (λ (y : Link). y.outputs) is, ap (λ (y : Link). y.covered) is)
      go (AStay f) (e, _) = (stay f, e, refl, refl, refl)

  step : performed p (removing id) ≡ settled p q (least_blocked q)
  unfolding remove_step
  step = x.step ∙ ap (drop_step p (dropped p id)) x.held.holds ∙ ap (λ (r : Panel). settled p r (least_blocked r)) (dropped_rest x.held)

  change_is : Change p id p.size p.place no_link (Holding v)
  change_is = change p x.held.legal id x.held.small (Holding v) x.held.holds

  -- nothing is blocked
  pub settles_free : Finds q None → (number : ℕ) (path : List ℕ) → length path ≡ 64 → Settles p id v path number Free
  settles_free (free, _) number path long =
      decides_free p id p.size p.place no_link (Holding v) change_is (removing id) path long number (step ∙ ap (settled p q) free)

  -- the scan without the link that sets v, and the tables afterwards
  module _ {L O R before table : List ℕ} {o : Option Blocked} {worked : ℕ} (full : length before ≡ 64) (looked : Scanned (dropped p (at p.setter v)) before table o worked)
      (filled : Tabled (dropped p (at p.setter v)) L O R) where
    scan : Scanned q before table o worked
    scan = subst (λ (r : Panel). Scanned r before table o worked) (dropped_setter x.held) looked

    tabled : Tabled q L O R
    tabled = subst (λ (r : Panel). Tabled r L O R) (dropped_setter x.held) filled

    pub scan_counts_lem : worked ≡ p.size
    scan_counts_lem = scan.once

    pub scan_finds : Finds q o
    scan_finds = scan.finds

    strong : Strengths L O p.size (below p.size) table
    strong = all_strengths q legal L O R tabled table (table_full q table before legal scan.strengths full) (table_strengths q table before scan.strengths)

    -- an item is blocked
    module _ (d : Item) (found : least_blocked q ≡ some d) where
      blocked : is_blocked q d ≡ true
      blocked = found_blocked x.held d found

      block : Blocking q d
      block = blocking q d blocked

      but : LegalBut d q
      but = legal_waits q d legal block.waits_now

      force : in_force q.size q.links d ≡ true
      force = waits_force q.size q.links q.setter d block.waits_now

      some_output : 0 < outputs_of q.links d
      some_output = member_some (outputs_of q.links d) block.field block.output

      outputs_in_lem : Within (outputs_of q.links d) (below p.size)
      outputs_in_lem u l e = member_below p.size u l ∙ lt-ltb u p.size (outputs_inside q.size q.links but.carrying.filled d u force l e)

      is_greatest : (s : ℕ) → s ≡ greatest (member (outputs_of q.links d)) (at table) 64
          → s ≡ greatest (member (outputs_of q.links d)) (strength (at L) (at O) p.size) 64
      is_greatest s top =
          top ∙ greatest_same (outputs_of q.links d) (at table) (strength (at L) (at O) p.size)
          (λ u l e. strong.right u l (outputs_in_lem u l e))

    module _ (number outputs covered : ℕ) (choice : Choice number outputs covered) where
      pub undecided : (known s : ℕ) (path : List ℕ) → known ≡ below p.size → s ≡ greatest (member outputs) (at table) 64 → length path ≡ 64
          → Undecided L O table p.size known s outputs covered R path
      undecided known s path ek top long =
          let (d, found, en, eo, ec) = choice in
          rw (ek, eo, ec) (record {
            acyclic = panel_acyclic q legal L O R tabled;
            strengths = strong;
            outputs_known = outputs_in_lem d found;
            some_output = some_output d found;
            outputs_inside = outputs_in_lem d found;
            is_greatest = is_greatest d found s (rw eo at top);
            among = panel_among q legal L O R tabled;
            loopless = panel_loopless q legal L O R tabled;
            covered_inside = λ u l e.
                member_below p.size u l ∙ lt-ltb u p.size (cover_inside q.size q.links (but d found).carrying.filled d (force d found) u l e);
            reads_length = tabled.reads_full;
            path_length = long;
          })

      module _ (path : List ℕ) (s : ℕ) (top : s ≡ greatest (member outputs) (at table) 64) where
        -- by the verdict on what is blocked
        pub settles : (t : Verdict) → Decided L O p.size s outputs covered R path t → Settles p id v path number t
        settles Free never = absurd never
        settles Looped (count, f) =
            let (d, found, en, eo, ec) = choice in (
              step ∙ ap (settled p q) found
                  ∙ found_refused q d (but d found).carrying legal.loopless (force d found) L O R tabled (blocked d found) s count path true
                  (is_greatest d found s (rw eo at top)) (rw (eo, ec) at f) p refl,
              f.fields.full,
            )
        settles (Path count m) (f, em) =
            let (d, found, en, eo, ec) = choice in
            rw en
            (decides_path p id p.size p.place no_link (Holding v) change_is (removing id) path d (but d found).carrying legal.loopless (force d found) L O R
            tabled (blocked d found) s count m (is_greatest d found s (rw eo at top)) (rw (eo, ec) at f) em (step ∙ ap (settled p q) found))

-- ---- the step

-- a link that holds v is dropped: the reply of a loop, and the step, whose parts are the code's
module _ (p : Panel) (h : Legal p) (id v : ℕ) (small : id < 128) (holds : (link_at p.links id).standing ≡ Holding v) (path : List ℕ) (number : ℕ) (t : Verdict)
    (d : Settles p (at p.setter v) v path number t) (s : Step) where
  own : Settles p id v path number t
  own = rw (h.holding_sets id v small holds) at d

  pub remove_looped : (old : Link) → old ≡ link_at p.links (id % 128) → t ≡ Looped → s ≡ unchanged p.size p.place old (Err Loop)
      → Decides p (id % 128) (removing id) path s
  remove_looped old same e is =
      let (loops, long) = subst (Settles p id v path number) e own in
      rw is (decides_unchanged p (id % 128) old (Err Loop) same (removing id) path long (refused p Loop) loops refl refl tt)

  pub remove_reversed : (l : Link) (u : ℕ) → l ≡ no_link → v ≡ u → t ≢ Looped → s ≡ step_of t p.size p.place l (Holding u) number
      → Decides p (id % 128) (removing id) path s
  remove_reversed l u el same ne is = rw (mod-eq_of_lt small, is, el, ← same) (go t own ne)
    where
      go : (t : Verdict) → Settles p id v path number t → t ≢ Looped → Decides p id (removing id) path (step_of t p.size p.place no_link (Holding v) number)
      go Free d ne = d
      go Looped d ne = absurd (ne refl)
      go (Path count m) d ne = d
