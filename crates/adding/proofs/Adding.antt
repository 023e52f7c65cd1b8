-- Laws of an add. The checks of a link, over what was read of the field bytes, agree with document 01's (`link_agree`). In the panel with the new link
-- waiting (`Entering`) the link is blocked or not, and the command reverses its path, is refused with Conflict or is accepted (`enter_step`); which of
-- these, the verdict says, by the laws of a reversal (`resolved_loop`, `resolved_free`, `resolved_step`): `entry_refused` and `entry_done`.
use mathlib.Core.Path.{◌≡◌, refl, sym, ap, ◌∙◌, subst}
use mathlib.Core.Bool.{Bool, true, false, not, ◌||◌, cond, true≢false, not-not}
use mathlib.Core.Logic.{◌≢◌}
use mathlib.Core.List.{List}
use Prim.Native.Nat.{ℕ, ◌%◌, ◌<◌}
use native.Mathlib.Nat.{mod-eq_of_lt}
use native.Mathlib.Omega.{arith}
use borrow.Author.Tests.{lt-ltb, ltb-false, eqb-true, eq-eqb, ne_eqb}
use lib.Dec.{eqb, ltb, leb}
use lib.ListN.{length, set}
use Rattle.fieldset.specs.Tables.{at}
use Rattle.fieldset.specs.Fields.{below, within}
use Rattle.fieldset.proofs.Numbers.{clash}
use Rattle.fieldset.proofs.Fields.{member_below}
use Rattle.strength.specs.Filling.{Within}
use Rattle.panel.specs.declared.Standing.TheVariants.{Waiting}
use Rattle.panel.specs.declared.Link.{Link}
use Rattle.panel.specs.declared.Panel.{Panel}
use Rattle.panel.specs.declared.Refusal.{Refusal}
use Rattle.panel.specs.declared.Refusal.TheVariants.{LinkTaken, Conflict, Loop}
use Rattle.panel.specs.Answers.{Reply}
use Rattle.std.specs.Prelude.{Option, Ok, Err}
use Rattle.std.specs.Bool.{then_some}
use Rattle.panel.specs.declared.Step.{Step}
use Rattle.panel.specs.Items.{link, link_at, outputs_of, is_in_force, in_force, is_waiting, waits}
use Rattle.panel.specs.Answers.{Answer, refused, reply_bytes}
use Rattle.panel.specs.Panels.{waiting_link, with_link}
use Rattle.panel.specs.Solution.{level, is_blocked}
use Rattle.panel.specs.Steps.{reverse_step, enter_step, add_step}
use Rattle.panel.specs.Commands.{Check, check, check_reply, Passes, link_checks, add_checks, Command, performed, adding, are_field_bytes, is_rising, any_of, is_output, field_of, covered_in, outputs_in}
use Rattle.panel.specs.Legal.{Legal, Formed}
use Rattle.panel.specs.Outcomes.{Decides}
use Rattle.panel.proofs.Reversed.{link_here}
use Rattle.panel.proofs.Legal.{LegalBut, holding_not_waiting}
use Rattle.panel.proofs.InForce.{unused_off, waiting_force}
use Rattle.panel.proofs.Changes.{legal_add}
use Rattle.panel.proofs.Checks.{Agree, checked_step, reply_refused, reply_accepted, named_link, addable}
use Rattle.tables.specs.Tables.{Tabled}
use Rattle.tables.proofs.Settings.{tabled_link}
use Rattle.fieldbytes.specs.Bytes.{FieldsOf}
use Rattle.fieldbytes.proofs.FieldBytes.{add_check, covered_within}
use Rattle.reversal.specs.declared.Verdict.{Verdict}
use Rattle.reversal.specs.declared.Verdict.TheVariants.{Free, Looped, Path}
use Rattle.reversal.specs.Reversals.{Unresolved, Resolved, step_of}
use Rattle.reversal.proofs.Decision.{unresolved}
use Rattle.reversal.proofs.Steps.{Change, resolved_free, resolved_loop, resolved_step}
use Rattle.adding.specs.Checks.{is_bad_link, number_check, check_link, verdict_reply}

-- a command that enters a well-formed link under a number of which no link is in force, and that passes its checks
pub record Entering (p : Panel) (id level covered outputs : ℕ) (cmd : Command) : Type 0 where
  pub legal : Legal p
  pub number : id < 128
  pub free : is_in_force (link_at p.links id) ≡ false
  pub formed : Formed p.size (waiting_link level covered outputs)
  pub step : performed p cmd ≡ add_step p id level covered outputs

-- ---- replies

replies_differ : {x : Refusal} {m : ℕ} → ◌≡◌ {A = Reply} (Err x) (Ok m) → ⊥
replies_differ e = let z : ◌≡◌ {A = ℕ} 0 1 = cc in omega arith

same_refusal : {x y : Refusal} → ◌≡◌ {A = Reply} (Err x) (Err y) → x ≡ y
same_refusal e = cc

-- ---- the checks

-- the check of a number, told by the refusal where it applies
pub number_told : (n id level₁ c o : ℕ) (r a : Bool) (x : Refusal) (number : Option Refusal) → number ≡ then_some a x
    → check_reply (check_link n id level₁ c o r (number_check number)) ≡ check_reply (check_link n id level₁ c o r (check a x))
unfolding check_reply
number_told n id level₁ c o r true x number e = rw e refl
number_told n id level₁ c o r false x number e = rw e refl

-- a number below 128
number_small : (id level₁ c o : ℕ) (r : Bool) → is_bad_link id level₁ c o r ≡ false → id < 128
number_small id level₁ c o r e = go (ltb 127 id) refl
  where
    go : (b : Bool) → ltb 127 id ≡ b → id < 128
    go true t = absurd (true≢false (sym (rw t refl) ∙ e))
    go false t = omega (arith, ltb-false 127 id t)

module _ (p : Panel) (id level₁ : ℕ) (bytes : List ℕ) (c o : ℕ) (r : Bool) (f : FieldsOf bytes c o r) where
  -- the last check is about the number, once it is one of 128
  pub link_agree : (a b : Bool) (x : Refusal) → (id < 128 → a ≡ b) → Agree (check_link p.size id level₁ c o r (check a x)) (link_checks p id level₁ bytes (check b x))
  link_agree a b x same = (refl, refl, λ is_open. (bad_is, refl, λ fine. (outside_is, refl, λ inside. (same (small fine), refl, λ free. tt))))
    where
      bad_is : is_bad_link id level₁ c o r
          ≡ (ltb 127 id || ltb 15 level₁ || not (are_field_bytes bytes) || not (is_rising bytes) || not (any_of is_output bytes))
      bad_is = sym (add_check id level₁ bytes ∙ rw (f.covered, f.outputs, f.rising) refl)

      outside_is : not (within c (below p.size)) ≡ any_of (λ b. leb p.size (field_of b)) bytes
      outside_is = ap not (ap (λ (m : ℕ). within m (below p.size)) f.covered ∙ covered_within p.size bytes) ∙ not-not _

      small : (ltb 127 id || ltb 15 level₁ || not (are_field_bytes bytes) || not (is_rising bytes) || not (any_of is_output bytes)) ≡ false → id < 128
      small fine = number_small id level₁ c o r (bad_is ∙ fine)

  -- an add that passes its checks enters a link
  pub passed_entering : Legal p → Passes (add_checks p id level₁ bytes) → Entering p id level₁ c o (adding id level₁ bytes)
  passed_entering h passed =
      let a = addable p id level₁ bytes passed in
      record {
        legal = h;
        number = a.link.number;
        free = unused_off _ a.free;
        formed = rw (f.covered, f.outputs) a.link.formed;
        step =
            rw (f.covered, f.outputs)
            (checked_step p (add_checks p id level₁ bytes) (add_step p id level₁ (covered_in bytes) (outputs_in bytes)) passed);
      }

  module _ (old : Link) (same : old ≡ link_at p.links (id % 128)) (reply : Reply)
      (number : Option Refusal) (is : number ≡ then_some old.used LinkTaken)
      (told : reply_bytes reply ≡ check_reply (check_link p.size id level₁ c o r (number_check number))) where
    abbrev own : List Check
    own = check_link p.size id level₁ c o r (check old.used LinkTaken)

    checks : reply_bytes reply ≡ check_reply own
    checks = told ∙ number_told p.size id level₁ c o r old.used LinkTaken number is

    agree : Agree own (add_checks p id level₁ bytes)
    agree = link_agree old.used (link_at p.links id).used LinkTaken (λ l. ap (λ (x : Link). x.used) (named_link p.links id old same l))

    abbrev step : Answer
    step = add_step p id level₁ (covered_in bytes) (outputs_in bytes)

    pub add_refused : (x : Refusal) → reply ≡ Err x → refused p x ≡ performed p (adding id level₁ bytes)
    add_refused = reply_refused p own (add_checks p id level₁ bytes) step agree reply checks

    pub add_passes : Legal p → (m : ℕ) → reply ≡ Ok m → (id % 128 ≡ id) × Entering p (id % 128) level₁ c o (adding id level₁ bytes)
    add_passes h m e =
        let x = passed_entering h (reply_accepted p own (add_checks p id level₁ bytes) step agree reply checks m e).1 in
        let n : id % 128 ≡ id = mod-eq_of_lt x.number in (n, rw n x)

-- ---- the panel with the new link waiting

module _ {p : Panel} {id level₁ covered outputs : ℕ} {cmd : Command} (x : Entering p id level₁ covered outputs cmd) where
  abbrev new : Link
  new = waiting_link level₁ covered outputs

  new_legal : LegalBut (link id) (with_link p id new)
  new_legal = legal_add p id new x.legal (record { number = x.number; free = x.free; formed = x.formed; used = refl; rests = refl })

  -- the link of the number
  new_at : link_at (set p.links id new) id ≡ new
  new_at = link_here p.links id new (omega (arith, x.number, x.legal.links_length))

  new_force : in_force p.size (set p.links id new) (link id) ≡ true
  new_force = ap is_in_force new_at ∙ waiting_force _ refl refl

  new_waits : waits p.size (set p.links id new) p.setter (link id) ≡ true
  new_waits = rw new_force (ap (λ (l : Link). is_waiting l.standing) new_at)

  new_level : level (with_link p id new) (link id) ≡ level₁
  new_level = ap (λ (l : Link). l.level) new_at

  new_outputs : outputs_of (set p.links id new) (link id) ≡ outputs
  new_outputs = ap (λ (l : Link). l.outputs) new_at

  new_covered : (link_at (set p.links id new) id).covered ≡ covered
  new_covered = ap (λ (l : Link). l.covered) new_at

  covered_inside : Within covered (below p.size)
  covered_inside u l e = member_below p.size u l ∙ lt-ltb u p.size (x.formed.inside u l e)

  -- no field is set by the number
  unset : (f : ℕ) → f < 64 → at p.setter f < 128 → at p.setter f ≢ id
  unset f l k e = clash (x.legal.setter_in_force f l k) (ap (λ (i : ℕ). is_in_force (link_at p.links i)) e ∙ x.free)

  -- the change: a link is entered where none sets a field
  new_change : Change p id p.size p.place new Waiting
  new_change = record {
    legal = x.legal;
    size = refl;
    field = λ v e. absurd (holding_not_waiting e refl);
    gone = λ v e. absurd (holding_not_waiting e refl);
    keeps = λ f l e. absurd (unset f l (omega (arith, x.number)) e);
  }

  -- the tables: a link that sets nothing is in none
  pub new_tabled : {levels others reads : List ℕ} → Tabled p levels others reads → Tabled (with_link p id new) levels others reads
  new_tabled = tabled_link p id new unset

  reverses : is_blocked (with_link p id new) (link id) ≡ true → performed p cmd ≡ reverse_step p (with_link p id new) (link id)
  unfolding enter_step
  reverses e = x.step ∙ rw (e, enter_step) refl

  module _ {levels others reads : List ℕ} (tab : Tabled p levels others reads) where
    pub new_unresolved : (path : List ℕ) → length path ≡ 64 → Unresolved others p.size outputs covered reads path
    new_unresolved path full =
        rw (new_outputs, new_covered) at (
        unresolved (with_link p id new) (link id) new_legal.carrying new_legal.loopless new_force levels others reads (new_tabled tab)
        path (rw new_outputs x.formed.some_output) full (rw new_covered covered_inside)
        )

    -- ---- the verdict

    module _ (path : List ℕ) where
      abbrev Resolves : Verdict → Type 0
      Resolves = Resolved levels others p.size level₁ outputs covered reads path

      loops : Resolves Looped → refused p Loop ≡ performed p cmd
      loops e =
          sym (resolved_loop p id p.size p.place _ Waiting new_change cmd path (link id)
          new_legal.carrying new_legal.loopless new_force levels others reads
          (new_tabled tab) new_waits level₁ outputs covered new_level new_outputs new_covered e reverses)

      conflicts : level₁ ≡ 0 → Resolves Free → refused p Conflict ≡ performed p cmd
      unfolding enter_step
      conflicts z e =
          let free = resolved_free p id p.size p.place _ Waiting new_change cmd path (link id)
          new_legal.carrying new_legal.loopless new_force levels others reads
          (new_tabled tab) new_waits level₁ outputs covered new_level new_outputs new_covered e in
          sym (x.step ∙ rw (free, eq-eqb level₁ 0 z, enter_step) refl)

      pub entry_refused : (t : Verdict) → Resolves t → (x : Refusal) → verdict_reply t level₁ ≡ Err x → (refused p x ≡ performed p cmd) × (length path ≡ 64)
      entry_refused Free e x is = (free (eqb level₁ 0) refl is, e.1)
        where
          free : (b : Bool) → eqb level₁ 0 ≡ b → cond {A = Reply} b (Err Conflict) (Ok 0) ≡ Err x → refused p x ≡ performed p cmd
          free true z is = rw (← same_refusal is) (conflicts (eqb-true level₁ 0 z) e)
          free false z is = absurd (replies_differ (sym is))
      entry_refused Looped e x is = (rw (← same_refusal is) (loops e), e.1.1.fields.full)
      entry_refused (Path count m) e x is = absurd (replies_differ (sym is))

      -- the step, whose parts are the code's
      pub entry_done : (t : Verdict) → Resolves t → (m : ℕ) → verdict_reply t level₁ ≡ Ok m → (l : Link) (k : ℕ) (s : Step) → l ≡ new → id ≡ k
          → s ≡ step_of t p.size p.place l Waiting k → Decides p id cmd path s
      unfolding enter_step
      entry_done t e m is l k s el ek es =
          rw (es, el, ← ek)
          (resolved_step p id p.size p.place _ Waiting new_change cmd path (link id)
          new_legal.carrying new_legal.loopless new_force levels others reads
          (new_tabled tab) new_waits level₁ outputs covered new_level new_outputs new_covered t no_loop e
          (λ f b. x.step ∙ rw (b, ne_eqb level₁ 0 (weak f), enter_step) refl) reverses)
        where
          no_loop : t ≢ Looped
          no_loop d = replies_differ (subst (λ (t : Verdict). verdict_reply t level₁ ≡ Ok m) d is)

          weak : t ≡ Free → level₁ ≢ 0
          weak d z = replies_differ (rw (eq-eqb level₁ 0 z) at (subst (λ (t : Verdict). verdict_reply t level₁ ≡ Ok m) d is))
