-- `changing::change` meets its contract. A refusal of the checks, of the removal or of the add is the command's (`checks_refused`, `removal_refused`,
-- `addition_refused`), and leaves the panel and its tables. The removal is carried out on a copy (`dropped`): by a link that waits, with a path that is
-- reversed, or with none; so is the add (`added`). Then the panel is that of both (`both_accepted`), and the fields whose setters differ are counted
-- (`count_is`).
use Prim.Native.Nat.{ℕ, ◌<◌}
use mathlib.Core.Path.{◌≡◌, refl, sym, ap, ap₂, ◌∙◌, subst}
use mathlib.Core.List.{List}
use mathlib.Core.Bool.{Bool}
use native.Mathlib.Omega.{arith}
use lib.ListN.{replicate}
use Rattle.panel.specs.declared.Standing.{Standing}
use Rattle.panel.specs.declared.Standing.TheVariants.{Waiting, Holding}
use Rattle.panel.specs.declared.Link.{Link}
use Rattle.panel.specs.declared.Panel.{Panel}
use Rattle.panel.specs.declared.Refusal.{Refusal}
use Rattle.panel.specs.declared.Refusal.TheVariants.{Loop}
use Rattle.panel.specs.Answers.{Reply}
use Rattle.std.specs.Prelude.{Ok, Err}
use Rattle.panel.specs.Items.{no_link, link_at}
use Rattle.panel.specs.Answers.{Answer, refused}
use Rattle.panel.specs.Panels.{waiting_link, with_link, with_setter}
use Rattle.panel.specs.Steps.{accepted}
use Rattle.panel.specs.Commands.{Passes, add_checks, change_checks, remove_checks, adding, removing, changing, performed}
use Rattle.panel.specs.Outcomes.{PathOf}
use Rattle.panel.specs.Legal.{Legal}
use Rattle.panel.proofs.Checks.{named_link, changeable, change_removes}
use Rattle.panel.proofs.Performed.{legal_performed, performed_size}
use Rattle.std.proofs.lemmas.Result.{err_from_is_err_and}
use Rattle.tables.specs.Tables.{Tabled}
use Rattle.tables.proofs.Settings.{places}
use Rattle.scanning.proofs.Dropped.{field_small}
use Rattle.reversal.specs.declared.Verdict.{Verdict}
use Rattle.reversal.specs.Reversals.{Resolved, Unresolved, count_by}
use Rattle.adding.specs.Checks.{verdict_reply}
use Rattle.adding.proofs.Adding.{Entering, new_tabled, new_unresolved}
use Rattle.fieldbytes.specs.Bytes.{FieldsOf}
use Rattle.removing.proofs.Removed.{count_standing}
use Rattle.removing.specs.Scans.{count_after, scan_count}
use Rattle.changing.specs.Changed.{change_count, reversed_by}
use Rattle.changing.proofs.Halves.{Done, drop_waits, without_tabled, drop_loops, drop_path, drop_reversed, enters, enter_refused, enter_path, enter_reversed}
use Rattle.changing.proofs.Changing.{checks_refused, count_refused, checks_passed, count_passed, refused_changes, removal_refused, legal_between, adds_between, addition_refused, both_accepted, changed_is, count_is}
use Rattle.changing.proofs.change.Goals as goal
use Rattle.changing.proofs.change.Goals.{In_ok-check_link, Joined-old, in-Holding+in_default-verdict, in_default}

-- ---- the checks

-- what the checks tell, where they pass
record Checked (p : Panel) (id level : ℕ) (bytes : List ℕ) (old : Link) (n : ℕ) : Type 0 where
  legal : Legal p
  passes : Passes (change_checks p id level bytes)
  small : id < 128
  removes : Passes (remove_checks p id)
  stands : (link_at p.links id).standing ≡ old.standing
  counts : scan_count n p id ≡ change_count n p id level bytes

checked : (c : In_ok-check_link) → let s = c.args in Checked s.p.now s.id s.level s.bytes.now s.old s.worked.now
checked c =
    let s = c.args in
    let p = s.p.now in
    let f = c.read_fields-fields.ensures in
    let is = c.then_some-missing.ensures in
    let passes = checks_passed p s.id s.level s.bytes.now _ _ _ f s.old c.requires.2 c.check_link.result _ is c.check_link.ensures _ c.in_ok-check_link.was in
    let small = (changeable p s.id s.level s.bytes.now passes).number in
    record {
      legal = c.requires.0;
      passes = passes;
      small = small;
      removes = change_removes p s.id s.level s.bytes.now passes;
      stands = ap (λ (l : Link). l.standing) (sym (named_link p.links s.id s.old c.requires.2 small));
      counts = count_passed p s.id s.level s.bytes.now _ _ _ f s.old c.requires.2 c.check_link.result _ is c.check_link.ensures _ c.in_ok-check_link.was _;
    }

-- ---- the removal

-- the panel without the link
put : (p : Panel) {k id : ℕ} {l m : Link} → k ≡ id → l ≡ m → with_link p k l ≡ with_link p id m
put p e f = ap₂ (with_link p) e f

module _ {p : Panel} {id level : ℕ} {bytes : List ℕ} {old : Link} {n : ℕ} (t : Checked p id level bytes old n) where
  holds : {h v : ℕ} → old.standing ≡ Holding h → v ≡ h → (link_at p.links id).standing ≡ Holding v
  holds e is = t.stands ∙ e ∙ ap Holding (sym is)

  counted : (x : Standing) → old.standing ≡ x → count_after n p.size x ≡ change_count n p id level bytes
  counted x e = count_standing p t.legal id n x (t.stands ∙ e) ∙ t.counts

  -- the panel without the link and its setting
  without : {k : ℕ} {l : Link} (v : ℕ) → k ≡ id → l ≡ no_link → with_setter (with_link p k l) v 128 ≡ with_setter (with_link p id no_link) v 128
  without v e f = ap (λ (q : Panel). with_setter q v 128) (put p e f)

  -- ---- the add, on the panel q that the removal leaves

  module _ {levels others reads path : List ℕ} {q : Panel} (d : Done p (removing id) levels others reads path q)
      {co ou : ℕ} {ri : Bool} (f : FieldsOf bytes co ou ri) where
    legal_q : Legal q
    legal_q = legal_between p t.legal id level bytes t.passes d.accepts _ d.leaves

    adds_q : Passes (add_checks q id level bytes)
    adds_q = adds_between p t.legal id level bytes t.passes d.accepts _ d.leaves

    size_q : q.size ≡ p.size
    size_q = ap (λ (q : Panel). q.size) (sym d.leaves) ∙ performed_size p (removing id) (changeable p id level bytes t.passes).is_open

    entered : Entering q id level co ou (adding id level bytes)
    entered = enters q legal_q id level bytes co ou ri f adds_q

    resolvable : Unresolved others p.size ou co reads path
    resolvable =
        subst (λ n. Unresolved others n ou co reads path) size_q
        (new_unresolved entered d.tabled path d.full)

    -- the panel of both
    whole : {levels' others' reads' path' : List ℕ} {r : Panel} → Done q (adding id level bytes) levels' others' reads' path' r
        → accepted p r ≡ performed p (changing id level bytes)
    whole a = both_accepted p t.legal id level bytes t.passes d.accepts _ d.leaves a.accepts _ a.leaves

    legal_whole : {levels' others' reads' path' : List ℕ} {r : Panel} → Done q (adding id level bytes) levels' others' reads' path' r → Legal r
    legal_whole a = subst (λ (a : Answer). Legal a.panel) (sym (whole a)) (legal_performed p (changing id level bytes) t.legal)

    -- the panel with the link
    new_tables : {k : ℕ} {l : Link} → k ≡ id → l ≡ waiting_link level co ou → Tabled (with_link q k l) levels others reads
    new_tables e is = subst (λ (q : Panel). Tabled q levels others reads) (sym (put q e is)) (new_tabled entered d.tabled)

    -- by the verdict on the link
    module _ (way : List ℕ) (v : Verdict) (is : Resolved levels others p.size level ou co reads way v) (reply : Reply) (told : reply ≡ verdict_reply v level) where
      resolved : Resolved levels others q.size level ou co reads way v
      resolved = subst (λ n. Resolved levels others n level ou co reads way v) (sym size_q) is

      add_refused : (x : Refusal) → reply ≡ Err x → refused p x ≡ performed p (changing id level bytes)
      add_refused x e =
          addition_refused p t.legal id level bytes t.passes d.accepts _ d.leaves x
          (enter_refused q legal_q id level bytes co ou ri f adds_q d.tabled way v resolved reply told x e)

      add_path : (m : ℕ) → reply ≡ Ok m → PathOf way (count_by v)
      add_path m e = enter_path q legal_q id level bytes co ou ri f adds_q d.tabled way v resolved reply told m e

      add_reversed : (m : ℕ) → reply ≡ Ok m → {k : ℕ} {l : Link} → k ≡ id → l ≡ waiting_link level co ou → {levels' others' reads' : List ℕ} {r : Panel}
          → r ≡ reversed_by (with_link q k l) v id way → Tabled r levels' others' reads' → Done q (adding id level bytes) levels' others' reads' way r
      add_reversed m e ek el turned tab =
          enter_reversed q legal_q id level bytes co ou ri f adds_q d.tabled way v resolved reply told m e (put q ek el) _ turned tab

-- ---- the removal is carried out

dropped : (c : Joined-old) → let s = c.args in let m = c.match-old in Checked s.p.now s.id s.level s.bytes.now s.old s.worked.now
    → Done s.p.now (removing s.id) m.fresh.levels m.fresh.others m.fresh.reads m.path m.q
dropped c t =
    let p = c.args.p.now in
    elim c.match-old.branch [
      | in-Holding+in_default-verdict w ↦
          let held = holds t w.in-Holding.is w.from-v.ensures in
          rw (w.fresh-is, w.path-is, w.q-is)
          (drop_reversed p t.legal c.args.id t.small t.removes _ held _ w.settle-settled.result.number w.settle-settled.result.verdict w.settle-settled.ensures.settles
          w.in_default-verdict.not-Looped (without t _ c.from-k.ensures c.no_link.ensures) _ w.turn.ensures.reversed w.turn.ensures.tabled)
      | in_default w ↦
          rw (w.fresh-is, w.path-is, w.q-is)
          (drop_waits p t.legal c.args.id t.small t.removes (t.stands ∙ w.in_default.is) c.requires.1 (replicate 64 0) refl _
          (put p c.from-k.ensures c.no_link.ensures))
    ]

worked-is : (c : Joined-old) → let s = c.args in Checked s.p.now s.id s.level s.bytes.now s.old s.worked.now
    → c.match-old.worked ≡ change_count s.worked.now s.p.now s.id s.level s.bytes.now
worked-is c t =
    elim c.match-old.branch [
      | in-Holding+in_default-verdict w ↦ w.worked-is ∙ w.settle-settled.ensures.worked_after ∙ counted t (Holding _) w.in-Holding.is
      | in_default w ↦ w.worked-is ∙ counted t Waiting w.in_default.is
    ]

-- ---- the goals of the checks and of the removal

pub returns-in_err-check_link : goal.returns-in_err-check_link
returns-in_err-check_link c =
    let b = c.args in
    let f = c.read_fields-fields.ensures in
    let is = c.then_some-missing.ensures in
    let e = c.in_err-check_link.was in
    let (x, same, kept) = err_from_is_err_and c.from_residual.result c.from_residual.ensures.1 in
    rw (same, kept)
    (refused_changes b.p.now b.id b.level b.bytes.now b.tables.now _ _ _
    (checks_refused b.p.now b.id b.level b.bytes.now _ _ _ f b.old c.requires.2 _ _ is c.check_link.ensures _ e) c.requires.1
    (count_refused b.p.now b.id b.level b.bytes.now _ _ _ f b.old c.requires.2 _ _ is c.check_link.ensures _ e _))

pub bounds-q-k : goal.bounds-q-k
bounds-q-k c = omega (arith, c.from-k.ensures, (checked (goal.at.bounds-q-k c).In_ok-check_link).small)

pub settle-settled-requires : goal.settle-settled-requires
settle-settled-requires c =
    let h = c.requires.0 in
    let t = checked (goal.at.settle-settled-requires c).In_ok-check_link in
    let held = holds t c.in-Holding.is c.from-v.ensures in
    (h, c.requires.1, field_small c.args.p.now h c.args.id _ t.small held, omega (arith, h.holding_sets _ _ t.small held, t.small))

pub returns-in-Looped : goal.returns-in-Looped
returns-in-Looped c =
    let b = c.args in
    let e = c.settle-settled.ensures in
    let t = checked (goal.at.returns-in-Looped c).In_ok-check_link in
    let held = holds t c.in-Holding.is c.from-v.ensures in
    let loops = drop_loops b.p.now t.legal b.id t.small t.removes _ held _ _ c.settle-settled.result.verdict e.settles c.in-Looped.is in
    refused_changes b.p.now b.id b.level b.bytes.now b.tables.now _ _ Loop (removal_refused b.p.now t.legal b.id b.level b.bytes.now t.passes Loop loops)
    c.requires.1 (e.worked_after ∙ counted t (Holding _) c.in-Holding.is)

pub bounds-q-v : goal.bounds-q-v
bounds-q-v c =
    let t = checked (goal.at.bounds-q-v c).In_ok-check_link in
    field_small c.args.p.now t.legal c.args.id _ t.small (holds t c.in-Holding.is c.from-v.ensures)

pub turn-requires : goal.turn-requires
turn-requires c =
    let e = c.settle-settled.ensures in
    let t = checked (goal.at.turn-requires c).In_ok-check_link in
    let p = c.args.p.now in
    let held = holds t c.in-Holding.is c.from-v.ensures in (
      drop_path p t.legal c.args.id t.small t.removes _ held _ _ c.settle-settled.result.verdict e.settles c.in_default-verdict.not-Looped,
      places p t.legal,
      without_tabled p t.legal c.args.id t.small t.removes _ held e.tabled (without t _ c.from-k.ensures c.no_link.ensures),
    )

-- ---- the goals of the add

pub resolve-verdict-requires : goal.resolve-verdict-requires
resolve-verdict-requires c =
    let t = checked (goal.at.resolve-verdict-requires c).In_ok-check_link in
    resolvable t (dropped (goal.at.resolve-verdict-requires c).Joined-old t) c.read_fields-fields.ensures

pub returns-in_err-check_verdict : goal.returns-in_err-check_verdict
returns-in_err-check_verdict c =
    let b = c.args in
    let j = (goal.at.returns-in_err-check_verdict c).Joined-old in
    let t = checked (goal.at.returns-in_err-check_verdict c).In_ok-check_link in
    let (x, same, kept) = err_from_is_err_and c.from_residual-in_err-check_verdict.result c.from_residual-in_err-check_verdict.ensures.1 in
    rw (same, kept)
    (refused_changes b.p.now b.id b.level b.bytes.now b.tables.now _ _ _
    (add_refused t (dropped j t) c.read_fields-fields.ensures _ _ c.resolve-verdict.ensures.resolved _ c.check_verdict.ensures _ c.in_err-check_verdict.was)
    c.requires.1 (worked-is j t))

pub bounds-q-k-2 : goal.bounds-q-k-2
bounds-q-k-2 c = omega (arith, c.from-k.ensures, (checked (goal.at.bounds-q-k-2 c).In_ok-check_link).small)

pub turn-requires-2 : goal.turn-requires-2
turn-requires-2 c =
    let t = checked (goal.at.turn-requires-2 c).In_ok-check_link in
    let d = dropped (goal.at.turn-requires-2 c).Joined-old t in
    let f = c.read_fields-fields.ensures in (
      add_path t d f _ _ c.resolve-verdict.ensures.resolved _ c.check_verdict.ensures _ c.in_ok-check_verdict.was,
      places c.match-old.q (legal_q t d f),
      new_tables t d f c.from-k.ensures c.waiting_link.ensures,
    )

pub returns : goal.returns
returns c =
    let b = c.args in
    let t = checked (goal.at.returns c).In_ok-check_link in
    let d = dropped (goal.at.returns c).Joined-old t in
    let f = c.read_fields-fields.ensures in
    let a =
    add_reversed t d f _ _ c.resolve-verdict.ensures.resolved _ c.check_verdict.ensures _ c.in_ok-check_verdict.was c.from-k.ensures c.waiting_link.ensures
    c.turn-2.ensures.reversed c.turn-2.ensures.tabled in
    let w = whole t d f a in
    let left = ap (λ (a : Answer). a.panel) (sym w) in
    let is = c.changed_fields-changed.ensures in
    record {
      panel = ap (λ (a : Answer). a.panel) w;
      changed = changed_is b.p.now t.legal b.id b.level b.bytes.now t.passes _ left _ is;
      reply = count_is b.p.now t.legal b.id b.level b.bytes.now t.passes _ left _ is ∙ ap (λ (a : Answer). a.reply) w;
      uncounted = refl;
      tabled = a.tabled;
      scan = worked-is (goal.at.returns c).Joined-old t;
    }
