-- Laws of a touch. Its checks are those of the command. In the panel with the touched stay in front (`Front`) the stay is blocked or not, and the
-- command reverses its path or is accepted (`stepped`); which of the two the verdict says, by the laws of a reversal (`resolved_loop`,
-- `resolved_step`). A stay that sets its field is never blocked (`front_idle`). `touch_looped` and `touch_done` close the two ends of the code.
use mathlib.Core.Path.{◌≡◌, refl, sym, ap, ◌∙◌, subst}
use mathlib.Core.Bool.{true, false, and-false}
use mathlib.Core.Logic.{◌≢◌, ◌⊎◌, inl, inr}
use mathlib.Core.List.{List}
use Prim.Native.Nat.{ℕ, ◌≤◌, ◌<◌}
use native.Mathlib.Omega.{arith}
use borrow.Author.Tests.{lt-ltb, le-ltb, eq-eqb, eqb-true}
use lib.Dec.{ltb}
use lib.ListN.{length, set}
use lib.Seq.{set-get_or}
use Rattle.fieldset.specs.Tables.{at, tabulate}
use Rattle.fieldset.proofs.Numbers.{clash}
use Rattle.fieldset.specs.Fields.{only, below}
use Rattle.fieldset.proofs.Tables.{length_tabulate, get_d_tabulate}
use Rattle.fieldset.proofs.Fields.{member_some, member_only, member_below}
use Rattle.strength.specs.Filling.{Within}
use Rattle.panel.specs.declared.Standing.TheVariants.{Waiting}
use Rattle.panel.specs.declared.Link.{Link}
use Rattle.panel.specs.declared.Panel.{Panel}
use Rattle.panel.specs.declared.Refusal.TheVariants.{Loop}
use Rattle.panel.specs.Answers.{Reply}
use Rattle.std.specs.Prelude.{Ok, Err}
use Rattle.std.specs.Result.{is_err}
use Rattle.panel.specs.declared.Step.{Step}
use Rattle.panel.specs.Items.{stay, no_link, link_at, in_force, waits}
use Rattle.panel.specs.Answers.{Answer, refused, reply_bytes}
use Rattle.panel.specs.Panels.{place_after, to_front}
use Rattle.panel.specs.Solution.{level, is_blocked, is_looped}
use Rattle.panel.specs.Steps.{accepted, reverse_step, touch_step}
use Rattle.panel.specs.Commands.{check_reply, touch_checks, Command, performed, touching, check_touch}
use Rattle.panel.specs.Legal.{Legal}
use Rattle.panel.specs.Outcomes.{unchanged, Decides}
use Rattle.panel.proofs.Legal.{Carrying, LegalBut, holding_not_waiting}
use Rattle.panel.proofs.Changes.{legal_front}
use Rattle.panel.proofs.Checks.{agree_same, reply_refused, reply_accepted, touchable}
use Rattle.panel.proofs.Outcomes.{decides_refused}
use Rattle.panel.proofs.Reversal.{legal_waits}
use Rattle.tables.specs.Tables.{Tabled, level_with}
use Rattle.tables.proofs.Settings.{placed_setting}
use Rattle.reversal.specs.declared.Verdict.{Verdict}
use Rattle.reversal.specs.declared.Verdict.TheVariants.{Free, Looped}
use Rattle.reversal.specs.Reversals.{Unresolved, Resolved, step_of}
use Rattle.reversal.proofs.Decision.{unresolved}
use Rattle.reversal.proofs.Steps.{after, Change, decides_free, resolved_loop, resolved_step}

-- ---- the checks

module _ (p : Panel) (f : ℕ) (reply : Reply) (checks : reply_bytes reply ≡ check_reply (check_touch p.size f)) where
  pub touch_refused : is_err reply ≡ true → (k : ℕ) (named : Link) → named ≡ link_at p.links k → (path : List ℕ) → length path ≡ 64 → (s : Step)
      → s ≡ unchanged p.size p.place named reply → Decides p k (touching f) path s
  touch_refused refuses k named same path long s is = go reply refl
    where
      go : (r : Reply) → reply ≡ r → Decides p k (touching f) path s
      go (Ok m) e = absurd (clash refuses (ap is_err e))
      go (Err x) e =
          decides_refused p k named reply (touching f) path long x s same e
          (reply_refused p (check_touch p.size f) (touch_checks p f) (touch_step p f) (agree_same (touch_checks p f)) reply checks x e) is

  pub touch_passes : is_err reply ≡ false → (f < p.size) × (performed p (touching f) ≡ touch_step p f)
  touch_passes accepts = go reply refl
    where
      go : (r : Reply) → reply ≡ r → (f < p.size) × (performed p (touching f) ≡ touch_step p f)
      go (Err x) e = absurd (clash (ap is_err e) accepts)
      go (Ok m) e =
          let (_, none, step) = reply_accepted p (check_touch p.size f) (touch_checks p f) (touch_step p f) (agree_same (touch_checks p f)) reply checks m e in
          (touchable p f none, step)

-- ---- the panel with the stay in front

abbrev touched : Panel → Panel → ℕ → Answer
touched p q f = elim (is_blocked q (stay f)) [ true ↦ reverse_step p q (stay f) | false ↦ accepted p q ]

-- the set of the touched field
pub only_inside : (n f : ℕ) → f < n → Within (only f) (below n)
only_inside n f l u k e = member_below n u k ∙ lt-ltb u n (rw (eqb-true u f (sym (member_only f u k) ∙ e)) l)

pub only_some : (f : ℕ) → f < 64 → 0 < only f
only_some f l = member_some (only f) f (member_only f f l ∙ eq-eqb f f refl)

-- the link that is there
kept : (p : Panel) (k : ℕ) (named : Link) → named ≡ link_at p.links k → set p.links k named ≡ p.links
kept p k named same = rw same (set-get_or p.links k no_link)

unmoved : (p : Panel) → Legal p → (k : ℕ) (named : Link) → named ≡ link_at p.links k → (place : List ℕ) → Change p k p.size place named Waiting
unmoved p h k named same place = record {
  legal = h;
  size = refl;
  field = λ v e. absurd (holding_not_waiting e refl);
  gone = λ v e. absurd (holding_not_waiting e refl);
  keeps = λ g l e. inl same;
}

-- a command that touches f and passes its checks, and the places with f's stay in front
pub record Front (p : Panel) (f : ℕ) (cmd : Command) (place : List ℕ) : Type 0 where
  pub legal : Legal p
  pub field : f < p.size
  pub step : performed p cmd ≡ touch_step p f
  pub places : place ≡ tabulate (place_after p.place f) 64

module _ {p : Panel} {f : ℕ} {cmd : Command} {place : List ℕ} (x : Front p f cmd place) where
  abbrev pub fronted : Panel
  fronted = record { size = p.size; links = p.links; place = place; setter = p.setter }

  is_front : fronted ≡ to_front p f
  unfolding to_front
  is_front = rw x.places

  pub front_small : f < 64
  front_small = omega (arith, x.legal.few, x.field)

  pub front_legal : Legal fronted
  front_legal = subst Legal (sym is_front) (legal_front p f x.legal x.field)

  -- the step, by whether the stay is blocked
  stepped : performed p cmd ≡ touched p fronted f
  unfolding touch_step
  stepped = x.step ∙ ap (λ (q : Panel). touched p q f) (sym is_front)

  touch_free : is_blocked fronted (stay f) ≡ false → performed p cmd ≡ accepted p fronted
  touch_free e = stepped ∙ rw (e, touched) refl

  touch_reverses : is_blocked fronted (stay f) ≡ true → performed p cmd ≡ reverse_step p fronted (stay f)
  touch_reverses e = stepped ∙ rw (e, touched) refl

  -- a stay that sets its field is not blocked
  front_idle : 128 ≤ at p.setter f → is_blocked fronted (stay f) ≡ false
  unfolding is_blocked
  front_idle high = rw (le-ltb (at p.setter f) 128 high, and-false (ltb f p.size)) refl

  -- one that waits, with the tables of the new levels of the stays
  module _ (low : at p.setter f < 128) {levels others reads fresh : List ℕ} (tab : Tabled p levels others reads)
      (levels_are : fresh ≡ tabulate (λ g. level_with (at p.setter g) (at place g) (at levels g)) 64) where
    front_waits : waits p.size p.links p.setter (stay f) ≡ true
    front_waits = rw (lt-ltb f p.size x.field, lt-ltb (at p.setter f) 128 low) refl

    front_but : LegalBut (stay f) fronted
    front_but = legal_waits fronted (stay f) front_legal front_waits

    front_tabled : Tabled fronted fresh others reads
    front_tabled = record {
      levels_full = ap length levels_are ∙ length_tabulate _ 64;
      others_full = tab.others_full;
      reads_full = tab.reads_full;
      setting = λ g l. placed_setting p fronted g refl (λ b. refl) (ap (λ (x : List ℕ). at x g) levels_are ∙ get_d_tabulate _ 64 g 0 l) (tab.setting g l);
    }

    front_force : in_force p.size p.links (stay f) ≡ true
    front_force = lt-ltb f p.size x.field

    -- its stay is the strongest
    front_level : level fronted (stay f) ≡ 16
    front_level =
        let first : at place f ≡ 0 =
        ap (λ (l : List ℕ). at l f) x.places ∙ get_d_tabulate (place_after p.place f) 64 f 0 front_small ∙ rw (eq-eqb f f refl) refl in
        omega arith

    pub front_unresolved : (path : List ℕ) → length path ≡ 64 → Unresolved others p.size (only f) (only f) reads path
    front_unresolved path full =
        unresolved fronted (stay f) front_but.carrying front_but.loopless front_force fresh others reads front_tabled path (only_some f front_small) full
        (only_inside p.size f x.field)

    module _ (path : List ℕ) where
      abbrev pub Resolves : Verdict → Type 0
      Resolves = Resolved fresh others p.size 16 (only f) (only f) reads path

      -- the panel as a change of the link of a number, which is the link that is there
      module _ (k : ℕ) (named : Link) (same : named ≡ link_at p.links k) where
        abbrev front_as : (P : Panel → Type 0) → P fronted → P (after p k p.size place named Waiting)
        front_as P y = subst P (sym (ap (λ (l : List Link). record { size = p.size; links = l; place = place; setter = p.setter }) (kept p k named same))) y

        resolved_looped : Resolves Looped → refused p Loop ≡ performed p cmd
        resolved_looped e =
            sym (resolved_loop p k p.size place named Waiting (unmoved p x.legal k named same place) cmd path (stay f)
            (front_as (Carrying (stay f)) front_but.carrying) (front_as (λ q. is_looped q ≡ false) front_but.loopless) front_force fresh others reads
            (front_as (λ q. Tabled q fresh others reads) front_tabled)
            front_waits 16 (only f) (only f) front_level refl refl e
            (front_as (λ q. is_blocked q (stay f) ≡ true → performed p cmd ≡ reverse_step p q (stay f)) touch_reverses))

        resolved_done : (t : Verdict) → t ≢ Looped → Resolves t → Decides p k cmd path (step_of t p.size place named Waiting 128)
        resolved_done t ne e =
            resolved_step p k p.size place named Waiting (unmoved p x.legal k named same place) cmd path (stay f)
            (front_as (Carrying (stay f)) front_but.carrying) (front_as (λ q. is_looped q ≡ false) front_but.loopless) front_force fresh others reads
            (front_as (λ q. Tabled q fresh others reads) front_tabled)
            front_waits 16 (only f) (only f) front_level refl refl t ne e
            (λ free. front_as (λ q. is_blocked q (stay f) ≡ false → performed p cmd ≡ accepted p q) touch_free)
            (front_as (λ q. is_blocked q (stay f) ≡ true → performed p cmd ≡ reverse_step p q (stay f)) touch_reverses)

  -- a stay that sets its field
  idle_done : 128 ≤ at p.setter f → (path : List ℕ) → length path ≡ 64 → (k : ℕ) (named : Link) → named ≡ link_at p.links k
      → Decides p k cmd path (step_of Free p.size place named Waiting 128)
  idle_done high path long k named same =
      decides_free p k p.size place named Waiting (unmoved p x.legal k named same place) cmd path long 128
      (subst (λ (l : List Link). performed p cmd ≡ accepted p (record { size = p.size; links = l; place = place; setter = p.setter }))
      (sym (kept p k named same)) (touch_free (front_idle high)))

  -- ---- the verdict

  -- where a link sets the field, what is resolved for the stay; else the stay sets it, and there is nothing to do
  abbrev pub Judged : (others reads levels path : List ℕ) → Verdict → Type 0
  Judged others reads levels path t =
      ((at p.setter f < 128) × (fresh : List ℕ) × (fresh ≡ tabulate (λ g. level_with (at p.setter g) (at place g) (at levels g)) 64)
      × Resolved fresh others p.size 16 (only f) (only f) reads path t)
      ⊎ ((128 ≤ at p.setter f) × (t ≡ Free) × (length path ≡ 64))

  module _ {levels others reads : List ℕ} (tab : Tabled p levels others reads) (path : List ℕ) (t : Verdict) (judged : Judged others reads levels path t)
      (k : ℕ) (named : Link) (same : named ≡ link_at p.links k) (s : Step) where
    pub touch_looped : t ≡ Looped → s ≡ unchanged p.size p.place named (Err Loop) → Decides p k cmd path s
    touch_looped e is = go judged
      where
        go : Judged others reads levels path t → Decides p k cmd path s
        go (inl (low, fresh, levels_are, resolved)) =
            let looped = subst (Resolved fresh others p.size 16 (only f) (only f) reads path) e resolved in
            decides_refused p k named (Err Loop) cmd path looped.1.1.fields.full Loop s same refl
            (resolved_looped low tab levels_are path k named same looped) is
        go (inr (high, free, long)) = let z : Free ≡ Looped = sym free ∙ e in let y : ◌≡◌ {A = ℕ} 0 1 = cc in absurd (omega arith)

    pub touch_done : t ≢ Looped → s ≡ step_of t p.size place named Waiting 128 → Decides p k cmd path s
    touch_done ne is = rw is (go judged)
      where
        go : Judged others reads levels path t → Decides p k cmd path (step_of t p.size place named Waiting 128)
        go (inl (low, fresh, levels_are, resolved)) = resolved_done low tab levels_are path k named same t ne resolved
        go (inr (high, free, long)) = rw free (idle_done high path long k named same)
