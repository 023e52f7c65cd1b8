-- A link that holds a field is dropped: what is the same where the link stays and only its field's stay steps in. The scan looks at the links as they
-- were; the link is not blocked in either panel, so by a table of the strengths the same is blocked (`blocked_kept`), and the least blocked item is the
-- same (`found_kept`). So what is worked out and found is that of the panel without the link (`scanned`).
use mathlib.Core.Path.{◌≡◌, refl, sym, ap, ◌∙◌, subst, fun_ext}
use mathlib.Core.Logic.{◌≢◌}
use mathlib.Core.Bool.{Bool, true, false, cond, not-eq-not}
use mathlib.Core.List.{List, [], ◌∷◌}
use mathlib.Core.Option.{Option, none, some}
use Prim.Native.Nat.{ℕ, ◌+◌, ◌<◌}
use native.Mathlib.Decide.{ℕ_discrete}
use native.Mathlib.Omega.{arith}
use lib.ListN.{set}
use lib.Seq.{get_or-set_same, get_or-set_other}
use Rattle.fieldset.specs.Tables.{at}
use Rattle.fieldset.proofs.Numbers.{clash}
use Rattle.fieldset.proofs.Fields.{without_only}
use Rattle.fieldset.proofs.Maps.{table_of}
use Rattle.strength.specs.Strength.{strength}
use Rattle.strength.specs.Filling.{Acyclic}
use Rattle.std.specs.Prelude.{Option as Answer, Some, None}
use Rattle.panel.specs.declared.Standing.TheVariants.{Holding}
use Rattle.panel.specs.declared.Link.{Link}
use Rattle.panel.specs.declared.Panel.{Panel}
use Rattle.panel.specs.Items.{Item, link, stay, no_link, link_at, item_of, setter_of, outputs_of, is_in_force, items_of}
use Rattle.panel.specs.Panels.{with_link, freed, dropped}
use Rattle.panel.specs.Solution.{level, strength_of, is_blocked, lesser, least, least_blocked}
use Rattle.panel.specs.Legal.{Legal}
use Rattle.panel.proofs.InForce.{unused_off}
use Rattle.panel.proofs.Reversed.{setter_stay, setter_number, link_here, link_there}
use Rattle.panel.proofs.Setters.{reads_there}
use Rattle.panel.proofs.Least.{least_passes, blocked_force}
use Rattle.panel.proofs.Changes.{legal_dropped}
use Rattle.tables.specs.Tables.{Tabled, StrengthsOf}
use Rattle.tables.proofs.Settings.{same_setting, tabled_set}
use Rattle.tables.proofs.Agreement.{panel_acyclic, panel_table, table_strengths}
use Rattle.scanning.specs.declared.Blocked.{Blocked}
use Rattle.scanning.specs.declared.Blocked.TheVariants.{Link as ALink, Stay as AStay}
use Rattle.scanning.specs.Scan.{with_setters, is_blocked_link, is_blocked_by, least_blocked_by, found_of, Recorded, Names, Finds, Scanned}
use Rattle.scanning.proofs.Over.{strengths_block, link_holds}

-- two levels that agree on the items that pass
least_same : (q : Item → Bool) (lev lev' : Item → ℕ) → ((d : Item) → q d ≡ true → lev d ≡ lev' d) → (cs : List Item) → least q lev cs ≡ least q lev' cs
unfolding least
least_same q lev lev' h [] = refl
least_same q lev lev' h (c ∷ cs) = rw (least_same q lev lev' h cs) (go (q c) refl)
  where
    lesser_same : (o : Option Item) → least q lev' cs ≡ o → q c ≡ true → lesser lev c o ≡ lesser lev' c o
    lesser_same none e t = refl
    lesser_same (some d) e t = rw (h c t, h d (least_passes q lev' cs d e)) refl

    go : (b : Bool) → q c ≡ b → cond b (lesser lev c (least q lev' cs)) (least q lev' cs) ≡ cond b (lesser lev' c (least q lev' cs)) (least q lev' cs)
    go true t = lesser_same (least q lev' cs) refl t
    go false t = refl

-- what a link sets is what it holds
pub sets_holds : (p : Panel) → Legal p → (id f : ℕ) → id < 128 → f < 64 → at p.setter f ≡ id → (link_at p.links id).standing ≡ Holding f
sets_holds p h id f small l e = subst (λ (i : ℕ). (link_at p.links i).standing ≡ Holding f) e (h.setter_holds f l (omega arith))

pub field_small : (p : Panel) → Legal p → (id v : ℕ) → id < 128 → (link_at p.links id).standing ≡ Holding v → v < 64
field_small p h id v small holds = omega (arith, h.few, h.holding_field id v small holds)

-- the link of a number holds v
pub record Held (p : Panel) (id v : ℕ) (levels others reads : List ℕ) : Type 0 where
  pub legal : Legal p
  pub tabled : Tabled p levels others reads
  pub small : id < 128
  pub holds : (link_at p.links id).standing ≡ Holding v

module _ {p : Panel} {id v : ℕ} {levels others reads : List ℕ} (x : Held p id v levels others reads) where
  h : Legal p
  h = x.legal

  pub held_small : v < 64
  held_small = field_small p h id v x.small x.holds

  -- the stay of v steps in, and then the link is dropped
  abbrev stepped : Panel
  stepped = with_setters p (set p.setter v 128)

  abbrev pub rest : Panel
  rest = with_link stepped id no_link

  pub dropped_rest : dropped p id ≡ rest
  unfolding dropped
  dropped_rest = ap (freed (with_link p id no_link)) x.holds

  pub legal_rest : Legal rest
  legal_rest = subst Legal dropped_rest (legal_dropped p id h x.small)

  -- v is set by its stay, every other field as before, and none by the link
  stay_sets : setter_of rest.setter v ≡ stay v
  stay_sets = setter_stay rest.setter v (omega (arith, get_or-set_same p.setter v 128 0 (omega (arith, h.setter_length, held_small))))

  others_set : (f : ℕ) → f ≢ v → at rest.setter f ≡ at p.setter f
  others_set f ne = get_or-set_other p.setter v f 128 0 ne

  unset : (f : ℕ) → f < 64 → setter_of rest.setter f ≢ link id
  unset f l e = go (ℕ_discrete f v)
    where
      sets : at rest.setter f ≡ id
      sets = (setter_number rest.setter f id e).0

      go : Dec (f ≡ v) → ⊥
      go (yes d) = let z : link id ≡ stay v = sym e ∙ ap (setter_of rest.setter) d ∙ stay_sets in let y : ◌≡◌ {A = ℕ} 0 1 = cc in omega arith
      go (no d) =
          let z : Holding v ≡ Holding f = sym x.holds ∙ sets_holds p h id f x.small l (sym (others_set f d) ∙ sets) in
          let y : v ≡ f = cc in
          d (sym y)

  -- another item
  level_kept : (d : Item) → d ≢ link id → level rest d ≡ level p d
  level_kept (link i) ne = ap (λ (l : Link). l.level) (link_there p.links id i no_link (λ e. ne (ap link e)))
  level_kept (stay f) ne = refl

  outputs_kept : (d : Item) → d ≢ link id → outputs_of rest.links d ≡ outputs_of p.links d
  outputs_kept (link i) ne = ap (λ (l : Link). l.outputs) (link_there p.links id i no_link (λ e. ne (ap link e)))
  outputs_kept (stay f) ne = refl

  tabled_rest : Tabled rest (set levels v (16 + at p.place v)) (set others v 0) (set reads v 0)
  unfolding setter_of
  tabled_rest =
      tabled_set p rest 64 64 v (16 + at p.place v) 0 0 held_small
      (λ f a b c l ne.
      let same : setter_of rest.setter f ≡ setter_of p.setter f = ap (λ (c : ℕ). item_of c f) (others_set f ne) in
      let other : setter_of p.setter f ≢ link id = λ e. unset f l (same ∙ e) in
      let d = setter_of p.setter f in
      (l, same_setting p rest f d refl same (level_kept d other) (outputs_kept d other) (reads_there p.links id f no_link d other)))
      (record { level_is = rw stay_sets refl; others_are = rw stay_sets (sym (without_only v)); reads_are = rw stay_sets refl }) x.tabled

  not_blocked : is_blocked rest (link id) ≡ false
  not_blocked =
      not-eq-not.0 (λ b. clash (blocked_force rest (link id) b)
      (ap is_in_force (link_here p.links id no_link (omega (arith, h.links_length))) ∙ unused_off no_link refl))

  blocked_other : (d : Item) → is_blocked rest d ≡ true → d ≢ link id
  blocked_other d b e = clash b (ap (is_blocked rest) e ∙ not_blocked)

  pub found_blocked : (d : Item) → least_blocked rest ≡ some d → is_blocked rest d ≡ true
  unfolding least_blocked
  found_blocked d e = least_passes (is_blocked rest) (level rest) (items_of p.size) d e

  -- the link does not wait, and without it that number is not in use: by a table of the strengths the same is blocked in both
  module _ (table : List ℕ) (strong : StrengthsOf rest table) where
    blocked_kept : (d : Item) → is_blocked_by table stepped d ≡ is_blocked rest d
    unfolding is_blocked_by
    blocked_kept (link i) = go (ℕ_discrete i id)
      where
        go : Dec (i ≡ id) → is_blocked_link table (link_at p.links i) ≡ is_blocked rest (link i)
        go (yes e) = rw e (sym (link_holds table (link_at p.links id) v x.holds) ∙ sym not_blocked)
        go (no e) = ap (is_blocked_link table) (sym (link_there p.links id i no_link e)) ∙ strengths_block rest table legal_rest strong (link i)
    blocked_kept (stay f) = strengths_block rest table legal_rest strong (stay f)

    found_kept : least_blocked_by table stepped ≡ least_blocked rest
    unfolding least_blocked_by least_blocked
    found_kept =
        ap (λ (b : Item → Bool). least b (level stepped) (items_of p.size)) (fun_ext blocked_kept)
        ∙ least_same (is_blocked rest) (level stepped) (level rest) (λ d b. sym (level_kept d (blocked_other d b))) (items_of p.size)

    -- what is found in the one is found in the other
    finds_kept : (b : Answer Blocked) → Names p.links (least_blocked_by table stepped) b → Finds rest b
    finds_kept b (e, is) = (sym found_kept ∙ e, kept b e is)
      where
        kept : (b : Answer Blocked) → least_blocked_by table stepped ≡ found_of b → Recorded p.links b → Recorded rest.links b
        kept None e is = tt
        kept (Some (ALink i l)) e is =
            is ∙ sym (link_there p.links id i no_link (λ d. blocked_other (link i) (found_blocked (link i) (sym found_kept ∙ e)) (ap link d)))
        kept (Some (AStay f)) e is = tt

  -- the tables with the stay of v are those of the panel without the link: its strengths are those that the scan reads
  pub rest_acyclic : Acyclic (set others v 0) p.size
  rest_acyclic = panel_acyclic rest legal_rest _ _ _ tabled_rest

  module _ (table before : List ℕ)
      (is : table ≡ table_of (strength (at (set levels v (16 + at p.place v))) (at (set others v 0)) p.size) p.size before) where
    rest_table : table ≡ table_of (strength_of rest) p.size before
    rest_table = is ∙ panel_table rest legal_rest _ _ _ tabled_rest before

    pub scanned : (worked : ℕ) → worked ≡ p.size → (b : Answer Blocked) → Names p.links (least_blocked_by table stepped) b
        → Scanned (dropped p id) before table b worked
    scanned worked n b names =
        let finds = finds_kept table (table_strengths rest table before rest_table) b names in
        subst (λ (q : Panel). Scanned q before table b worked) (sym dropped_rest) (record { strengths = rest_table; once = n; finds = finds })

  pub tabled_dropped : Tabled (dropped p id) (set levels v (16 + at p.place v)) (set others v 0) (set reads v 0)
  tabled_dropped = subst (λ (q : Panel). Tabled q (set levels v (16 + at p.place v)) (set others v 0) (set reads v 0)) (sym dropped_rest) tabled_rest

  -- the link is that which sets v
  pub dropped_setter : dropped p (at p.setter v) ≡ rest
  dropped_setter = ap (dropped p) (h.holding_sets id v x.small x.holds) ∙ dropped_rest
