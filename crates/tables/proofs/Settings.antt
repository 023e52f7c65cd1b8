-- What the tables hold of each field: from a setter's entry, after a store, and in another panel that agrees. A field's setting goes by its setter
-- alone, so it stays where the setter's level, outputs and reads do (`same_setting`, `placed_setting`).
use Prim.Native.Nat.{ℕ, ◌+◌, ◌%◌, ◌≤◌, ◌<◌}
use mathlib.Core.Path.{◌≡◌, refl, sym, ap, ◌∙◌}
use mathlib.Core.Bool.{Bool, true, false, cond}
use mathlib.Core.List.{List}
use mathlib.Core.Logic.{◌≢◌}
use native.Mathlib.Nat.{mod-eq_of_lt}
use native.Mathlib.Decide.{ℕ_discrete}
use native.Mathlib.Omega.{arith}
use borrow.Author.Tests.{ltb-true, ltb-false}
use lib.Dec.{ltb}
use lib.ListN.{set, length-set}
use lib.Seq.{get_or-set_same, get_or-set_other}
use Rattle.fieldset.specs.Tables.{at}
use Rattle.fieldset.specs.Fields.{without}
use Rattle.fieldset.proofs.Fields.{without_only}
use Rattle.panel.specs.declared.Link.{Link}
use Rattle.panel.specs.declared.Panel.{Panel}
use Rattle.panel.specs.Items.{Item, link, link_at, setter_of, level_of, outputs_of, reads_of, item_of}
use Rattle.panel.specs.Panels.{with_link}
use Rattle.panel.specs.Legal.{Legal}
use Rattle.panel.proofs.Reversed.{setter_link, setter_stay, link_there}
use Rattle.tables.specs.declared.Entry.{Entry}
use Rattle.tables.specs.Tables.{EntryOf, Setting, TabledTo, Tabled, Places, level_with}

-- every stay's place is below 64
pub places : (p : Panel) → Legal p → Places p.place
places p h f l = go (ltb f p.size) refl
  where
    go : (b : Bool) → ltb f p.size ≡ b → at p.place f < 64
    go true e = omega (arith, h.few, h.place_small f (ltb-true f p.size e))
    go false e = omega (arith, ltb-false f p.size e, h.place_past f (omega (arith, ltb-false f p.size e)) l)

-- the setter's entry
pub entry_setting : (p : Panel) (f c : ℕ) (l : Link) (place : ℕ) (e : Entry) → c ≡ at p.setter f → l ≡ link_at p.links (c % 128)
    → place ≡ at p.place f → EntryOf c l place f e → Setting p f e.level e.others e.reads
unfolding setter_of
entry_setting p f c l place e ec el ep is =
    record {
      level_is = is.level ∙ rw (el, ep) (level (ltb c 128) refl) ∙ ap (λ (x : ℕ). level_of p.links p.place (item_of x f)) ec;
      others_are = is.others ∙ rw el (others (ltb c 128) refl) ∙ ap (λ (x : ℕ). without (outputs_of p.links (item_of x f)) f) ec;
      reads_are = is.reads ∙ rw el (reads (ltb c 128) refl) ∙ ap (λ (x : ℕ). reads_of p.links (item_of x f) f) ec;
    }
  where
    -- a link's number is below 128
    number : ltb c 128 ≡ true → c % 128 ≡ c
    number t = mod-eq_of_lt (ltb-true c 128 t)

    level : (b : Bool) → ltb c 128 ≡ b → cond b (link_at p.links (c % 128)).level (16 + at p.place f) ≡ level_of p.links p.place (item_of c f)
    level true t = rw (t, number t)
    level false t = rw t

    others : (b : Bool) → ltb c 128 ≡ b → cond b (without (link_at p.links (c % 128)).outputs f) 0 ≡ without (outputs_of p.links (item_of c f)) f
    others true t = rw (t, number t)
    others false t = rw t (sym (without_only f))

    reads : (b : Bool) → ltb c 128 ≡ b → cond b (without (link_at p.links (c % 128)).covered f) 0 ≡ reads_of p.links (item_of c f) f
    reads true t = rw (t, number t)
    reads false t = rw t

-- the same setter, of the same level, outputs and reads
pub same_setting : (p q : Panel) (f : ℕ) {x y z : ℕ} (c : Item) → setter_of p.setter f ≡ c → setter_of q.setter f ≡ c
    → level_of q.links q.place c ≡ level_of p.links p.place c → outputs_of q.links c ≡ outputs_of p.links c
    → reads_of q.links c f ≡ reads_of p.links c f → Setting p f x y z → Setting q f x y z
same_setting p q f c ep eq hl ho hr s = record {
  level_is = s.level_is ∙ rw (ep, eq) (sym hl);
  others_are = s.others_are ∙ rw (ep, eq) (ap (λ (m : ℕ). without m f) (sym ho));
  reads_are = s.reads_are ∙ rw (ep, eq) (sym hr);
}

-- the same number of a setter, of the same link where it is one, and other places
pub placed_setting : (p q : Panel) (f : ℕ) {x y z w : ℕ} → at q.setter f ≡ at p.setter f
    → (at p.setter f < 128 → link_at q.links (at p.setter f) ≡ link_at p.links (at p.setter f))
    → w ≡ level_with (at p.setter f) (at q.place f) x → Setting p f x y z → Setting q f w y z
placed_setting p q f {x} {y} {z} {w} en el ew s = go (ltb (at p.setter f) 128) refl
  where
    go : (b : Bool) → ltb (at p.setter f) 128 ≡ b → Setting q f w y z
    go true b =
        let k : at p.setter f < 128 = ltb-true (at p.setter f) 128 b in
        let same = el k in
        let here : w ≡ x = ew ∙ rw b refl in
        rw here
        (same_setting p q f (link (at p.setter f)) (setter_link p.setter f k) (setter_link q.setter f (rw en k) ∙ ap link en)
        (ap (λ (l : Link). l.level) same) (ap (λ (l : Link). l.outputs) same) (ap (λ (l : Link). without l.covered f) same) s)
    go false b =
        let k : 128 ≤ at p.setter f = ltb-false (at p.setter f) 128 b in
        let is = setter_stay p.setter f k in
        let now = setter_stay q.setter f (rw en k) in
        record {
          level_is = ew ∙ rw (b, now) refl;
          others_are = s.others_are ∙ rw (is, now) refl;
          reads_are = s.reads_are ∙ rw (is, now) refl;
        }

-- the tables of one panel as those of another
pub tabled_same : (p q : Panel) {l o r : List ℕ} → ((f x y z : ℕ) → f < 64 → Setting p f x y z → Setting q f x y z) → Tabled p l o r → Tabled q l o r
tabled_same p q same t = record {
  levels_full = t.levels_full;
  others_full = t.others_full;
  reads_full = t.reads_full;
  setting = λ f k. same f _ _ _ k (t.setting f k);
}

-- another link of a number that sets no field is in none of the tables
pub tabled_link : (p : Panel) (i : ℕ) (l : Link) → ((f : ℕ) → f < 64 → at p.setter f < 128 → at p.setter f ≢ i) → {levels others reads : List ℕ}
    → Tabled p levels others reads → Tabled (with_link p i l) levels others reads
tabled_link p i l unset =
    tabled_same p (with_link p i l)
    (λ f a b c k s. placed_setting p (with_link p i l) f refl (λ n. link_there p.links i (at p.setter f) l (unset f k n)) (kept f a s (ltb (at p.setter f) 128) refl) s)
  where
    kept : (f a : ℕ) {b c : ℕ} → Setting p f a b c → (t : Bool) → ltb (at p.setter f) 128 ≡ t → a ≡ level_with (at p.setter f) (at p.place f) a
    kept f a s true e = rw e refl
    kept f a s false e = rw e (s.level_is ∙ rw (setter_stay p.setter f (ltb-false (at p.setter f) 128 e)) refl)

-- with another entry of v: it is q's, and the others were
pub tabled_set : (p q : Panel) (n m : ℕ) {l o r : List ℕ} (v x y z : ℕ) → v < 64
    → ((f x y z : ℕ) → f < m → f ≢ v → (f < n) × (Setting p f x y z → Setting q f x y z))
    → Setting q v x y z → TabledTo n p l o r → TabledTo m q (set l v x) (set o v y) (set r v z)
tabled_set p q n m {l} {o} {r} v x y z lv same s t = record {
  levels_full = length-set l v x ∙ t.levels_full;
  others_full = length-set o v y ∙ t.others_full;
  reads_full = length-set r v z ∙ t.reads_full;
  setting = λ f k. go f k (ℕ_discrete f v);
}
  where
    go : (f : ℕ) → f < m → Dec (f ≡ v) → Setting q f (at (set l v x) f) (at (set o v y) f) (at (set r v z) f)
    go f k (yes d) =
        rw (
          d,
          get_or-set_same l v x 0 (omega (arith, t.levels_full)),
          get_or-set_same o v y 0 (omega (arith, t.others_full)),
          get_or-set_same r v z 0 (omega (arith, t.reads_full)),
        ) s
    go f k (no d) =
        rw (get_or-set_other l v f x 0 d, get_or-set_other o v f y 0 d, get_or-set_other r v f z 0 d) ((same f _ _ _ k d).1 (t.setting f (same f 0 0 0 k d).0))
