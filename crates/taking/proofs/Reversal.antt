-- The reversal of a path one field at a time, with the tables. By cases on whether a number is a link's or a stay's, the code's two stores are
-- `holding` (`holds`) and its last one `waiting` (`waits`). A table then changes at the field that is set, to its setter's entry, and nowhere else
-- (`tabled_holding`), since levels, outputs and reads do not go by standings (`alike_setting`).
use Prim.Native.Nat.{ℕ, suc, ◌+◌, ◌%◌, ◌≤◌, ◌<◌}
use mathlib.Core.Path.{◌≡◌, refl, sym, ap, ◌∙◌}
use mathlib.Core.Bool.{Bool, true, false, cond}
use mathlib.Core.List.{List, [], ◌∷◌}
use mathlib.Core.Logic.{◌≢◌, ◌⊎◌, inl, inr}
use native.Mathlib.Nat.{mod-eq_of_lt}
use native.Mathlib.Numerals.{add-one}
use native.Mathlib.Decide.{ℕ_discrete}
use native.Mathlib.Omega.{arith}
use borrow.Author.Tests.{ltb-true}
use lib.Dec.{ltb}
use lib.ListN.{length, take, drop, set, length-set, drop_of_length-le}
use lib.Seq.{drop-cons, set-get_or, get_or-set_same, get_or-set_other}
use Rattle.fieldset.specs.Tables.{at}
use Rattle.panel.specs.declared.Standing.{Standing}
use Rattle.panel.specs.declared.Standing.TheVariants.{Waiting, Holding}
use Rattle.panel.specs.declared.Link.{Link}
use Rattle.panel.specs.declared.Panel.{Panel}
use Rattle.panel.specs.Items.{Item, link, stay, no_link, link_at, setter_of, item_of}
use Rattle.panel.specs.Panels.{standing, with_link, with_setter, holding, waiting, freed}
use Rattle.panel.specs.Solution.{reversed}
use Rattle.panel.proofs.Reversed.{AllAlike, alike_level, alike_outputs, alike_reads, Fit, put_here, put_there, holding_place, holding_alike, holding_sets, waiting_place, waiting_setter, waiting_alike}
use Rattle.panel.proofs.Legal.{holding_not_waiting}
use Rattle.tables.specs.declared.Entry.{Entry}
use Rattle.tables.specs.declared.Tables.{Tables}
use Rattle.tables.specs.Tables.{EntryOf, Setting, Tabled, TablesOf, Places, with_entry}
use Rattle.tables.proofs.Settings.{entry_setting, same_setting, tabled_same}
use Rattle.taking.specs.Taking.{TabledBut}

-- ---- the panel

-- the link of the number c at another standing, where it is a link's number
abbrev stood : ℕ → Link → Standing → Link
stood c l s = cond (ltb c 128) (standing l s) l

-- which field's stay it is makes no difference to the reversal
pub reversed_stay : (p : Panel) (c f g : ℕ) (vs : List ℕ) → reversed p (item_of c f) vs ≡ reversed p (item_of c g) vs
unfolding reversed
reversed_stay p c f g vs = go (ltb c 128) vs
  where
    go : (b : Bool) (vs : List ℕ) → reversed p (cond b (link c) (stay f)) vs ≡ reversed p (cond b (link c) (stay g)) vs
    go true vs = refl
    go false [] = refl
    go false (v ∷ vs) = refl

-- the store of the item's link, and of its number
holds : (p : Panel) (c v : ℕ)
    → with_setter (with_link p (c % 128) (stood c (link_at p.links (c % 128)) (Holding v))) v (cond (ltb c 128) c 128) ≡ holding p (item_of c v) v
holds p c v = go (ltb c 128) refl
  where
    go : (b : Bool) → ltb c 128 ≡ b
        → with_setter (with_link p (c % 128) (cond b (standing (link_at p.links (c % 128)) (Holding v)) (link_at p.links (c % 128)))) v (cond b c 128)
        ≡ holding p (cond b (link c) (stay v)) v
    go true e = rw (mod-eq_of_lt (ltb-true c 128 e)) refl
    go false e = rw (set-get_or p.links (c % 128) no_link) refl

waits : (p : Panel) (c v : ℕ) → with_link p (c % 128) (stood c (link_at p.links (c % 128)) Waiting) ≡ waiting p (item_of c v)
waits p c v = go (ltb c 128) refl
  where
    go : (b : Bool) → ltb c 128 ≡ b
        → with_link p (c % 128) (cond b (standing (link_at p.links (c % 128)) Waiting) (link_at p.links (c % 128))) ≡ waiting p (cond b (link c) (stay v))
    go true e = rw (mod-eq_of_lt (ltb-true c 128 e)) refl
    go false e = rw (set-get_or p.links (c % 128) no_link) refl

-- ---- the tables

-- the same setter, place and links, but for standings
alike_setting : (p q : Panel) (f x y z : ℕ) → setter_of q.setter f ≡ setter_of p.setter f → q.place ≡ p.place → AllAlike q.links p.links
    → Setting p f x y z → Setting q f x y z
alike_setting p q f x y z es ep h s =
    same_setting p q f (setter_of p.setter f) refl es (rw ep (alike_level q.links p.links h p.place (setter_of p.setter f)))
    (alike_outputs q.links p.links h (setter_of p.setter f)) (alike_reads q.links p.links h (setter_of p.setter f) f) s

tabled_waiting : (p : Panel) (c : Item) {l o r : List ℕ} → Tabled p l o r → Tabled (waiting p c) l o r
tabled_waiting p c t =
    tabled_same p (waiting p c)
    (λ f x y z k s. alike_setting p (waiting p c) f x y z (ap (λ (a : List ℕ). setter_of a f) (waiting_setter p c)) (waiting_place p c) (waiting_alike p c) s) t

-- the tables are the panel's own, whatever is freed
pub tabled_but : (p : Panel) (s : Standing) {l o r : List ℕ} → ((v : ℕ) → s ≡ Holding v → v < 64) → Tabled p l o r → TabledBut p s l o r
tabled_but p s field t = record {
  levels_full = t.levels_full;
  others_full = t.others_full;
  reads_full = t.reads_full;
  field = field;
  setting = λ f h. inr (t.setting f h);
}

-- and with all
pub tabled_whole : (p : Panel) {s : Standing} {l o r : List ℕ} → s ≡ Waiting → TabledBut p s l o r → Tabled p l o r
tabled_whole p {s} {l} {o} {r} e t = record {
  levels_full = t.levels_full;
  others_full = t.others_full;
  reads_full = t.reads_full;
  setting = λ f h. go f (t.setting f h);
}
  where
    go : (f : ℕ) → (s ≡ Holding f) ⊎ Setting p f (at l f) (at o f) (at r f) → Setting p f (at l f) (at o f) (at r f)
    go f (inl d) = absurd (holding_not_waiting d e)
    go f (inr k) = k

-- the item of the number c sets the field v
module _ (p : Panel) (c v : ℕ) (full : length p.setter ≡ 64) (lv : v < 64) where
  fits : Fit (item_of c v) v
  fits = go (ltb c 128) refl
    where
      go : (b : Bool) → ltb c 128 ≡ b → Fit (cond b (link c) (stay v)) v
      go true e = ltb-true c 128 e
      go false e = refl

  here : setter_of (holding p (item_of c v) v).setter v ≡ item_of c v
  here = ap (λ (st : ℕ → Item). st v) (holding_sets p v (item_of c v) full lv fits) ∙ put_here (setter_of p.setter) v (item_of c v)

  there : (f : ℕ) → f ≢ v → setter_of (holding p (item_of c v) v).setter f ≡ setter_of p.setter f
  there f ne = ap (λ (st : ℕ → Item). st f) (holding_sets p v (item_of c v) full lv fits) ∙ put_there (setter_of p.setter) v (item_of c v) f ne

  setting_here : (e : Entry) → EntryOf c (link_at p.links (c % 128)) (at p.place v) v e
      → Setting (holding p (item_of c v) v) v e.level e.others e.reads
  unfolding setter_of
  setting_here e is =
      let now : at (set p.setter v c) v ≡ c = get_or-set_same p.setter v c 0 (omega arith) in
      alike_setting (with_setter p v c) (holding p (item_of c v) v) v _ _ _ (here ∙ rw now refl) (holding_place p v (item_of c v)) (holding_alike p v (item_of c v))
      (entry_setting (with_setter p v c) v c _ _ e (sym now) refl refl is)

  pub tabled_holding : {l o r : List ℕ} (e : Entry) → EntryOf c (link_at p.links (c % 128)) (at p.place v) v e → TabledBut p (Holding v) l o r
      → Tabled (holding p (item_of c v) v) (set l v e.level) (set o v e.others) (set r v e.reads)
  tabled_holding {l} {o} {r} e is t = record {
    levels_full = length-set l v e.level ∙ t.levels_full;
    others_full = length-set o v e.others ∙ t.others_full;
    reads_full = length-set r v e.reads ∙ t.reads_full;
    setting = λ f k. go f (ℕ_discrete f v) (t.setting f k);
  }
    where
      q : Panel
      q = holding p (item_of c v) v

      go : (f : ℕ) → Dec (f ≡ v) → (Holding v ≡ Holding f) ⊎ Setting p f (at l f) (at o f) (at r f)
          → Setting q f (at (set l v e.level) f) (at (set o v e.others) f) (at (set r v e.reads) f)
      go f (yes d) s =
          rw (
            d,
            get_or-set_same l v e.level 0 (omega (arith, t.levels_full)),
            get_or-set_same o v e.others 0 (omega (arith, t.others_full)),
            get_or-set_same r v e.reads 0 (omega (arith, t.reads_full)),
          ) (setting_here e is)
      go f (no d) (inl s) = absurd (d cc)
      go f (no d) (inr s) =
          rw (get_or-set_other l v f e.level 0 d, get_or-set_other o v f e.others 0 d, get_or-set_other r v f e.reads 0 d)
          (alike_setting p q f _ _ _ (there f d) (holding_place p v (item_of c v)) (holding_alike p v (item_of c v)) s)

-- ---- the loop

-- the reversal of what is left of the path gives the whole
pub record Reversing (path : List ℕ) (whole p : Panel) (c i : ℕ) (tables : Tables) : Type 0 where
  pub panel : reversed p (item_of c 0) (drop i path) ≡ whole
  pub full : length p.setter ≡ 64
  pub placed : Places p.place
  pub tabled : TablesOf p tables

-- what a dropped link held is set by its stay, and the whole path is left
abbrev pub Starts : ℕ → List ℕ → ℕ → Panel → Standing → Panel → Tables → Type 0
Starts n path c p held q tables = (q ≡ freed p held) × Reversing (take n path) (reversed q (item_of c (at path 0)) (take n path)) q c 0 tables

module _ (n : ℕ) (path : List ℕ) (c : ℕ) {p q : Panel} {held : Standing} {t t' : Tables}
    (placed : Places p.place) (full : length p.setter ≡ 64) (but : TabledBut p held t.levels t.others t.reads) where
  pub reversing_freed : {v k : ℕ} {entry : Entry} → held ≡ Holding v → k ≡ v → entry ≡ record { level = 16 + at p.place k; others = 0; reads = 0 }
      → t' ≡ with_entry t k entry → q ≡ with_setter p k 128 → Starts n path c p held q t'
  reversing_freed {v} {k} e ek ee et eq =
      let own : Entry = record { level = 16 + at p.place v; others = 0; reads = 0 } in (
        rw (eq, e, ek) refl,
        rw (eq, et, ee, ek) (record {
          panel = reversed_stay (with_setter p v 128) c 0 (at path 0) (take n path);
          full = length-set p.setter v 128 ∙ full;
          placed = placed;
          tabled = tabled_holding p 128 v full (but.field v e) own (record { level = refl; others = refl; reads = refl }) (rw e at but);
        }),
      )

  pub reversing_all : held ≡ Waiting → t' ≡ t → q ≡ p → Starts n path c p held q t'
  reversing_all e et eq = (
    rw (eq, e) refl,
    rw (eq, et) (record {
      panel = reversed_stay p c 0 (at path 0) (take n path);
      full = full;
      placed = placed;
      tabled = tabled_whole p e but;
    }),
  )

module _ (path : List ℕ) {whole : Panel} where
  pub reversing_next : {p : Panel} {c i : ℕ} {t : Tables} {j k m : ℕ} {l : Link} {e : Entry}
      → Reversing path whole p c i t → i < length path → at path i < 64
      → k ≡ at path i → j ≡ c % 128 → l ≡ stood c (link_at p.links j) (Holding (at path i)) → m ≡ cond (ltb c 128) c 128
      → EntryOf c (link_at p.links j) (at p.place k) k e
      → Reversing path whole (with_setter (with_link p j l) k m) (at p.setter k) (i + 1) (with_entry t k e)
  unfolding reversed setter_of
  reversing_next {p} {c} {i} {t} {j} {k} {m} {l} {e} h less lv ek ej el em is =
      let v = at path i in
      let same : with_setter (with_link p j l) k m ≡ holding p (item_of c v) v = rw (el, em, ej, ek) (holds p c v) in
      record {
        panel = rw (same, ek) (
            reversed_stay (holding p (item_of c v) v) (at p.setter v) 0 v (drop (i + 1) path)
            ∙ rw (add-one i, drop-cons path i 0) (reversed_stay p c v 0 (v ∷ drop (suc i) path))
            ∙ h.panel
            );
        full = length-set p.setter k m ∙ h.full;
        placed = h.placed;
        tabled = rw (same, ek) (tabled_holding p c v h.full lv e (rw (ej, ek) at is) (tabled_but p (Holding v) (λ w d. let z : v ≡ w = cc in omega (arith, lv)) h.tabled));
      }

  pub reversing_ends : {p : Panel} {c i : ℕ} {t : Tables} {j : ℕ} {l : Link}
      → Reversing path whole p c i t → length path ≤ i → j ≡ c % 128 → l ≡ stood c (link_at p.links j) Waiting
      → (with_link p j l ≡ whole) × TablesOf (with_link p j l) t
  unfolding reversed
  reversing_ends {p} {c} {i} {t} {j} {l} h end ej el =
      let same : with_link p j l ≡ waiting p (item_of c 0) = rw (el, ej) (waits p c 0) in
      (same ∙ rw (drop_of_length-le path end) at h.panel, rw same (tabled_waiting p (item_of c 0) h.tabled))
