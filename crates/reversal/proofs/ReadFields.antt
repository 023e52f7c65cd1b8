-- The table of read fields after a path is reversed is that of the reversed panel: by induction on the path. What sets a field reads what it covers
-- but for the field, and covers what it reads and the field (`Covers`), so that one step of the table is one step of the setters (`reading_step`).
use mathlib.Core.Path.{◌≡◌, refl, sym, ap, ◌∙◌, subst}
use mathlib.Core.Logic.{⊎_elim}
use mathlib.Core.Bool.{true}
use mathlib.Core.List.{List, [], ◌∷◌}
use Prim.Native.Nat.{ℕ, ◌^◌, ◌≤◌, ◌<◌}
use native.Mathlib.Decide.{ℕ_discrete}
use native.Mathlib.Omega.{arith}
use borrow.Author.Tests.{eqb-true, ltb-true, lt-ltb}
use lib.Dec.{eqb}
use lib.ListN.{length, set, length-set}
use lib.Seq.{get_or-set_same, get_or-set_other}
use Rattle.fieldset.specs.Tables.{at}
use Rattle.fieldset.specs.Lists.{All, Distinct}
use Rattle.fieldset.specs.Fields.{member, with, without, only, below}
use Rattle.fieldset.proofs.Fields.{ext_member, member_only, member_below, member_with, member_with_same, member_with_other, member_without_other, only_lt, with_lt, without_only}
use Rattle.strength.specs.Filling.{Within}
use Rattle.ordering.specs.Walks.{Among}
use Rattle.ordering.proofs.Sets.{or_cases, without_cases}
use Rattle.panel.specs.declared.Link.{Link}
use Rattle.panel.specs.Items.{Item, link, stay, link_at, outputs_of, reads_of}
use Rattle.panel.proofs.Reversed.{put, put_here, put_there, reversed_setters}
use Rattle.panel.proofs.Reversal.{Leads, leads_put}
use Rattle.reversal.specs.Reversals.{reversed_reads}

-- the covered fields of an item
abbrev pub cover_of : List Link → Item → ℕ
cover_of links (link i) = (link_at links i).covered
cover_of links (stay g) = only g

-- an item that sets v reads what it covers but for v, and covers what it reads and v
pub record Covers (links : List Link) (d : Item) (v : ℕ) : Type 0 where
  pub drops : without (cover_of links d) v ≡ reads_of links d v
  pub adds : with (reads_of links d v) v ≡ cover_of links d

-- a set whose member v is taken out and put in again
with_without : (m v : ℕ) → m < 2 ^ 64 → v < 64 → member m v ≡ true → with (without m v) v ≡ m
with_without m v hm l e = ext_member 64 (with (without m v) v) m (with_lt (without m v) v) hm (λ i h. go i h (ℕ_discrete i v))
  where
    go : (i : ℕ) → i < 64 → Dec (i ≡ v) → member (with (without m v) v) i ≡ member m i
    go i h (yes d) = rw d (member_with_same (without m v) v l ∙ sym e)
    go i h (no d) = member_with_other (without m v) v i h d ∙ member_without_other m v i h d

pub cover_link : (links : List Link) (i v : ℕ) → (link_at links i).covered < 2 ^ 64 → v < 64 → member (link_at links i).covered v ≡ true → Covers links (link i) v
cover_link links i v hm l e = record { drops = refl; adds = with_without (link_at links i).covered v hm l e }

pub cover_stay : (links : List Link) (g v : ℕ) → v < 64 → member (only g) v ≡ true → Covers links (stay g) v
cover_stay links g v l e =
    let same : v ≡ g = eqb-true v g (sym (member_only g v l) ∙ e) in
    rw same (record {
      drops = without_only g;
      adds = ap (λ (x : ℕ). with x g) (sym (without_only g)) ∙ with_without (only g) g (only_lt g) (rw same at l) (rw same at e);
    })

-- ---- the reversal of a path, over setters as a function

module _ (n : ℕ) (links : List Link) (few : n ≤ 64) (Ok : Item → Type 0)
    (covers : (d : Item) (v : ℕ) → Ok d → v < n → member (outputs_of links d) v ≡ true → Covers links d v) where
  pub record Reading (st : ℕ → Item) (r : List ℕ) : Type 0 where
    pub full : length r ≡ 64
    pub reads : (f : ℕ) → f < n → at r f ≡ reads_of links (st f) f
    pub ok : (f : ℕ) → f < n → Ok (st f)
    pub output : (f : ℕ) → f < n → member (outputs_of links (st f)) f ≡ true

  reading_step : (st : ℕ → Item) (r : List ℕ) (c : Item) (v : ℕ) → Reading st r → Ok c → v < n → member (outputs_of links c) v ≡ true
      → Reading (put st v c) (set r v (without (cover_of links c) v))
  reading_step st r c v h ok l out = record {
    full = length-set r v (without (cover_of links c) v) ∙ h.full;
    reads = λ f k. reads f k (ℕ_discrete f v);
    ok = λ f k. ok_at f k (ℕ_discrete f v);
    output = λ f k. out_at f k (ℕ_discrete f v);
  }
    where
      reads : (f : ℕ) → f < n → Dec (f ≡ v) → at (set r v (without (cover_of links c) v)) f ≡ reads_of links (put st v c f) f
      reads f k (yes d) =
          let here : v < length r = omega (arith, h.full) in
          rw d (rw (put_here st v c) (get_or-set_same r v (without (cover_of links c) v) 0 here ∙ (covers c v ok l out).drops))
      reads f k (no d) = rw (put_there st v c f d) (get_or-set_other r v f (without (cover_of links c) v) 0 d ∙ h.reads f k)

      ok_at : (f : ℕ) → f < n → Dec (f ≡ v) → Ok (put st v c f)
      ok_at f k (yes d) = subst Ok (sym (ap (put st v c) d ∙ put_here st v c)) ok
      ok_at f k (no d) = rw (put_there st v c f d) (h.ok f k)

      out_at : (f : ℕ) → f < n → Dec (f ≡ v) → member (outputs_of links (put st v c f)) f ≡ true
      out_at f k (yes d) = rw d (rw (put_here st v c) out)
      out_at f k (no d) = rw (put_there st v c f d) (h.output f k)

  -- what set a field covers what it read and that field
  pub reversed_reads_lem : (st : ℕ → Item) (c : Item) (vs : List ℕ) (r : List ℕ) (m : ℕ) → Reading st r → Ok c → m ≡ cover_of links c
      → Leads n (outputs_of links) st c vs → Distinct vs → Reading (reversed_setters st c vs) (reversed_reads r m vs)
  unfolding reversed_setters reversed_reads
  reversed_reads_lem st c [] r m h ok e leads dis = h
  reversed_reads_lem st c (v ∷ vs) r m h ok e (l, out, leads) (off, dis) =
      let next : with (at r v) v ≡ cover_of links (st v) =
      ap (λ (x : ℕ). with x v) (h.reads v l) ∙ (covers (st v) v (h.ok v l) l (h.output v l)).adds in
      reversed_reads_lem (put st v c) (st v) vs (set r v (without m v)) (with (at r v) v)
      (rw e (reading_step st r c v h ok l out)) (h.ok v l) next (leads_put n (outputs_of links) st v c (st v) vs off leads) dis

-- ---- the read fields after a reversal are fields of the panel

pub among_reversed : (n : ℕ) (vs : List ℕ) (r : List ℕ) (m : ℕ) → length r ≡ 64 → Among r n → Within m (below n) → All (λ v. v < n) vs → Among (reversed_reads r m vs) n
unfolding reversed_reads
among_reversed n [] r m full h w all = h
among_reversed n (v ∷ vs) r m full h w (l, all) =
    among_reversed n vs (set r v (without m v)) (with (at r v) v) (length-set r v (without m v) ∙ full)
    (record { few = h.few; inside = λ g f lg lf e. inside g f lg lf e (ℕ_discrete g v) })
    (λ u k e. member_below n u k ∙ lt-ltb u n (⊎_elim (λ a. h.inside v u l k a) (λ a. rw (eqb-true u v a) l) (or_cases (member (at r v) u) (eqb u v) (sym (member_with (at r v) v u k) ∙ e))))
    all
  where
    inside : (g f : ℕ) → g < n → f < 64 → member (at (set r v (without m v)) g) f ≡ true → Dec (g ≡ v) → f < n
    inside g f lg lf e (yes d) =
        let here : at (set r v (without m v)) g ≡ without m v =
        ap (λ (x : ℕ). at (set r v (without m v)) x) d ∙ get_or-set_same r v (without m v) 0 (omega (arith, h.few)) in
        ltb-true f n (sym (member_below n f lf) ∙ w f lf (without_cases m v f lf (rw here at e)).0)
    inside g f lg lf e (no d) = h.inside g f lg lf (rw (get_or-set_other r v g (without m v) 0 d) at e)
