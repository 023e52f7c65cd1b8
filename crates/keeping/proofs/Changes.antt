-- Laws of reads that differ for some fields only: a walk that is new goes through a changed field (`split`). So an entry can differ only upstream of
-- a changed field (`unchanged`), and a new loop goes through one (`loop_through`).
use Prim.Native.Nat.{ℕ, ◌≤◌, ◌<◌}
use mathlib.Core.Path.{◌≡◌, refl, sym, ap, ◌∙◌}
use mathlib.Core.Bool.{Bool, true, false, not, ◌&&◌}
use mathlib.Core.List.{List}
use mathlib.Core.Logic.{◌⊎◌, inl, inr}
use native.Mathlib.Omega.{arith}
use borrow.Author.Tests.{eqb-true, not-false}
use lib.Dec.{eqb}
use lib.ListN.{length}
use lib.Seq.{ext_get_or}
use Rattle.fieldset.specs.Numbers.{any}
use Rattle.fieldset.specs.Tables.{at}
use Rattle.fieldset.specs.Fields.{member, union, below, Within}
use Rattle.fieldset.proofs.Tests.{and_left, and_right, and_both}
use Rattle.fieldset.proofs.Numbers.{clash, any_here, any_found}
use Rattle.fieldset.proofs.Fields.{member_empty, member_filter, member_lt, ext_member, union_left, union_right}
use Rattle.ordering.specs.Order.{has_loop}
use Rattle.ordering.specs.Walks.{Read, Walk, one, more, Inside, Among}
use Rattle.ordering.proofs.Sets.{test_ext}
use Rattle.ordering.proofs.Loops.{loop_walk, walk_loop}
use Rattle.downstream.specs.Downstream.{downstream}
use Rattle.downstream.proofs.Spreading.{downstream_lt}
use Rattle.downstream.proofs.Walks.{walk_start, walk_end, downstream_walk, downstream_first}
use Rattle.keeping.specs.Keeping.{upstream, loops_through, Differ, differing}
use Rattle.keeping.proofs.Climbing.{Above, low_in, upstream_cases, upstream_set, upstream_down}

-- ---- two tables

-- the fields whose entries differ are all that differ
pub differing_differ : {stale changed : ℕ} {old new : List ℕ} → Differ stale old new → changed ≡ differing (at old) (at new) stale
    → Differ changed old new
differing_differ {stale} {changed} {old} {new} d e = record { same = λ f l i. go f l (member stale f) refl (out f l (rw e at i)) }
  where
    out : (f : ℕ) → f < 64 → member (differing (at old) (at new) stale) f ≡ false → (member stale f && not (eqb (at old f) (at new f))) ≡ false
    out f l i = sym (member_filter (λ f. not (eqb (at old f) (at new f))) stale f l) ∙ i

    go : (f : ℕ) → f < 64 → (b : Bool) → member stale f ≡ b → (b && not (eqb (at old f) (at new f))) ≡ false → at old f ≡ at new f
    go f l true m i = eqb-true (at old f) (at new f) (not-false (eqb (at old f) (at new f)) i)
    go f l false m i = d.same f l m

pub differing_within : (old new : List ℕ) (stale : ℕ) {changed : ℕ} → changed ≡ differing (at old) (at new) stale → Within changed stale
differing_within old new stale e f l i =
    and_left (member stale f) (not (eqb (at old f) (at new f)))
    (sym (member_filter (λ f. not (eqb (at old f) (at new f))) stale f l) ∙ (rw e at i))

-- none differs
pub differ_none : {changed : ℕ} {old new : List ℕ} → Differ changed old new → length old ≡ 64 → length new ≡ 64 → changed ≡ 0 → old ≡ new
differ_none {changed} {old} {new} d a b z =
    ext_get_or 0 old new (a ∙ sym b) (λ f l. d.same f (rw a at l) (rw z (member_empty f)))

-- ---- two functions

-- the sets of the first n fields have the same members but for those of a set of fields
pub record SameBut (changed : ℕ) (old new : ℕ → ℕ) (n : ℕ) : Type 0 where
  pub same : (g f : ℕ) → g < n → f < 64 → member changed g ≡ false → member (old g) f ≡ member (new g) f

pub differ_same : {changed n : ℕ} {old new : List ℕ} → n ≤ 64 → Differ changed old new → SameBut changed (at old) (at new) n
differ_same few d = record { same = λ g f l k e. ap (λ x. member x f) (d.same g (omega arith) e) }

same_sym : {old new : ℕ → ℕ} {n changed : ℕ} → SameBut changed old new n → SameBut changed new old n
same_sym d = record { same = λ g f l k e. sym (d.same g f l k e) }

append : {reads : ℕ → ℕ} {n f g h : ℕ} → Walk reads n f g → Walk reads n g h → Walk reads n f h
append w (one r) = more w r
append w (more v r) = more (append w v) r

-- a walk from f to a changed field, which is g or from which another goes to g
abbrev Through : (ℕ → ℕ) → ℕ → ℕ → ℕ → ℕ → Type 0
Through reads n changed f g = (c : ℕ) × (member changed c ≡ true) × Walk reads n f c × ((c ≡ g) ⊎ Walk reads n c g)

module _ {r s : ℕ → ℕ} {n changed : ℕ} (few : n ≤ 64) (d : SameBut changed r s n) where
  moved : {f g : ℕ} → Read r n f g → member changed g ≡ false → Read s n f g
  moved {f} {g} q e = record { from = q.from; to = q.to; reads_it = sym (d.same g f q.to (omega (arith, q.from)) e) ∙ q.reads_it }

  -- a walk is one of the other reads too, or goes through a changed field
  split : (f g : ℕ) → Walk r n f g → Walk s n f g ⊎ Through r n changed f g
  split f g (one q) = go (member changed g) refl
    where
      go : (b : Bool) → member changed g ≡ b → Walk s n f g ⊎ Through r n changed f g
      go true e = inr (g, e, one q, inl refl)
      go false e = inl (one (moved q e))
  split f g (more {g = x} w q) = go (member changed g) refl (split f x w)
    where
      go : (b : Bool) → member changed g ≡ b → Walk s n f x ⊎ Through r n changed f x → Walk s n f g ⊎ Through r n changed f g
      go true e ih = inr (g, e, more w q, inl refl)
      go false e (inl v) = inl (more v (moved q e))
      go false e (inr (c, i, a, inl z)) = inr (c, i, a, inr (one (rw (sym z) at q)))
      go false e (inr (c, i, a, inr v)) = inr (c, i, a, inr (more v q))

  -- what is not upstream of a changed field has nothing new downstream
  kept : Inside r n → (f g : ℕ) → f < 64 → member (upstream r n changed) f ≡ false → member (downstream r n f) g ≡ true
      → member (downstream s n f) g ≡ true
  kept a f g low out e =
      let (h, l, q, c) = downstream_first r n few f g e in
      go (split f g ((downstream_walk r n few).to_walk f g (a.inside h f l low q) e))
    where
      go : Walk s n f g ⊎ Through r n changed f g → member (downstream s n f) g ≡ true
      go (inl w) = (downstream_walk s n few).of_walk f g w
      go (inr (c, i, w, v)) =
          let down = (downstream_walk r n few).of_walk f c w in
          absurd (clash (upstream_down r n changed f c low (member_lt (downstream r n f) (downstream_lt r n few f) c down) down i) out)

-- an entry can differ only upstream of a changed field, before or after
pub unchanged : {old new : ℕ → ℕ} {n changed : ℕ} → Inside old n → Inside new n → SameBut changed old new n → (f : ℕ) → f < 64
    → member (union (upstream old n changed) (upstream new n changed)) f ≡ false → downstream old n f ≡ downstream new n f
unchanged {old} {new} {n} {changed} a b d f low out =
    ext_member 64 (downstream old n f) (downstream new n f) (downstream_lt old n a.few f) (downstream_lt new n a.few f)
    (λ g l.
    test_ext (member (downstream old n f) g) (member (downstream new n f) g)
    (kept a.few d a f g low (left (member (upstream old n changed) f) refl))
    (kept a.few (same_sym d) b f g low (right (member (upstream new n changed) f) refl)))
  where
    left : (x : Bool) → member (upstream old n changed) f ≡ x → x ≡ false
    left true e = absurd (clash (union_left (upstream old n changed) (upstream new n changed) f low e) out)
    left false e = refl

    right : (x : Bool) → member (upstream new n changed) f ≡ x → x ≡ false
    right true e = absurd (clash (union_right (upstream old n changed) (upstream new n changed) f low e) out)
    right false e = refl

-- ---- loops

-- a field that is downstream of itself is upstream of what it reads
closed_upstream : {reads : ℕ → ℕ} {n c : ℕ} → n ≤ 64 → Walk reads n c c → member (upstream reads n (reads c)) c ≡ true
closed_upstream {reads} {n} {c} few (one r) = upstream_set reads n (reads c) c (omega (arith, r.from)) r.reads_it
closed_upstream {reads} {n} {c} few (more {g = x} w r) =
    upstream_down reads n (reads c) c x (omega (arith, r.to)) (omega (arith, r.from)) ((downstream_walk reads n few).of_walk c x w) r.reads_it

upstream_closed : {reads : ℕ → ℕ} {n c : ℕ} → n ≤ 64 → c < n → member (upstream reads n (reads c)) c ≡ true → Walk reads n c c
upstream_closed {reads} {n} {c} few l e = go (upstream_cases reads n (reads c) c (omega arith) e)
  where
    go : (member (reads c) c ≡ true) ⊎ Above reads n (reads c) c → Walk reads n c c
    go (inl r) = one (record { from = l; to = l; reads_it = r })
    go (inr (h, k, d, r)) =
        let w = (downstream_walk reads n few).to_walk c h l d in
        more w (record { from = walk_end w; to = l; reads_it = r })

-- a loop goes through a changed field c
abbrev through : (ℕ → ℕ) → ℕ → ℕ → ℕ → Bool
through reads n changed c = member changed c && member (upstream reads n (reads c)) c

-- where the old reads have no loop, a loop of the new ones goes through a changed field
pub changed_loop : {old new : ℕ → ℕ} {n changed : ℕ} → Inside new n → Within changed (below n) → SameBut changed old new n → has_loop old n ≡ false
    → loops_through new n changed ≡ has_loop new n
unfolding loops_through
changed_loop {old} {new} {n} {changed} a w d none = test_ext _ _ to of
  where
    to : any (through new n changed) 64 ≡ true → has_loop new n ≡ true
    to e =
        let (c, l, h) = any_found (through new n changed) 64 e in
        let low = low_in n changed w c l (and_left (member changed c) (member (upstream new n (new c)) c) h) in
        walk_loop new n a.few
        (record { field = c; walk = upstream_closed a.few low (and_right (member changed c) (member (upstream new n (new c)) c) h) })

    found : (c : ℕ) → member changed c ≡ true → Walk new n c c → any (through new n changed) 64 ≡ true
    found c i v =
        let k = walk_start v in
        any_here (through new n changed) 64 c (omega (arith, a.few))
        (and_both (member changed c) (member (upstream new n (new c)) c) i (closed_upstream a.few v))

    of : has_loop new n ≡ true → any (through new n changed) 64 ≡ true
    of e = let v = loop_walk new n a e in go v.field (split a.few (same_sym d) v.field v.field v.walk)
      where
        go : (f : ℕ) → Walk old n f f ⊎ Through new n changed f f → any (through new n changed) 64 ≡ true
        go f (inl v) = absurd (clash (walk_loop old n a.few (record { field = f; walk = v })) none)
        go f (inr (c, i, v, inl z)) = found c i (rw (sym z) at v)
        go f (inr (c, i, v, inr u)) = found c i (append u v)

-- the same of tables
pub loop_through : {old new : List ℕ} {n changed : ℕ} → Among new n → Within changed (below n) → Differ changed old new → has_loop (at old) n ≡ false
    → loops_through (at new) n changed ≡ has_loop (at new) n
loop_through a w d none = changed_loop a w (differ_same a.few d) none
