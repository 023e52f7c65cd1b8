-- Laws of the passes that work stale entries out (`Passing`): an entry is right when those of all that read its field are (`entry_right`), and a pass
-- without progress would leave fields that are all read by some of them, which ranks exclude (`repaired_less`).
use Prim.Native.Nat.{ℕ, zero, suc, ◌+◌, ◌^◌, ◌≤◌, ◌<◌}
use mathlib.Core.Path.{◌≡◌, refl, sym, ◌∙◌}
use mathlib.Core.Bool.{true, false}
use mathlib.Core.List.{List}
use mathlib.Core.Logic.{◌⊎◌, inl, inr}
use native.Mathlib.Nat.{le_refl}
use native.Mathlib.Decide.{ℕ_discrete}
use native.Mathlib.Omega.{arith}
use borrow.Author.Tests.{lt-ltb, ltb-true}
use lib.Dec.{ltb}
use lib.ListN.{length-set}
use lib.ListN.{set as put}
use lib.Seq.{get_or-set_same, get_or-set_other, ext_get_or}
use Rattle.fieldset.specs.Tables.{at}
use Rattle.fieldset.specs.Fields.{member, without, union, lowest_of, meets, First, Within}
use Rattle.fieldset.specs.Ranks.{Ranked}
use Rattle.fieldset.proofs.Tests.{and_left, and_right}
use Rattle.fieldset.proofs.Numbers.{clash}
use Rattle.fieldset.proofs.Fields.{ext_member, member_empty, member_without_other, without_lt, without_falls, without_cases, without_of, some_member}
use Rattle.fieldset.proofs.Emptying.{Emptying, empty_start, empty_step, empty_end}
use Rattle.ordering.specs.Order.{has_loop}
use Rattle.ordering.specs.Walks.{Inside}
use Rattle.ordering.proofs.Sets.{test_ext, meets_found, meets_not}
use Rattle.ordering.proofs.Plan.{no_loop_ranked}
use Rattle.downstream.specs.Downstream.{downstream, downstreams, directs, gathered}
use Rattle.downstream.proofs.Spreading.{downstream_lt, downstream_direct}
use Rattle.downstream.proofs.Walks.{Through, downstream_first, downstream_later}
use Rattle.downstream.proofs.Tables.{downstreams_at, downstreams_long}
use Rattle.downstream.proofs.Gathering.{Below, gathered_lt, gathered_cases, gathered_set, gathered_down}
use Rattle.keeping.specs.Keeping.{upstream, Right, Repaired}
use Rattle.keeping.proofs.Changes.{SameBut, unchanged}
use Rattle.keeping.proofs.Renewing.{readers_member}

-- ---- one entry

-- the readers of a field
reader : (reads : ℕ → ℕ) (n : ℕ) {readers : List ℕ} → readers ≡ directs reads n → (f h : ℕ) → f < 64 → member (at readers f) h ≡ true
    → (h < n) × (member (reads h) f ≡ true)
reader reads n t f h low e =
    let q = sym (readers_member reads n t f h low) ∙ e in
    (ltb-true h n (and_left (ltb h n) (member (reads h) f) q), and_right (ltb h n) (member (reads h) f) q)

-- an entry is right when those of all that read its field are
entry_right : (reads : ℕ → ℕ) (n : ℕ) (readers down : List ℕ) → n ≤ 64 → readers ≡ directs reads n → (f : ℕ) → f < 64
    → ((h : ℕ) → h < 64 → member (at readers f) h ≡ true → at down h ≡ downstream reads n h)
    → gathered (at down) (at readers f) ≡ downstream reads n f
entry_right reads n readers down few t f low right =
    ext_member 64 (gathered (at down) (at readers f)) (downstream reads n f) (gathered_lt (at down) (at readers f)) (downstream_lt reads n few f)
    (λ g l.
    test_ext (member (gathered (at down) (at readers f)) g) (member (downstream reads n f) g)
    (λ e. to g (gathered_cases (at down) (at readers f) g e)) (λ e. of g l (downstream_first reads n few f g e)))
  where
    to : (g : ℕ) → (member (at readers f) g ≡ true) ⊎ Below (at down) (at readers f) g → member (downstream reads n f) g ≡ true
    to g (inl e) = let (k, r) = reader reads n t f g low e in downstream_direct reads n few f g low k r
    to g (inr (h, k, e, d)) = let (m, r) = reader reads n t f h low e in downstream_later reads n few f h g low m r (rw (right h k e) at d)

    of : (g : ℕ) → g < 64 → Through reads n few f g → member (gathered (at down) (at readers f)) g ≡ true
    of g l (h, k, r, c) = go (readers_member reads n t f h low ∙ rw (lt-ltb h n k, r)) c
      where
        go : member (at readers f) h ≡ true → (h ≡ g) ⊎ (member (downstream reads n h) g ≡ true) → member (gathered (at down) (at readers f)) g ≡ true
        go e (inl d) = gathered_set (at down) (at readers f) g l (rw d at e)
        go e (inr d) = gathered_down (at down) (at readers f) h g (omega arith) l e (rw (right h (omega arith) e) d)

-- ---- one pass

-- a field of the set reads f
abbrev ReadIn : (ℕ → ℕ) → ℕ → ℕ → ℕ → Type 0
ReadIn reads n set f = (g : ℕ) × (g < n) × (member (reads g) f ≡ true) × (member set g ≡ true)

-- a pass over a set that has yet to look at the rest
pub record Passing (reads : ℕ → ℕ) (n set left rest : ℕ) (down : List ℕ) : Type 0 where
  pub fits : left < 2 ^ 64
  pub is_right : Right reads n left down
  pub less : left ≤ set
  pub within : Within left set
  pub rest_within : Within rest left
  pub loop : Emptying set (λ b f. b ≡ true → left ≡ set → ReadIn reads n set f) rest

pub passing_start : {reads : ℕ → ℕ} {n set : ℕ} {down : List ℕ} → set < 2 ^ 64 → Right reads n set down → Passing reads n set set set down
passing_start {set = set} h r = record {
  fits = h;
  is_right = r;
  less = le_refl set;
  within = λ f l e. e;
  rest_within = λ f l e. e;
  loop = empty_start (λ f l e. absurd (clash e refl));
}

pub passing_end : {reads : ℕ → ℕ} {n set left rest : ℕ} {down : List ℕ} → Passing reads n set left rest down → rest ≡ 0
    → Repaired reads n set left down
passing_end p z = record { is_right = p.is_right; inside = p.within; less = p.less; stuck = λ q f l e. empty_end p.loop z f l e q }

module _ {reads : ℕ → ℕ} {n set left rest rest' f : ℕ} {readers down : List ℕ} (few : n ≤ 64) (t : readers ≡ directs reads n)
    (p : Passing reads n set left rest down) (U : First rest f) (q : rest' ≡ without rest (lowest_of rest)) where
  rest_next : rest' ≡ without rest f
  rest_next = rw U.is_lowest q

  -- a stale field reads f
  pub passing_kept : meets (at readers f) left ≡ true → {left' : ℕ} {down' : List ℕ} → left' ≡ left → down' ≡ down
      → Passing reads n set left' rest' down'
  passing_kept m e d = rw (e, d) (record {
    fits = p.fits;
    is_right = p.is_right;
    less = p.less;
    within = p.within;
    rest_within = rw rest_next (λ g l i. p.rest_within g l (without_cases rest f g l i).0);
    loop = empty_step p.loop U q (λ b g l c h. h) (λ b z. here);
  })
    where
      here : ReadIn reads n set f
      here =
          let (x, k, i, j) = meets_found (at readers f) left m in
          let (l, r) = reader reads n t f x U.field i in
          (x, l, r, p.within x k j)

  -- no stale field reads f
  pub passing_done : meets (at readers f) left ≡ false → {left' : ℕ} {down' : List ℕ} → left' ≡ without left f
      → down' ≡ put down f (gathered (at down) (at readers f)) → Passing reads n set left' rest' down'
  passing_done m e d = rw (e, d) (record {
    fits = without_lt left f;
    is_right = record {
      long = length-set down f (gathered (at down) (at readers f)) ∙ p.is_right.long;
      right = λ g l o. right g l o (ℕ_discrete g f);
    };
    less = omega (arith, falls, p.less);
    within = λ g l i. p.within g l (without_cases left f g l i).0;
    rest_within = rw rest_next (λ g l i. let (j, c) = without_cases rest f g l i in without_of left f g l (p.rest_within g l j) c);
    loop = empty_step p.loop U q (λ b g l c h i z. absurd (omega (arith, falls, p.less))) (λ b z. absurd (omega (arith, falls, p.less)));
  })
    where
      falls : without left f < left
      falls = without_falls left p.fits f (p.rest_within f U.field U.is_in)

      right : (g : ℕ) → g < 64 → member (without left f) g ≡ false → Dec (g ≡ f)
          → at (put down f (gathered (at down) (at readers f))) g ≡ downstream reads n g
      right g l o (yes c) =
          rw c
          (get_or-set_same down f (gathered (at down) (at readers f)) 0 (rw p.is_right.long U.field)
          ∙ entry_right reads n readers down few t f U.field (λ x k i. p.is_right.right x k (meets_not (at readers f) left m x k i)))
      right g l o (no c) =
          get_or-set_other down f g (gathered (at down) (at readers f)) 0 c
          ∙ p.is_right.right g l (sym (member_without_other left f g l c) ∙ o)

-- ---- all passes

-- without a loop no fields are all read by some of them
no_top : {reads : ℕ → ℕ} {n : ℕ} {rank : ℕ → ℕ} (set : ℕ) → Ranked reads n n rank → ((f : ℕ) → f < n → member set f ≡ true → ReadIn reads n set f)
    → (k f : ℕ) → f < n → member set f ≡ true → n ≤ rank f + k → ⊥
no_top set r up zero f l e h = omega (arith, r.small f l)
no_top set r up (suc k) f l e h =
    let (g, m, q, i) = up f l e in
    no_top set r up k g m i (omega (arith, r.falls g f m l q))

-- a pass works out one entry at least
pub repaired_less : {reads : ℕ → ℕ} {n set left : ℕ} {down : List ℕ} → n ≤ 64 → has_loop reads n ≡ false → set < 2 ^ 64 → (set ≡ 0 → ⊥)
    → Repaired reads n set left down → left < set
repaired_less {reads} {n} {set} {left} few e fits some p = go (ℕ_discrete left set)
  where
    go : Dec (left ≡ set) → left < set
    go (yes d) =
        let (f, l, i) = some_member set fits (omega arith) in
        let (g, k, r, j) = p.stuck d f l i in
        absurd (no_top set (no_loop_ranked reads n few e) (λ f l i. p.stuck d f (omega arith) i) n g k j (omega arith))
    go (no d) = omega (arith, p.less)

-- nothing is stale
pub right_all : {reads : ℕ → ℕ} {n stale : ℕ} {down : List ℕ} → Right reads n stale down → stale ≡ 0 → down ≡ downstreams reads n
right_all {reads} {n} {stale} {down} r z =
    ext_get_or 0 down (downstreams reads n) (r.long ∙ sym (downstreams_long reads n))
    (λ f l. let low : f < 64 = rw r.long at l in r.right f low (rw z (member_empty f)) ∙ sym (downstreams_at reads n f low))

-- after a change the entries are right but for those upstream of it
pub right_after : {old new : ℕ → ℕ} {n changed stale : ℕ} {down : List ℕ} → Inside old n → Inside new n → SameBut changed old new n
    → down ≡ downstreams old n → stale ≡ union (upstream old n changed) (upstream new n changed) → Right new n stale down
right_after {old} {n = n} a b d e s = rw (e, s) (record {
  long = downstreams_long old n;
  right = λ f l o. downstreams_at old n f l ∙ unchanged a b d f l o;
})
