-- Which fields get another setter when a path is reversed, and how many moved. A field off the path keeps its setter; one on it gets the setter of
-- the field before it, which is another one, since no item sets two fields. These fields, with all that lies downstream of them, are those that a step
-- has redrawn (`redrawn_by_lem`); the moved count is their number.
use Prim.Native.Nat.{ℕ, ◌^◌, ◌≤◌, ◌<◌}
use mathlib.Core.Path.{◌≡◌, refl, sym, ap, ◌∙◌}
use mathlib.Core.Bool.{Bool, true, false, not, cond}
use mathlib.Core.List.{List, [], ◌∷◌}
use mathlib.Core.Logic.{◌≢◌, ◌↔◌, inl, inr}
use native.Mathlib.Decide.{ℕ_discrete, dec_lt}
use native.Mathlib.Nat.{lt_of_lt_of_le}
use native.Mathlib.Omega.{arith}
use borrow.Author.Tests.{ltb-true, eq-eqb, ne_eqb, eqb-true, eqb-false, not-true}
use lib.Dec.{eqb, ltb}
use lib.Pow.{pow_mono}
use lib.Seq.{get_or-set_other}
use Rattle.fieldset.specs.Tables.{at}
use Rattle.fieldset.specs.Lists.{In, All, Distinct}
use Rattle.fieldset.specs.Fields.{member, set_of, size}
use Rattle.fieldset.proofs.Tests.{and_left, and_right}
use Rattle.fieldset.proofs.Numbers.{clash}
use Rattle.fieldset.proofs.Fields.{set_of_lt, ext_member, member_high, member_setOf, member_setOf_lt, empty_of_none, union_none, size_empty}
use Rattle.fieldset.proofs.Lists.{all_in}
use Rattle.downstream.proofs.Spreading.{spread_lt, spread_nothing}
use Rattle.panel.specs.declared.Panel.{Panel}
use Rattle.panel.specs.Items.{Item, item_of, setter_of, outputs_of}
use Rattle.panel.specs.Answers.{Reply}
use Rattle.std.specs.Prelude.{Ok, Err}
use Rattle.panel.specs.Answers.{reply_bytes}
use Rattle.panel.specs.Panels.{holding}
use Rattle.panel.specs.Solution.{setter_reads, reversed}
use Rattle.panel.specs.Moved.{turned, redrawn}
use Rattle.panel.specs.Commands.{any_of}
use Rattle.panel.specs.Outcomes.{counted, redrawn_by}
use Rattle.panel.proofs.Reversed.{put, put_here, put_there, reversed_setters, Off, number_of, holding_setter, waiting_setter}
use Rattle.panel.proofs.Legal.{Carrying}
use Rattle.panel.proofs.Setters.{setter_single}
use Rattle.panel.proofs.Reversal.{Leads, Route, route_setters}

-- ---- on a path and off it

pub any_in : (f : ℕ) (vs : List ℕ) → any_of (eqb f) vs ≡ true → In f vs
unfolding any_of
any_in f [] e = clash e refl
any_in f (v ∷ vs) e = go (eqb f v) refl (any_in f vs)
  where
    go : (b : Bool) → eqb f v ≡ b → (any_of (eqb f) vs ≡ true → In f vs) → In f (v ∷ vs)
    go true t ih = inl (eqb-true f v t)
    go false t ih = inr (ih (rw t at e))

any_off : (f : ℕ) (vs : List ℕ) → any_of (eqb f) vs ≡ false → Off f vs
unfolding any_of
any_off f [] e = tt
any_off f (v ∷ vs) e = go (eqb f v) refl (any_off f vs)
  where
    go : (b : Bool) → eqb f v ≡ b → (any_of (eqb f) vs ≡ false → Off f vs) → Off f (v ∷ vs)
    go true t ih = absurd (clash refl (rw t at e))
    go false t ih = (eqb-false f v t, ih (rw t at e))

-- a field that is not on the path keeps its setter
reversed_off : (p : Panel) (c : Item) (vs : List ℕ) (f : ℕ) → Off f vs → at (reversed p c vs).setter f ≡ at p.setter f
unfolding reversed
reversed_off p c [] f h = ap (λ (x : List ℕ). at x f) (waiting_setter p c)
reversed_off p c (v ∷ vs) f (a, h) =
    reversed_off (holding p c v) (setter_of p.setter v) vs f h
    ∙ ap (λ (x : List ℕ). at x f) (holding_setter p v c) ∙ get_or-set_other p.setter v f (number_of c) 0 a

reversal_off : (st : ℕ → Item) (c : Item) (vs : List ℕ) (f : ℕ) → Off f vs → reversed_setters st c vs f ≡ st f
unfolding reversed_setters
reversal_off st c [] f h = refl
reversal_off st c (v ∷ vs) f (a, b) = reversal_off (put st v c) (st v) vs f b ∙ put_there st v c f a

-- each field of the path gets another setter, where no two fields have the same one and c sets none
reversal_on : (n : ℕ) (st : ℕ → Item) (c : Item) (vs : List ℕ) → Distinct vs → All (λ v. v < n) vs → ((f g : ℕ) → f < n → g < n → st f ≡ st g → f ≡ g)
    → ((f : ℕ) → f < n → st f ≢ c) → (f : ℕ) → In f vs → reversed_setters st c vs f ≢ st f
unfolding reversed_setters
reversal_on n st c [] _ _ once idle f x8 e = elim x8 [ ]
reversal_on n st c (v ∷ vs) (off, dis) (lv, all) once idle f (inl d) e =
    idle v lv (sym (ap st d) ∙ sym e ∙ ap (reversed_setters (put st v c) (st v) vs) d ∙ reversal_off (put st v c) (st v) vs v off ∙ put_here st v c)
reversal_on n st c (v ∷ vs) (off, dis) (lv, all) once idle f (inr i) e =
    reversal_on n (put st v c) (st v) vs dis all once' idle' f i (e ∙ sym (put_there st v c f ne))
  where
    ne : f ≢ v
    ne d = all_in (λ y. v ≢ y) vs f off i (sym d)

    once' : (f g : ℕ) → f < n → g < n → put st v c f ≡ put st v c g → f ≡ g
    once' f g lf lg q = go (ℕ_discrete f v) (ℕ_discrete g v)
      where
        go : Dec (f ≡ v) → Dec (g ≡ v) → f ≡ g
        go (yes a) (yes b) = a ∙ sym b
        go (yes a) (no b) = absurd (idle g lg (sym (put_there st v c g b) ∙ sym q ∙ ap (put st v c) a ∙ put_here st v c))
        go (no a) (yes b) = absurd (idle f lf (sym (put_there st v c f a) ∙ q ∙ ap (put st v c) b ∙ put_here st v c))
        go (no a) (no b) = once f g lf lg (sym (put_there st v c f a) ∙ q ∙ put_there st v c g b)

    idle' : (f : ℕ) → f < n → put st v c f ≢ st v
    idle' f l q = go (ℕ_discrete f v)
      where
        go : Dec (f ≡ v) → ⊥
        go (yes a) = idle v lv (sym q ∙ ap (put st v c) a ∙ put_here st v c)
        go (no a) = a (once f v l lv (sym (put_there st v c f a) ∙ q))

leads_all : (n : ℕ) (out : Item → ℕ) (st : ℕ → Item) (c : Item) (vs : List ℕ) → Leads n out st c vs → All (λ v. v < n) vs
leads_all n out st c [] h = tt
leads_all n out st c (v ∷ vs) (l, o, h) = (l, leads_all n out st (st v) vs h)

-- the fields of the path, and no others
pub reversed_changes : (q : Panel) (c : Item) (vs : List ℕ) → Carrying c q → Route q c vs → (f : ℕ)
    → any_of (eqb f) vs ≡ not (eqb (at q.setter f) (at (reversed q c vs).setter f))
unfolding setter_of
reversed_changes q c vs h route f = go (any_of (eqb f) vs) refl
  where
    go : (b : Bool) → any_of (eqb f) vs ≡ b → b ≡ not (eqb (at q.setter f) (at (reversed q c vs).setter f))
    go true e =
        sym (ap not (ne_eqb (at q.setter f) (at (reversed q c vs).setter f) (λ d.
        reversal_on q.size (setter_of q.setter) c vs route.distinct (leads_all q.size (outputs_of q.links) (setter_of q.setter) c vs route.leads)
        (setter_single q c h) h.held.idle f
        (any_in f vs e)
        (sym (ap (λ (s : ℕ → Item). s f) (route_setters q c vs h route)) ∙ ap (λ (x : ℕ). item_of x f) (sym d)))))
    go false e = sym (ap not (eq-eqb (at q.setter f) (at (reversed q c vs).setter f) (sym (reversed_off q c vs f (any_off f vs e)))))

-- ---- the moved count

-- the fields that get another setter, from a set of 64
pub turned_is : (p q : Panel) (m : ℕ) → q.size ≤ 64 → m < 2 ^ 64 → ((f : ℕ) → f < 64 → member m f ≡ not (eqb (at p.setter f) (at q.setter f)))
    → ((f : ℕ) → q.size ≤ f → f < 64 → at p.setter f ≡ at q.setter f) → m ≡ turned p q
unfolding turned
turned_is p q m few small is past = ext_member 64 m _ small (lt_of_lt_of_le (set_of_lt _ q.size) (pow_mono few)) (λ f l. is f l ∙ go f l (dec_lt f q.size))
  where
    other : ℕ → Bool
    other f = not (eqb (at p.setter f) (at q.setter f))

    go : (f : ℕ) → f < 64 → Dec (f < q.size) → other f ≡ member (set_of other q.size) f
    go f l (yes k) = sym (member_setOf_lt other q.size f k)
    go f l (no k) =
        ap not (eq-eqb (at p.setter f) (at q.setter f) (past f (omega arith) l)) ∙ sym (member_high q.size _ f (set_of_lt other q.size) (omega arith))

pub turned_none : (p q : Panel) → q.setter ≡ p.setter → turned p q ≡ 0
unfolding turned
turned_none p q e =
    empty_of_none q.size _ (set_of_lt _ q.size)
    (λ f l. member_setOf_lt _ q.size f l ∙ ap not (eq-eqb (at p.setter f) (at q.setter f) (ap (λ (s : List ℕ). at s f) (sym e))))

-- the fields of the panel whose setters are not equal
pub member_turned : (p q : Panel) (f : ℕ) → member (turned p q) f ≡ true ↔ ((f < q.size) × (at p.setter f ≢ at q.setter f))
unfolding turned
member_turned p q f = (
  λ e.
      let h = sym (member_setOf other q.size f) ∙ e in
      (ltb-true f q.size (and_left (ltb f q.size) (other f) h), eqb-false _ _ (not-true _ (and_right (ltb f q.size) (other f) h))),
  λ h. member_setOf_lt other q.size f h.0 ∙ ap not (ne_eqb _ _ h.1),
)
  where
    other : ℕ → Bool
    other f = not (eqb (at p.setter f) (at q.setter f))

pub turned_lt : (p q : Panel) → q.size ≤ 64 → turned p q < 2 ^ 64
unfolding turned
turned_lt p q few = lt_of_lt_of_le (set_of_lt _ q.size) (pow_mono few)

-- where no value changes
pub redrawn_by_lem : (p q : Panel) (m : ℕ) → q.size ≤ 64 → m ≡ turned p q → redrawn_by m 0 q ≡ redrawn p q
unfolding redrawn_by redrawn
redrawn_by_lem p q m few e = rw e (union_none _ (spread_lt (setter_reads q) q.size (turned p q) (turned_lt p q few)))

-- a set without fields leaves the reply as it is
pub counted_empty : (r : Reply) (set : ℕ) → set ≡ 0 → counted r set ≡ r
counted_empty (Ok m) set e = rw e refl
counted_empty (Err x) set e = refl

-- where no setter changes either
pub counted_still : (r : Reply) (q : Panel) → counted r (redrawn_by 0 0 q) ≡ r
unfolding redrawn_by
counted_still r q = counted_empty r _ (rw (spread_nothing (setter_reads q) q.size) (union_none 0 (omega arith)))

-- the count of a set, where nothing was counted before
pub counted_none : (set : ℕ) → reply_bytes (counted (Ok 0) set) ≡ 0x00 ∷ size set ∷ []
counted_none set = ap (λ (m : ℕ). 0x00 ∷ m ∷ []) (go (eqb set 0) refl)
  where
    go : (b : Bool) → eqb set 0 ≡ b → cond b 0 (size set) ≡ size set
    go true e = sym (ap size (eqb-true set 0 e) ∙ size_empty)
    go false e = refl
