-- What the reversal of a path does: the setters along it move one field on, and of the links only the standings change. By induction on the path, one
-- item that takes a field at a time (`holding`); the setters are then a function of the field, which the path changes (`reversed_setters`).
use Prim.Native.Nat.{ℕ, ◌≤◌, ◌<◌}
use mathlib.Core.Path.{◌≡◌, refl, sym, ap, ◌∙◌, fun_ext, subst}
use mathlib.Core.Bool.{Bool, true, cond}
use mathlib.Core.List.{List, [], ◌∷◌}
use mathlib.Core.Logic.{◌≢◌}
use native.Mathlib.Decide.{ℕ_discrete, dec_lt}
use native.Mathlib.Omega.{arith}
use borrow.Author.Tests.{lt-ltb, le-ltb, eq-eqb, ne_eqb}
use lib.Dec.{eqb, ltb}
use lib.ListN.{length, set, length-set}
use lib.Seq.{get_or-set_same, get_or-set_other, set_out}
use Rattle.fieldset.specs.Tables.{at}
use Rattle.fieldset.specs.Lists.{All, Distinct}
use Rattle.fieldset.specs.Fields.{without}
use Rattle.strength.proofs.Paths.{last_of}
use Rattle.panel.specs.declared.Standing.{Standing}
use Rattle.panel.specs.declared.Standing.TheVariants.{Waiting, Holding}
use Rattle.panel.specs.declared.Link.{Link}
use Rattle.panel.specs.declared.Panel.{Panel}
use Rattle.panel.specs.Items.{Item, link, stay, no_link, link_at, setter_of, level_of, outputs_of, reads_of, is_in_force, in_force}
use Rattle.panel.specs.Panels.{standing, holding, waiting}
use Rattle.panel.specs.Solution.{reversed}
use Rattle.panel.proofs.InForce.{force_used, waiting_force, holding_force}

-- ---- items

pub link_injective : {i j : ℕ} → link i ≡ link j → i ≡ j
link_injective e = cc

pub stay_injective : {f g : ℕ} → stay f ≡ stay g → f ≡ g
stay_injective e = cc

pub link_not_stay : {i f : ℕ} → link i ≢ stay f
link_not_stay e = let z : ◌≡◌ {A = ℕ} 0 1 = cc in omega arith

pub same_item : (c d : Item) → Dec (c ≡ d)
same_item (link i) (link j) = go (ℕ_discrete i j)
  where
    go : Dec (i ≡ j) → Dec (link i ≡ link j)
    go (yes e) = yes (ap link e)
    go (no e) = no (λ q. e (link_injective q))
same_item (link i) (stay g) = no link_not_stay
same_item (stay f) (link j) = no (λ e. link_not_stay (sym e))
same_item (stay f) (stay g) = go (ℕ_discrete f g)
  where
    go : Dec (f ≡ g) → Dec (stay f ≡ stay g)
    go (yes e) = yes (ap stay e)
    go (no e) = no (λ q. e (stay_injective q))

-- the number that a table of setters has for an item
abbrev pub number_of : Item → ℕ
number_of (link i) = i
number_of (stay f) = 128

pub setter_link : (setter : List ℕ) (f : ℕ) → at setter f < 128 → setter_of setter f ≡ link (at setter f)
unfolding setter_of
setter_link setter f l = rw (lt-ltb (at setter f) 128 l)

pub setter_stay : (setter : List ℕ) (f : ℕ) → 128 ≤ at setter f → setter_of setter f ≡ stay f
unfolding setter_of
setter_stay setter f l = rw (le-ltb (at setter f) 128 l)

-- the number of a setter that is a link
pub setter_number : (setter : List ℕ) (f i : ℕ) → setter_of setter f ≡ link i → (at setter f ≡ i) × (i < 128)
setter_number setter f i e = go (dec_lt (at setter f) 128)
  where
    go : Dec (at setter f < 128) → (at setter f ≡ i) × (i < 128)
    go (yes l) = let d : at setter f ≡ i = link_injective (sym (setter_link setter f l) ∙ e) in (d, omega arith)
    go (no l) = absurd (link_not_stay (sym e ∙ setter_stay setter f (omega arith)))

pub number_setter : (setter : List ℕ) (f i : ℕ) → at setter f ≡ i → i < 128 → setter_of setter f ≡ link i
number_setter setter f i e l = setter_link setter f (omega arith) ∙ ap link e

-- a setter that is a stay is the field's own
pub setter_own : (setter : List ℕ) (f g : ℕ) → setter_of setter f ≡ stay g → (f ≡ g) × (128 ≤ at setter f)
setter_own setter f g e = go (dec_lt (at setter f) 128)
  where
    go : Dec (at setter f < 128) → (f ≡ g) × (128 ≤ at setter f)
    go (yes l) = absurd (link_not_stay (sym (setter_link setter f l) ∙ e))
    go (no l) = (stay_injective (sym (setter_stay setter f (omega arith)) ∙ e), omega arith)

-- ---- setters as a function

-- c sets v
abbrev pub put : (ℕ → Item) → ℕ → Item → ℕ → Item
put st v c f = cond (eqb f v) c (st f)

pub put_here : (st : ℕ → Item) (v : ℕ) (c : Item) → put st v c v ≡ c
put_here st v c = rw (eq-eqb v v refl)

pub put_there : (st : ℕ → Item) (v : ℕ) (c : Item) (f : ℕ) → f ≢ v → put st v c f ≡ st f
put_there st v c f h = rw (ne_eqb f v h)

-- c sets the first field of the path, the setter that stood there the next, and so on
unfoldable pub reversed_setters : (ℕ → Item) → Item → List ℕ → ℕ → Item
reversed_setters st c [] = st
reversed_setters st c (v ∷ vs) = reversed_setters (put st v c) (st v) vs

-- the item that is left over
unfoldable pub left : (ℕ → Item) → Item → List ℕ → Item
left st c [] = c
left st c (v ∷ vs) = left (put st v c) (st v) vs

-- ---- a path whose fields are distinct

-- f is not on the path
abbrev pub Off : ℕ → List ℕ → Type 0
Off f vs = All (λ v. f ≢ v) vs

-- the last field's setter is left over
pub left_last : (st : ℕ → Item) (c : Item) (v : ℕ) (vs : List ℕ) → Distinct (v ∷ vs) → left st c (v ∷ vs) ≡ st (last_of v vs)
unfolding left
left_last st c v [] h = refl
left_last st c v (w ∷ vs) (a, b) =
    left_last (put st v c) (st v) w vs b ∙ put_there st v c (last_of w vs) (λ e. last_on w vs (subst (λ x. Off x (w ∷ vs)) (sym e) a))
  where
    last_on : (w : ℕ) (vs : List ℕ) → Off (last_of w vs) (w ∷ vs) → ⊥
    last_on w [] (a, b) = a refl
    last_on w (x ∷ vs) (a, b) = last_on x vs b

-- ---- the links

-- a link's level and fields, and whether its number is in use
abbrev parts : Link → ℕ × ℕ × ℕ × Bool
parts l = (l.level, l.covered, l.outputs, l.used)

-- links that differ in nothing but their standings
abbrev pub AllAlike : List Link → List Link → Type 0
AllAlike a b = (i : ℕ) → parts (link_at a i) ≡ parts (link_at b i)

-- another link of a number, read where it was put, and elsewhere
pub link_here : (a : List Link) (i : ℕ) (l : Link) → i < length a → link_at (set a i l) i ≡ l
link_here a i l h = get_or-set_same a i l no_link h

pub link_there : (a : List Link) (i j : ℕ) (l : Link) → j ≢ i → link_at (set a i l) j ≡ link_at a j
link_there a i j l h = get_or-set_other a i j l no_link h

-- what another link of a number shares with the one before, all links share
set_shares : {A : Type 0} (of : Link → A) (a : List Link) (i : ℕ) (l : Link) → of l ≡ of (link_at a i) → (j : ℕ)
    → of (link_at (set a i l) j) ≡ of (link_at a j)
set_shares of a i l e j = go (ℕ_discrete j i) (dec_lt i (length a))
  where
    go : Dec (j ≡ i) → Dec (i < length a) → of (link_at (set a i l) j) ≡ of (link_at a j)
    go (no d) k = ap of (link_there a i j l d)
    go (yes d) (yes k) = rw (d, link_here a i l k) e
    go (yes d) (no k) = ap (λ (b : List Link). of (link_at b j)) (set_out a i l (omega arith))

-- a link at another standing
set_alike : (a : List Link) (i : ℕ) (s : Standing) → AllAlike (set a i (standing (link_at a i) s)) a
set_alike a i s = set_shares parts a i (standing (link_at a i) s) refl

set_force : (a : List Link) (i : ℕ) (l : Link) → is_in_force l ≡ true → is_in_force (link_at a i) ≡ true → (n : ℕ) (d : Item)
    → in_force n (set a i l) d ≡ in_force n a d
set_force a i l e u n (link j) = set_shares is_in_force a i l (e ∙ sym u) j
set_force a i l e u n (stay f) = refl

module _ (a b : List Link) (h : AllAlike a b) where
  pub alike_level : (place : List ℕ) (d : Item) → level_of a place d ≡ level_of b place d
  alike_level place (link i) = ap (λ (x : ℕ × ℕ × ℕ × Bool). x.0) (h i)
  alike_level place (stay f) = refl

  pub alike_outputs : (d : Item) → outputs_of a d ≡ outputs_of b d
  alike_outputs (link i) = ap (λ (x : ℕ × ℕ × ℕ × Bool). x.2) (h i)
  alike_outputs (stay f) = refl

  pub alike_reads : (d : Item) (f : ℕ) → reads_of a d f ≡ reads_of b d f
  alike_reads (link i) f = ap (λ (x : ℕ × ℕ × ℕ × Bool). without x.1 f) (h i)
  alike_reads (stay g) f = refl

  pub alike_covered : (i : ℕ) → (link_at a i).covered ≡ (link_at b i).covered
  alike_covered i = ap (λ (x : ℕ × ℕ × ℕ × Bool). x.1) (h i)

  pub alike_used : (i : ℕ) → (link_at a i).used ≡ (link_at b i).used
  alike_used i = ap (λ (x : ℕ × ℕ × ℕ × Bool). x.3) (h i)

-- ---- one item holds a field

module _ (p : Panel) (v : ℕ) where
  pub holding_size : (c : Item) → (holding p c v).size ≡ p.size
  holding_size (link i) = refl
  holding_size (stay g) = refl

  pub holding_place : (c : Item) → (holding p c v).place ≡ p.place
  holding_place (link i) = refl
  holding_place (stay g) = refl

  pub holding_setter : (c : Item) → (holding p c v).setter ≡ set p.setter v (number_of c)
  holding_setter (link i) = refl
  holding_setter (stay g) = refl

  pub holding_alike : (c : Item) → AllAlike (holding p c v).links p.links
  holding_alike (link i) = set_alike p.links i (Holding v)
  holding_alike (stay g) = λ i. refl

  -- the same items are in force
  pub holding_same : (c : Item) → in_force p.size p.links c ≡ true → (n : ℕ) (d : Item) → in_force n (holding p c v).links d ≡ in_force n p.links d
  holding_same (link i) u = set_force p.links i _ (holding_force _ v (force_used _ u) refl) u
  holding_same (stay g) u = λ n d. refl

module _ (p : Panel) where
  pub waiting_size : (c : Item) → (waiting p c).size ≡ p.size
  waiting_size (link i) = refl
  waiting_size (stay g) = refl

  pub waiting_place : (c : Item) → (waiting p c).place ≡ p.place
  waiting_place (link i) = refl
  waiting_place (stay g) = refl

  pub waiting_setter : (c : Item) → (waiting p c).setter ≡ p.setter
  waiting_setter (link i) = refl
  waiting_setter (stay g) = refl

  pub waiting_alike : (c : Item) → AllAlike (waiting p c).links p.links
  waiting_alike (link i) = set_alike p.links i Waiting
  waiting_alike (stay g) = λ i. refl

  pub waiting_same : (c : Item) → in_force p.size p.links c ≡ true → (n : ℕ) (d : Item) → in_force n (waiting p c).links d ≡ in_force n p.links d
  waiting_same (link i) u = set_force p.links i _ (waiting_force _ (force_used _ u) refl) u
  waiting_same (stay g) u = λ n d. refl

-- ---- what a reversal leaves as it was

pub reversed_size : (p : Panel) (c : Item) (vs : List ℕ) → (reversed p c vs).size ≡ p.size
unfolding reversed
reversed_size p c [] = waiting_size p c
reversed_size p c (v ∷ vs) = reversed_size (holding p c v) (setter_of p.setter v) vs ∙ holding_size p v c

pub reversed_place : (p : Panel) (c : Item) (vs : List ℕ) → (reversed p c vs).place ≡ p.place
unfolding reversed
reversed_place p c [] = waiting_place p c
reversed_place p c (v ∷ vs) = reversed_place (holding p c v) (setter_of p.setter v) vs ∙ holding_place p v c

pub reversed_alike : (p : Panel) (c : Item) (vs : List ℕ) → AllAlike (reversed p c vs).links p.links
unfolding reversed
reversed_alike p c [] i = waiting_alike p c i
reversed_alike p c (v ∷ vs) i = reversed_alike (holding p c v) (setter_of p.setter v) vs i ∙ holding_alike p v c i

pub reversed_full : (p : Panel) (c : Item) (vs : List ℕ) → length (reversed p c vs).links ≡ length p.links
unfolding reversed
reversed_full p (link i) [] = length-set p.links i (standing (link_at p.links i) Waiting)
reversed_full p (stay g) [] = refl
reversed_full p (link i) (v ∷ vs) =
    reversed_full (holding p (link i) v) (setter_of p.setter v) vs ∙ length-set p.links i (standing (link_at p.links i) (Holding v))
reversed_full p (stay g) (v ∷ vs) = reversed_full (holding p (stay g) v) (setter_of p.setter v) vs

module _ (p : Panel) (c : Item) (vs : List ℕ) where
  pub reversed_level : (place : List ℕ) (d : Item) → level_of (reversed p c vs).links place d ≡ level_of p.links place d
  reversed_level = alike_level (reversed p c vs).links p.links (reversed_alike p c vs)

  pub reversed_outputs : (d : Item) → outputs_of (reversed p c vs).links d ≡ outputs_of p.links d
  reversed_outputs = alike_outputs (reversed p c vs).links p.links (reversed_alike p c vs)

  pub reversed_reads_lem : (d : Item) (f : ℕ) → reads_of (reversed p c vs).links d f ≡ reads_of p.links d f
  reversed_reads_lem = alike_reads (reversed p c vs).links p.links (reversed_alike p c vs)

-- ---- the setters after a reversal

-- c may stand at v: a link of a number, or the stay of v itself
abbrev pub Fit : Item → ℕ → Type 0
Fit (link i) v = i < 128
Fit (stay g) v = g ≡ v

-- each carried item fits the field that it is put at
abbrev pub Fits : (ℕ → Item) → Item → List ℕ → Type 0
Fits st c [] = Unit {0}
Fits st c (v ∷ vs) = (v < 64) × Fit c v × Fits (put st v c) (st v) vs

pub set_setter : (setter : List ℕ) (v : ℕ) (c : Item) → length setter ≡ 64 → v < 64 → Fit c v
    → setter_of (set setter v (number_of c)) ≡ put (setter_of setter) v c
unfolding setter_of
set_setter setter v c full l fit = fun_ext (λ f. go f (ℕ_discrete f v))
  where
    number : (c : Item) → Fit c v → cond (ltb (number_of c) 128) (link (number_of c)) (stay v) ≡ c
    number (link i) h = rw (lt-ltb i 128 h)
    number (stay g) h = ap stay (sym h)

    go : (f : ℕ) → Dec (f ≡ v) → setter_of (set setter v (number_of c)) f ≡ put (setter_of setter) v c f
    go f (yes d) =
        let e : at (set setter v (number_of c)) v ≡ number_of c = get_or-set_same setter v (number_of c) 0 (omega arith) in
        rw (d, eq-eqb v v refl, e) (number c fit)
    go f (no d) = rw (ne_eqb f v d, get_or-set_other setter v f (number_of c) 0 d)

pub holding_sets : (p : Panel) (v : ℕ) (c : Item) → length p.setter ≡ 64 → v < 64 → Fit c v
    → setter_of (holding p c v).setter ≡ put (setter_of p.setter) v c
holding_sets p v c full l fit = rw (holding_setter p v c) (set_setter p.setter v c full l fit)

pub holding_full : (p : Panel) (v : ℕ) (c : Item) → length (holding p c v).setter ≡ length p.setter
holding_full p v c = rw (holding_setter p v c) (length-set p.setter v (number_of c))

pub reversed_setters_lem : (p : Panel) (c : Item) (vs : List ℕ) → length p.setter ≡ 64 → Fits (setter_of p.setter) c vs
    → setter_of (reversed p c vs).setter ≡ reversed_setters (setter_of p.setter) c vs
unfolding reversed reversed_setters
reversed_setters_lem p c [] full h = ap setter_of (waiting_setter p c)
reversed_setters_lem p c (v ∷ vs) full (l, fit, h) =
    let e = holding_sets p v c full l fit in
    reversed_setters_lem (holding p c v) (setter_of p.setter v) vs (holding_full p v c ∙ full) (rw e h) ∙ rw e
