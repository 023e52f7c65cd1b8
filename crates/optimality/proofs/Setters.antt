-- The argument's terms: a constraint graph as functions, setters, potentials, reversible paths. A potential s is at least the level of each field's
-- setter, and does not rise from a field to its setter's outputs; it stands for the sets of fields whose strength is at most a level, for all
-- levels at once.
use Prim.Native.Nat.{ℕ, ◌≤◌, ◌<◌}
use mathlib.Core.Path.{◌≡◌}
use mathlib.Core.Bool.{Bool, true}
use mathlib.Core.List.{List, [], ◌∷◌}
use mathlib.Core.Logic.{◌≢◌}
use native.Mathlib.Nat.{le_trans}
use Rattle.fieldset.specs.Lists.{Distinct}
use Rattle.panel.specs.Items.{Item}

-- n fields; of an item its level, which fields it may set, and whether it is in force
pub record Graph : Type 0 where
  pub n : ℕ
  pub lev : Item → ℕ
  pub out : Item → ℕ → Bool
  pub force : Item → Bool

-- an item in force that sets no field; `st` gives the setter of each field
pub record Waits (G : Graph) (st : ℕ → Item) (c : Item) : Type 0 where
  pub force : G.force c ≡ true
  pub idle : (f : ℕ) → f < G.n → st f ≢ c

-- the setters are in force, may set their fields, and set one field each
pub record Assigned (G : Graph) (st : ℕ → Item) : Type 0 where
  pub force : (f : ℕ) → f < G.n → G.force (st f) ≡ true
  pub may : (f : ℕ) → f < G.n → G.out (st f) f ≡ true
  pub single : (f g : ℕ) → f < G.n → g < G.n → st f ≡ st g → f ≡ g

-- ---- potentials

-- the level of c and s at its outputs are at most K
pub record Under (G : Graph) (s : ℕ → ℕ) (K : ℕ) (c : Item) : Type 0 where
  pub level : G.lev c ≤ K
  pub outs : (u : ℕ) → u < G.n → G.out c u ≡ true → s u ≤ K

-- s is a potential: at each field at least the level of its setter, and s at the setter's outputs
abbrev pub Potential : Graph → (ℕ → Item) → (ℕ → ℕ) → Type 0
Potential G st s = (f : ℕ) → f < G.n → Under G s (s f) (st f)

-- c is not blocked, as s has it
abbrev pub Free : Graph → (ℕ → ℕ) → Item → Type 0
Free G s c = (u : ℕ) → u < G.n → G.out c u ≡ true → s u ≤ G.lev c

-- a potential under which nothing is blocked
pub record Unblocked (G : Graph) (st : ℕ → Item) (s : ℕ → ℕ) : Type 0 where
  pub potential : Potential G st s
  pub free : (w : Item) → Waits G st w → Free G s w

pub under_trans : (G : Graph) (s : ℕ → ℕ) (a b : ℕ) (c : Item) → a ≤ b → Under G s a c → Under G s b c
under_trans G s a b c h un = record { level = le_trans un.level h; outs = λ u lu ou. le_trans (un.outs u lu ou) h }

-- ---- paths

-- c may set v, where s is K, and is below K
pub record Step (G : Graph) (s : ℕ → ℕ) (K : ℕ) (c : Item) (v : ℕ) : Type 0 where
  pub below : v < G.n
  pub may : G.out c v ≡ true
  pub at_top : s v ≡ K
  pub weaker : G.lev c < K

-- a reversible path for c: each item steps to the next field, and the setter of the last field has level K
unfoldable pub Chain : Graph → (ℕ → ℕ) → ℕ → (ℕ → Item) → Item → List ℕ → Type 0
Chain G s K st c [] = G.lev c ≡ K
Chain G s K st c (v ∷ vs) = Step G s K c v × Chain G s K st (st v) vs

-- a reversible path for c at K, and what makes its reversal block nothing
pub record Reversible (G : Graph) (st : ℕ → Item) (s : ℕ → ℕ) (K : ℕ) (c : Item) (vs : List ℕ) : Type 0 where
  pub potential : Potential G st s
  pub under : Under G s K c
  pub over : G.lev c < K
  pub distinct : Distinct vs
  pub chain : Chain G s K st c vs
