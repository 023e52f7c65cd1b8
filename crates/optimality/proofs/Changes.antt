-- The graph changes around one item: a link is added, or a stay comes to the front. Nothing else becomes blocked: where levels change by ρ, which
-- keeps their order, ρ of an old potential is one of the new graph, and blocks nothing that the old one does not (`changed_potential`,
-- `changed_free`). For a stay at place q that comes to the front ρ moves the levels of the stays before it down one (`pushed`).
use Prim.Native.Nat.{ℕ, suc, ◌+◌, ◌≤◌, ◌<◌}
use mathlib.Core.Path.{◌≡◌}
use mathlib.Core.Bool.{Bool, true, false, cond}
use mathlib.Core.Logic.{◌≢◌}
use native.Mathlib.Nat.{le_refl, le_trans}
use native.Mathlib.Decide.{ℕ_discrete, dec_lt}
use native.Mathlib.Omega.{arith}
use borrow.Author.Tests.{lt-ltb, le-ltb}
use lib.Dec.{ltb}
use Rattle.panel.specs.Items.{Item}
use Rattle.optimality.proofs.Setters.{Graph, Waits, Potential, Free, Unblocked}

-- a lesser s blocks less
pub free_le : (G : Graph) (s t : ℕ → ℕ) (c : Item) → ((f : ℕ) → f < G.n → t f ≤ s f) → Free G s c → Free G t c
free_le G s t c le fr u lu ou = le_trans (le u lu) (fr u lu ou)

-- H is G with other levels, outputs and items in force: but for c, levels change by ρ, which keeps their order, and c sets nothing or its level
-- falls
pub record Change (G H : Graph) (st : ℕ → Item) (c : Item) (ρ : ℕ → ℕ) : Type 0 where
  pub size : H.n ≡ G.n
  pub mono : (a b : ℕ) → a ≤ b → ρ a ≤ ρ b
  pub level : (f : ℕ) → f < G.n → H.lev (st f) ≤ ρ (G.lev (st f))
  pub outs : (f u : ℕ) → f < G.n → H.out (st f) u ≡ true → G.out (st f) u ≡ true
  pub others : (w : Item) → H.force w ≡ true → w ≢ c
      → (G.force w ≡ true) × (H.lev w ≡ ρ (G.lev w)) × ((u : ℕ) → H.out w u ≡ true → G.out w u ≡ true)

module _ {G H : Graph} {st : ℕ → Item} {s ρ : ℕ → ℕ} {c : Item} (un : Unblocked G st s) (ch : Change G H st c ρ) where
  pub changed_potential : Potential H st (λ f. ρ (s f))
  changed_potential f l =
      let k : f < G.n = rw ch.size at l in
      record {
        level = le_trans (ch.level f k) (ch.mono _ _ (un.potential f k).level);
        outs = λ u lu ou. ch.mono _ _ ((un.potential f k).outs u (rw ch.size at lu) (ch.outs f u k ou));
      }

  pub changed_free : (w : Item) → Waits H st w → w ≢ c → Free H (λ f. ρ (s f)) w
  changed_free w h ne u lu ou =
      let (a, b, o) = ch.others w h.force ne in
      rw b (ch.mono _ _ (un.free w (record { force = a; idle = λ f l. h.idle f (rw ch.size l) }) u (rw ch.size at lu) (o u ou)))

-- ---- a stay comes to the front

-- what becomes of the level L where the stay at place q comes to the front: stays that stood before it move down one
abbrev pub pushed : ℕ → ℕ → ℕ
pushed q L = cond (ltb L 16) L (cond (ltb L (16 + q)) (suc L) L)

pushed_near : (q L : ℕ) → (L ≤ pushed q L) × (pushed q L ≤ suc L)
pushed_near q L = go (ltb L 16) (ltb L (16 + q))
  where
    go : (a b : Bool) → (L ≤ cond a L (cond b (suc L) L)) × (cond a L (cond b (suc L) L) ≤ suc L)
    go true b = (omega arith, omega arith)
    go false true = (omega arith, omega arith)
    go false false = (omega arith, omega arith)

pub pushed_ge : (q L : ℕ) → L ≤ pushed q L
pushed_ge q L = (pushed_near q L).0

pub pushed_mono : (q a b : ℕ) → a ≤ b → pushed q a ≤ pushed q b
pushed_mono q a b h = go (ℕ_discrete a b)
  where
    go : Dec (a ≡ b) → pushed q a ≤ pushed q b
    go (yes e) = rw e (le_refl (pushed q b))
    go (no e) = le_trans (pushed_near q a).1 (le_trans (omega arith) (pushed_near q b).0)

-- a link keeps its level
pub pushed_link : (q L : ℕ) → L < 16 → pushed q L ≡ L
pushed_link q L h = rw (lt-ltb L 16 h)

-- the stay at place i is pushed as its place is
pub pushed_stay : (q i : ℕ) → pushed q (16 + i) ≡ 16 + cond (ltb i q) (i + 1) i
pushed_stay q i = go (dec_lt i q)
  where
    go : Dec (i < q) → pushed q (16 + i) ≡ 16 + cond (ltb i q) (i + 1) i
    go (yes h) = rw (le-ltb (16 + i) 16 (omega arith), lt-ltb (16 + i) (16 + q) (omega arith), lt-ltb i q h) (omega arith)
    go (no h) = rw (le-ltb (16 + i) 16 (omega arith), le-ltb (16 + i) (16 + q) (omega arith), le-ltb i q (omega arith)) (omega arith)
