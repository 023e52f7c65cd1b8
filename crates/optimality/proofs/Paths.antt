-- The path for a blocked item of a panel is a reversible path of its graph (`path_reversible`): its fields all have the strength of the first, and
-- the strengths are a potential. The panel with the path reversed has the same graph and the graph's setters so reversed (`after_graph`,
-- `after_setters`), whence nothing is blocked in it where they have a potential that blocks nothing (`after_none`).
use Prim.Native.Nat.{ℕ, ◌≤◌, ◌<◌}
use mathlib.Core.Path.{◌≡◌, refl, sym, ap, ◌∙◌, fun_ext}
use mathlib.Core.Bool.{Bool, true, false}
use mathlib.Core.List.{List, ◌∷◌}
use native.Mathlib.Nat.{le_of_lt}
use native.Mathlib.Omega.{arith}
use Rattle.fieldset.specs.Lists.{All}
use Rattle.fieldset.specs.Fields.{member}
use Rattle.strength.proofs.Paths.{Chain as FieldChain, last, next, Reversible as FieldPath}
use Rattle.panel.specs.declared.Panel.{Panel}
use Rattle.panel.specs.Items.{Item, in_force, outputs_of, level_of}
use Rattle.panel.specs.Solution.{level, setter_level, setter_others, strength_of, is_blocked, path_for, reversed}
use Rattle.panel.specs.Legal.{Legal}
use Rattle.panel.proofs.Reversed.{reversed_setters, reversed_size, reversed_place, reversed_level, reversed_outputs}
use Rattle.panel.proofs.Legal.{LegalBut}
use Rattle.panel.proofs.Setters.{others_out}
use Rattle.panel.proofs.Reversal.{blocking, start_of, Start, start_of_lem, path_for_lem, Route, route_for, route_carrying, reverse_force, route_setters}
use Rattle.optimality.proofs.Setters.{Graph, Assigned, Unblocked, Chain, Reversible}
use Rattle.optimality.proofs.Graphs.{graph_of, setters_of, legal_whole, assigned, strength_potential, unblocked_none}

-- a chain of fields, from an output of c that is below K, is a path for c
module _ (G : Graph) (st : ℕ → Item) (lev others s : ℕ → ℕ) (K : ℕ) (few : G.n ≤ 64)
    (levels : (v : ℕ) → lev v ≡ G.lev (st v)) (outs : (v u : ℕ) → u < 64 → member (others v) u ≡ true → G.out (st v) u ≡ true) where
  pub chain_of : (c : Item) (v : ℕ) (vs : List ℕ) → All (λ u. u < G.n) (v ∷ vs) → G.out c v ≡ true → G.lev c < K
      → FieldChain lev others s K (v ∷ vs) → Chain G s K st c (v ∷ vs)
  unfolding Chain
  chain_of c v vs inside o lt (last l e k) = (record { below = inside.0; may = o; at_top = e; weaker = lt }, sym (levels v) ∙ k)
  chain_of c v vs inside o lt (next {u = u} {vs = ws} l e k m h) =
      let lu : u < G.n = inside.1.0 in
      (record { below = inside.0; may = o; at_top = e; weaker = lt }, chain_of (st v) u ws inside.1 (outs v u (omega arith) m) (rw (← levels v) k) h)

module _ {p : Panel} {c : Item} (h : LegalBut c p) (b : is_blocked p c ≡ true) where
  abbrev G : Graph
  G = graph_of p

  pub path_start : Start p c
  path_start = start_of_lem p c h.carrying (blocking p c b)

  route : Route p c (path_for p c)
  route = route_for p c h.carrying h.loopless (blocking p c b)

  chain : Chain G (strength_of p) (strength_of p (start_of p c)) (setters_of p) c (path_for p c)
  unfolding strength_of
  chain = go (path_for p c) (path_for_lem p c h.carrying h.loopless path_start.small)
    where
      go : (vs : List ℕ) → FieldPath (setter_level p) (setter_others p) p.size (start_of p c) vs
          → Chain G (strength_of p) (strength_of p (start_of p c)) (setters_of p) c vs
      go vs r =
          rw r.starts
          (chain_of G (setters_of p) (setter_level p) (setter_others p) (strength_of p) (strength_of p (start_of p c)) h.carrying.few (λ v. refl)
          (others_out p c h.carrying) c (start_of p c) r.rest (rw r.starts at r.inside) path_start.output path_start.stronger
          (rw r.starts at r.chain))

  -- the path is reversible, at the strength of its first field
  pub path_reversible : Reversible G (setters_of p) (strength_of p) (strength_of p (start_of p c)) c (path_for p c)
  path_reversible =
      record {
        potential = strength_potential h;
        under = record { level = le_of_lt path_start.stronger; outs = λ u lu ou. path_start.strongest u (omega (arith, h.carrying.few)) ou };
        over = path_start.stronger;
        distinct = route.distinct;
        chain = chain;
      }

  -- ---- the panel afterwards

  abbrev pub after : Panel
  after = reversed p c (path_for p c)

  pub after_force : (d : Item) → in_force after.size after.links d ≡ in_force p.size p.links d
  after_force d =
      ap (λ (n : ℕ). in_force n after.links d) (reversed_size p c (path_for p c)) ∙ reverse_force p c (path_for p c) h.carrying route p.size d

  pub after_graph : graph_of after ≡ graph_of p
  after_graph = λ i. record {
    n = reversed_size p c (path_for p c) i;
    lev = fun_ext levels i;
    out = fun_ext outs i;
    force = fun_ext after_force i;
  }
    where
      levels : (d : Item) → level after d ≡ level p d
      levels d =
          ap (λ (place : List ℕ). level_of after.links place d) (reversed_place p c (path_for p c)) ∙ reversed_level p c (path_for p c) p.place d

      outs : (d : Item) → ◌≡◌ {A = ℕ → Bool} (λ u. member (outputs_of after.links d) u) (λ u. member (outputs_of p.links d) u)
      outs d = fun_ext (λ u. ap (λ (m : ℕ). member m u) (reversed_outputs p c (path_for p c) d))

  pub after_setters : setters_of after ≡ reversed_setters (setters_of p) c (path_for p c)
  after_setters = route_setters p c (path_for p c) h.carrying route

  pub after_assigned : Assigned G (reversed_setters (setters_of p) c (path_for p c))
  after_assigned = rw (after_graph, after_setters) at (assigned (route_carrying p c (path_for p c) h.carrying route))

  -- nothing is blocked in it where the reversed setters have a potential that blocks nothing
  pub after_none : (s : ℕ → ℕ) → Unblocked G (reversed_setters (setters_of p) c (path_for p c)) s → Legal after → (d : Item) → is_blocked after d ≡ false
  after_none s un l = unblocked_none (legal_whole after l) s (rw (after_graph, after_setters) un)
