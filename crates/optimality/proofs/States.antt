-- What holds in every state after a list of commands: what a sound state says, read off. And nothing is better than what is optimal: what is better
-- would hold more up to the first level that differs (`optimal_best`).
use Prim.Native.Nat.{ℕ, ◌≤◌, ◌<◌}
use mathlib.Core.Path.{◌≡◌, sym, ap, ◌∙◌}
use mathlib.Core.Bool.{true}
use mathlib.Core.List.{List}
use mathlib.Core.Option.{some}
use native.Mathlib.Decide.{dec_lt}
use native.Mathlib.Omega.{arith}
use Rattle.fieldset.specs.Lists.{In}
use Rattle.fieldset.proofs.Lists.{all_in, in_map, Whole, whole_in}
use Rattle.panel.specs.declared.Panel.{Panel}
use Rattle.panel.specs.Items.{Item, link, link_at, is_in_force}
use Rattle.panel.specs.Solution.{plan_of}
use Rattle.panel.specs.Commands.{planning, performed}
use Rattle.panel.proofs.Reversed.{link_not_stay}
use Rattle.optimality.specs.Condition3.{Entry, Store, level_of, level_in, items, count_up_to, held, Optimal, AfterEveryList, panels, start}
use Rattle.optimality.specs.Agreement.{Agrees, Sound}
use Rattle.optimality.specs.States.{HoldsRequired, Settled, NothingBlocked, NothingBetter}
use Rattle.optimality.proofs.Matchings.{holds_more, pair_of, pair_setter}
use Rattle.optimality.proofs.Required.{pairs_hold}
use Rattle.optimality.proofs.Graphs.{graph_of, setters_of, legal_whole, required_holds}
use Rattle.optimality.proofs.Held.{plan_whole, held_pairs}
use Rattle.optimality.proofs.Agreement.{entry_force}
use Rattle.optimality.proofs.Runs.{after_sound, condition_3}

-- an entry of the store is a link in force
pub required_force : {b : Store} {p : Panel} → Agrees b p → (i : ℕ) (e : Entry) → b.links i ≡ some e → e.level ≡ 0
    → (is_in_force (link_at p.links i) ≡ true) × ((link_at p.links i).level ≡ 0)
required_force {b} {p} a i e q z =
    let (u, d) = entry_force (λ o. o ≡ some e) (λ n. let z : ◌≡◌ {A = ℕ} 0 1 = cc in omega arith) (link_at p.links i) (sym (a.links i) ∙ q) in
    (u, ap level_of d ∙ z)

pub sound_settled : {b : Store} {p : Panel} → Sound b p → Settled b (performed p planning).reply
sound_settled {b} {p} x =
    record {
      setter = λ f m. setters_of p f;
      sets = λ f m. rw (held_pairs p x.legal) (in_map (pair_of (setters_of p)) f (plan_of p) (planned f m));
      only = λ f m c i. (pair_setter (setters_of p) (plan_of p) (record { item = c; field = f }) (rw (held_pairs p x.legal) at i)).1;
      required = required;
    }
  where
    whole : Whole p.size (plan_of p)
    whole = plan_whole p x.legal.few x.legal.loopless

    planned : (f : ℕ) → In f b.stays → In f (plan_of p)
    planned f m = whole_in p.size (plan_of p) whole f (all_in (λ g. g < p.size) b.stays f x.agrees.below m)

    required : HoldsRequired b (held (performed p planning).reply)
    required i e q z =
        let (u, l) = required_force x.agrees i e q z in
        rw (held_pairs p x.legal)
        (pairs_hold (graph_of p) (setters_of p) (plan_of p) whole (link i) u (λ w. required_holds (legal_whole p x.legal) (link i) w link_not_stay l))

-- ---- Better

-- nothing is better than what is optimal: up to the first differing level it would hold more
pub optimal_best : {b : Store} {plan : List ℕ} → Optimal b plan → NothingBetter b plan
optimal_best {b} {plan} x xs m better = omega (arith, x.most better.level xs m, more)
  where
    into : (d : Item) → level_in b d ≤ better.level → In d (items (held plan)) → In d (items xs)
    into d le i = go (dec_lt (level_in b d) better.level)
      where
        go : Dec (level_in b d < better.level) → In d (items xs)
        go (yes l) = (better.same d l).1 i
        go (no l) = better.contains d (omega arith) i

    more : count_up_to (level_in b) better.level (held plan) < count_up_to (level_in b) better.level xs
    more =
        holds_more (level_in b) better.level xs (held plan) better.more x.matching.items_once into better.more_held
        (omega (arith, better.more_level)) better.more_missed

-- ---- after every list

pub settled : AfterEveryList panels start (λ r. Settled r.store (panels.plan r.state))
settled commands = sound_settled (after_sound commands)

pub nothing_blocked : AfterEveryList panels start (λ r. NothingBlocked r.state)
nothing_blocked commands = (after_sound commands).unblocked

pub nothing_better : AfterEveryList panels start (λ r. NothingBetter r.store (panels.plan r.state))
nothing_better commands = optimal_best (condition_3 commands)
