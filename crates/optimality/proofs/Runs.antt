-- Condition 3: every command leaves a sound state sound (`performed_sound`, by cases on the command: opening and a change here, the others in `Steps`
-- and `Removing`), so every state after a list of commands is sound (`kept_after`, by induction on the list), and a sound state is optimal.
use Prim.Native.Nat.{ℕ, ◌≤◌, ◌<◌, zero-le}
use mathlib.Core.Path.{◌≡◌, refl, ap, ◌∙◌}
use mathlib.Core.List.{List, [], ◌∷◌}
use mathlib.Core.Option.{none}
use native.Mathlib.Omega.{arith}
use borrow.Author.Tests.{ltb-true}
use lib.ListN.{replicate, get_or-replicate}
use Rattle.fieldset.specs.Tables.{tabulate}
use Rattle.fieldset.proofs.Numbers.{clash}
use Rattle.panel.specs.declared.Panel.{Panel}
use Rattle.panel.specs.Items.{Item, link, stay, no_link, is_in_force}
use Rattle.panel.specs.Panels.{opened}
use Rattle.panel.specs.Steps.{open_step, add_step, remove_step, touch_step, plan_step, change_step}
use Rattle.panel.specs.Commands.{Command, opening, adding, removing, touching, planning, changing, performed, open_checks, add_checks, remove_checks, touch_checks, plan_checks, change_checks, Passes, covered_in, outputs_in}
use Rattle.panel.proofs.InForce.{unused_off}
use Rattle.panel.proofs.Reversed.{setter_stay}
use Rattle.panel.proofs.Changes.{legal_opened, unopened_links, add_enters}
use Rattle.panel.proofs.Checks.{openable, addable, removable, touchable, changeable, change_removes}
use Rattle.panel.proofs.Performed.{without_enters, change_either}
use Rattle.optimality.specs.Condition3.{Store, empty, entered, System, Run, stepped, after, AfterEveryList, panels, start, Condition3}
use Rattle.optimality.specs.Agreement.{EverySystem, Sound, EveryStart}
use Rattle.optimality.proofs.Setters.{Waits}
use Rattle.optimality.proofs.Graphs.{graph_of, setters_of, legal_whole, free_unblocked}
use Rattle.optimality.proofs.Answers.{checked_answer}
use Rattle.optimality.proofs.Optimum.{sound_optimal}
use Rattle.optimality.proofs.Agreement.{agrees_opened, default_link, default_entry}
use Rattle.optimality.proofs.Steps.{SoundAfter, enter_sound, touch_sound}
use Rattle.optimality.proofs.Removing.{remove_sound}

-- ---- opening

-- nothing waits in a panel at opening
opened_idle : (n : ℕ) → n ≤ 64 → (d : Item) → Waits (graph_of (opened n)) (setters_of (opened n)) d → ⊥
unfolding opened
opened_idle n few (link i) w = clash w.force (ap is_in_force (default_link i) ∙ unused_off no_link refl)
opened_idle n few (stay f) w =
    let l : f < n = ltb-true f n w.force in
    w.idle f l (setter_stay (replicate 64 128) f (omega (arith, get_or-replicate {A = ℕ} 64 f 128 0 (omega arith))))

opened_sound : (b : Store) (n : ℕ) → n ≤ 64 → ((i : ℕ) → b.links i ≡ none) → Sound (entered b (opening n)) (opened n)
opened_sound b n few no_links =
    record {
      legal = legal_opened n few;
      agrees = agrees_opened b n few no_links;
      unblocked = λ d. free_unblocked (legal_whole (opened n) (legal_opened n few)) d (λ w. absurd (opened_idle n few d w));
    }

-- an unopened panel has no links
no_links : (b : Store) (p : Panel) → Sound b p → p.size ≡ 0 → (i : ℕ) → b.links i ≡ none
no_links b p x e i = x.agrees.links i ∙ rw (unopened_links p x.legal e) (default_entry i)

-- ---- a change

-- the removal leaves a sound panel, in which the link is entered
change_sound : (b : Store) (p : Panel) → Sound b p → (id level : ℕ) (bytes : List ℕ) → Passes (change_checks p id level bytes)
    → SoundAfter b (entered b (changing id level bytes)) (change_step p id level (covered_in bytes) (outputs_in bytes))
change_sound b p x id level bytes k =
    let new = changeable p id level bytes k in
    let s = remove_sound b p x id new.number (removable p id (change_removes p id level bytes k)).used in
    change_either (SoundAfter b (entered b (changing id level bytes))) p id level bytes (λ r e. rw r (rw r at s))
    (λ r w. enter_sound (rw r at s) (without_enters w x.legal new.number level bytes new.formed) x)

-- ---- the commands

pub performed_sound : (b : Store) (p : Panel) (c : Command) → Sound b p → SoundAfter b (entered b c) (performed p c)
unfolding plan_step
performed_sound b p (opening n) x =
    checked_answer (SoundAfter b (entered b (opening n))) p (open_checks p n) (open_step n) (x, (x, tt))
    (λ k. let (e, l, few) = openable p n k in opened_sound b n few (no_links b p x e))
performed_sound b p (adding id level bytes) x =
    checked_answer (SoundAfter b (entered b (adding id level bytes))) p (add_checks p id level bytes) (add_step p id level (covered_in bytes) (outputs_in bytes))
    (x, (x, (x, (x, tt)))) (λ k. enter_sound x (add_enters (addable p id level bytes k)) x)
performed_sound b p (removing id) x =
    checked_answer (SoundAfter b (entered b (removing id))) p (remove_checks p id) (remove_step p id) (x, (x, (x, tt)))
    (λ k. remove_sound b p x id (removable p id k).number (removable p id k).used)
performed_sound b p (touching f) x =
    checked_answer (SoundAfter b (entered b (touching f))) p (touch_checks p f) (touch_step p f) (x, (x, tt)) (λ k. touch_sound b p x f (touchable p f k))
performed_sound b p planning x = checked_answer (SoundAfter b b) p (plan_checks p) (plan_step p) (x, tt) (λ k. x)
performed_sound b p (changing id level bytes) x =
    checked_answer (SoundAfter b (entered b (changing id level bytes))) p (change_checks p id level bytes) (change_step p id level (covered_in bytes) (outputs_in bytes))
    (x, (x, (x, (x, tt)))) (λ k. change_sound b p x id level bytes k)

-- ---- lists of commands

-- what every command keeps holds after every list of them
pub kept_after : (S : System) (P : Run S → Type 0) → ((r : Run S) (c : S.Command) → P r → P (stepped S r c)) → (r : Run S) → P r
    → AfterEveryList S r P
unfolding after
kept_after S P kept r h [] = h
kept_after S P kept r h (c ∷ cs) = kept_after S P kept (stepped S r c) (kept r c h) cs

pub every_system : EverySystem
every_system S Good kept optimal r h commands = optimal (after S r commands) (kept_after S Good kept r h commands)

abbrev SoundRun : Run panels → Type 0
SoundRun r = Sound r.store r.state

sound_kept : (r : Run panels) (c : Command) → SoundRun r → SoundRun (stepped panels r c)
unfolding stepped
sound_kept r c x = performed_sound r.store r.state c x

start_sound : Sound empty (opened 0)
unfolding tabulate
start_sound = opened_sound empty 0 zero-le (λ i. refl)

pub after_sound : AfterEveryList panels start SoundRun
after_sound = kept_after panels SoundRun sound_kept start start_sound

pub every_start : EveryStart
every_start = every_system panels SoundRun sound_kept (λ r x. sound_optimal x)

pub condition_3 : Condition3
condition_3 = every_start start start_sound
