-- The halves of a change, each on a panel with its tables. A link that waits is dropped and nothing else (`drop_waits`); for one that holds v it is
-- settled what is to be done without it: a loop refuses the removal (`drop_loops`), else the path is reversed in the panel without the link
-- (`drop_reversed`). A link that is entered is refused by the verdict on it (`enter_refused`), or its path is reversed in the panel with the link
-- (`enter_reversed`).
use Prim.Native.Nat.{ℕ, ◌<◌}
use mathlib.Core.Path.{◌≡◌, refl, sym, ap, ◌∙◌, subst}
use mathlib.Core.Bool.{Bool, false}
use mathlib.Core.Logic.{◌≢◌}
use mathlib.Core.List.{List}
use lib.ListN.{length}
use Rattle.fieldset.specs.Tables.{at}
use Rattle.panel.specs.declared.Standing.{Standing}
use Rattle.panel.specs.declared.Standing.TheVariants.{Waiting, Holding}
use Rattle.panel.specs.declared.Link.{Link}
use Rattle.panel.specs.declared.Panel.{Panel}
use Rattle.panel.specs.declared.Refusal.{Refusal}
use Rattle.panel.specs.declared.Refusal.TheVariants.{Loop}
use Rattle.panel.specs.Answers.{Reply}
use Rattle.std.specs.Prelude.{Ok, Err}
use Rattle.panel.specs.Items.{no_link, link_at}
use Rattle.panel.specs.Answers.{Answer, is_refusal, refused}
use Rattle.panel.specs.Panels.{waiting_link, with_link, with_setter, freed, dropped}
use Rattle.panel.specs.Solution.{reversed}
use Rattle.panel.specs.Steps.{accepted, drop_step, remove_step}
use Rattle.panel.specs.Commands.{Passes, remove_checks, add_checks, Command, adding, removing, performed}
use Rattle.panel.specs.Legal.{Legal}
use Rattle.panel.specs.Outcomes.{taken, PathOf, Decides}
use Rattle.panel.proofs.Legal.{holding_not_waiting}
use Rattle.panel.proofs.Checks.{checked_step}
use Rattle.tables.specs.Tables.{Tabled}
use Rattle.tables.proofs.Settings.{tabled_link}
use Rattle.reversal.specs.declared.Verdict.{Verdict}
use Rattle.reversal.specs.declared.Verdict.TheVariants.{Free, Looped, Path}
use Rattle.reversal.specs.Reversals.{Resolved, count_by, step_of}
use Rattle.fieldbytes.specs.Bytes.{FieldsOf}
use Rattle.adding.specs.Checks.{verdict_reply}
use Rattle.adding.proofs.Adding.{Entering, passed_entering, entry_refused, entry_done}
use Rattle.removing.specs.Settled.{Settles}
use Rattle.changing.specs.Changed.{reversed_by}
use Rattle.scanning.proofs.Dropped.{sets_holds}

-- the command c is accepted on the panel p and leaves q; the tables are that panel's, and the path buffer is whole
pub record Done (p : Panel) (c : Command) (levels others reads path : List ℕ) (q : Panel) : Type 0 where
  pub accepts : is_refusal (performed p c).reply ≡ false
  pub leaves : (performed p c).panel ≡ q
  pub tabled : Tabled q levels others reads
  pub full : length path ≡ 64

-- by a step that is accepted
done : (p : Panel) (k : ℕ) (c : Command) (path : List ℕ) (t : Verdict) (l : Link) (held : Standing) (n : ℕ) {levels others reads : List ℕ} {r : Panel}
    → Decides p k c path (step_of t p.size p.place l held n) → r ≡ reversed_by (freed (with_link p k l) held) t n path → Tabled r levels others reads
    → Done p c levels others reads path r
unfolding taken
done p k c path t l held n d e tab =
    record { accepts = ap is_refusal (sym d.reply); leaves = sym d.takes.panel ∙ sym e; tabled = tab; full = d.takes.path_of.full }

-- where it is no path, nothing is reversed
pub turned_free : (p : Panel) (t : Verdict) (c : ℕ) (path : List ℕ) → ((x y : ℕ) → t ≢ Path x y) → p ≡ reversed_by p t c path
unfolding reversed
turned_free p Free c path ne = refl
turned_free p Looped c path ne = refl
turned_free p (Path x y) c path ne = absurd (ne x y refl)

-- ---- a link is dropped

module _ (p : Panel) (h : Legal p) (id : ℕ) (small : id < 128) (passed : Passes (remove_checks p id)) where
  pub drop_waits : {levels others reads : List ℕ} → (link_at p.links id).standing ≡ Waiting → Tabled p levels others reads → (path : List ℕ) → length path ≡ 64
      → (q : Panel) → q ≡ with_link p id no_link → Done p (removing id) levels others reads path q
  unfolding remove_step dropped
  drop_waits {levels} {others} {reads} rests tab path long q same =
      let step : performed p (removing id) ≡ accepted p (with_link p id no_link) =
      checked_step p (remove_checks p id) (remove_step p id) passed ∙ ap (λ (s : Standing). drop_step p (freed (with_link p id no_link) s) s) rests in
      record {
        accepts = ap (λ (a : Answer). is_refusal a.reply) step;
        leaves = ap (λ (a : Answer). a.panel) step ∙ sym same;
        tabled =
            subst (λ (q : Panel). Tabled q levels others reads) (sym same) (tabled_link p id no_link (λ f l k e. holding_not_waiting (sets_holds p h id f small l e) rests) tab);
        full = long;
      }

  module _ (v : ℕ) (holds : (link_at p.links id).standing ≡ Holding v) where
    abbrev without : Panel
    without = with_setter (with_link p id no_link) v 128

    sets : at p.setter v ≡ id
    sets = h.holding_sets id v small holds

    pub without_tabled : {levels others reads : List ℕ} → Tabled (dropped p (at p.setter v)) levels others reads → {q : Panel} → q ≡ without
        → Tabled q levels others reads
    unfolding dropped
    without_tabled {levels} {others} {reads} t same =
        subst (λ (q : Panel). Tabled q levels others reads) (ap (dropped p) sets ∙ ap (freed (with_link p id no_link)) holds ∙ sym same) t

    module _ (path : List ℕ) (number : ℕ) (t : Verdict) (settled : Settles p (at p.setter v) v path number t) where
      own : Settles p id v path number t
      own = rw sets at settled

      decides : (t : Verdict) → Settles p id v path number t → t ≢ Looped → Decides p id (removing id) path (step_of t p.size p.place no_link (Holding v) number)
      decides Free d ne = d
      decides Looped d ne = absurd (ne refl)
      decides (Path count m) d ne = d

      pub drop_loops : t ≡ Looped → performed p (removing id) ≡ refused p Loop
      drop_loops e = (subst (Settles p id v path number) e own).0

      pub drop_path : t ≢ Looped → PathOf path (count_by t)
      drop_path ne = (decides t own ne).takes.path_of

      pub drop_reversed : t ≢ Looped → {levels others reads : List ℕ} {q : Panel} → q ≡ without → (r : Panel) → r ≡ reversed_by q t number path
          → Tabled r levels others reads → Done p (removing id) levels others reads path r
      drop_reversed ne same r e tab = done p id (removing id) path t no_link (Holding v) number (decides t own ne) (rw same at e) tab

-- ---- a link is entered

module _ (p : Panel) (h : Legal p) (id level : ℕ) (bytes : List ℕ) (c o : ℕ) (r : Bool) (f : FieldsOf bytes c o r)
    (passed : Passes (add_checks p id level bytes)) where
  pub enters : Entering p id level c o (adding id level bytes)
  enters = passed_entering p id level bytes c o r f h passed

  -- by the reply of the verdict
  module _ {levels others reads : List ℕ} (tab : Tabled p levels others reads) (path : List ℕ) (t : Verdict)
      (resolved : Resolved levels others p.size level o c reads path t) (reply : Reply) (is : reply ≡ verdict_reply t level) where
    pub enter_refused : (x : Refusal) → reply ≡ Err x → performed p (adding id level bytes) ≡ refused p x
    enter_refused x e = sym (entry_refused enters tab path t resolved x (sym is ∙ e)).0

    decided : (m : ℕ) → reply ≡ Ok m → Decides p id (adding id level bytes) path (step_of t p.size p.place (waiting_link level c o) Waiting id)
    decided m e = entry_done enters tab path t resolved m (sym is ∙ e) _ id _ refl refl refl

    pub enter_path : (m : ℕ) → reply ≡ Ok m → PathOf path (count_by t)
    enter_path m e = (decided m e).takes.path_of

    pub enter_reversed : (m : ℕ) → reply ≡ Ok m → {levels others reads : List ℕ} {q : Panel} → q ≡ with_link p id (waiting_link level c o) → (r : Panel)
        → r ≡ reversed_by q t id path → Tabled r levels others reads → Done p (adding id level bytes) levels others reads path r
    enter_reversed m e same r turned t' = done p id (adding id level bytes) path t _ Waiting id (decided m e) (rw same at turned) t'
