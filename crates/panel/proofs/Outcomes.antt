-- Steps: what a step leaves as it was, and the step that leaves the panel as it is. The step that frees nothing and reverses nothing gives the
-- altered panel (`taken_still`); the link of the number put back, that is the panel before but for its size (`altered_size`).
use Prim.Native.Nat.{ℕ}
use mathlib.Core.Path.{◌≡◌, refl, sym, ap, ◌∙◌, subst}
use mathlib.Core.List.{List}
use mathlib.Core.Logic.{inl}
use native.Mathlib.Omega.{arith}
use lib.ListN.{length}
use lib.Seq.{set-get_or}
use Rattle.panel.specs.declared.Standing.{Standing}
use Rattle.panel.specs.declared.Standing.TheVariants.{Waiting, Holding}
use Rattle.panel.specs.declared.Link.{Link}
use Rattle.panel.specs.declared.Panel.{Panel}
use Rattle.panel.specs.declared.Refusal.{Refusal}
use Rattle.panel.specs.Answers.{Reply}
use Rattle.std.specs.Prelude.{Err}
use Rattle.panel.specs.declared.Step.{Step}
use Rattle.panel.specs.Items.{no_link, link_at}
use Rattle.panel.specs.Answers.{Answer, refused, reply_bytes}
use Rattle.panel.specs.Panels.{freed}
use Rattle.panel.specs.Solution.{reversed}
use Rattle.panel.specs.Commands.{Command, performed}
use Rattle.panel.specs.Outcomes.{unchanged, altered, taken, Takes, Uncounted, Decides}
use Rattle.panel.proofs.Reversed.{reversed_place}
use Rattle.panel.proofs.Legal.{holding_not_waiting}
use Rattle.panel.proofs.Moved.{turned_none, counted_still}

-- the places are the step's
pub taken_place : (p : Panel) (k : ℕ) (s : Step) (path : List ℕ) → (taken p k s path).place ≡ s.place
unfolding taken
taken_place p k s path = reversed_place (freed (altered p k s) s.freed) _ _ ∙ free s.freed
  where
    free : (t : Standing) → (freed (altered p k s) t).place ≡ s.place
    free Waiting = refl
    free (Holding v) = refl

-- what is freed changes no link
pub freed_links : (p : Panel) (s : Standing) → (freed p s).links ≡ p.links
freed_links p Waiting = refl
freed_links p (Holding v) = refl

-- a step that frees no field and reverses no path
pub taken_still : (p : Panel) (k : ℕ) (s : Step) (path : List ℕ) → s.freed ≡ Waiting → s.setter ≡ 128 → s.count ≡ 0 → taken p k s path ≡ altered p k s
unfolding taken reversed
taken_still p k s path ef es ec = rw (ef, es, ec)

-- the link of the number k is as it was
module _ (p : Panel) (k : ℕ) (named : Link) (reply : Reply) (same : named ≡ link_at p.links k) where
  pub altered_size : (n : ℕ) → altered p k (unchanged n p.place named reply) ≡ record { size = n; links = p.links; place = p.place; setter = p.setter }
  altered_size n = ap (λ (l : List Link). record { size = n; links = l; place = p.place; setter = p.setter }) (rw same (set-get_or p.links k no_link))

  -- the panel with so many fields, and no other setter
  pub takes_size : (path : List ℕ) → length path ≡ 64 → (n : ℕ) (after : Panel)
      → record { size = n; links = p.links; place = p.place; setter = p.setter } ≡ after
      → Takes p k path (unchanged n p.place named reply) after
  takes_size path long n after e =
      let s = unchanged n p.place named reply in
      record {
        panel = taken_still p k s path refl refl refl ∙ altered_size n ∙ e;
        changed = sym (turned_none p after (ap (λ (q : Panel). q.setter) (sym e)));
        still = λ z. (refl, refl, refl);
        path_of = record { full = long; few = omega arith; fields = λ i l. absurd (omega arith) };
        freed_field = λ v e. absurd (holding_not_waiting e refl);
        freed_turns = λ v e. absurd (holding_not_waiting e refl);
        keeps = λ f l e. inl same;
      }

  pub decides_size : (c : Command) (path : List ℕ) → length path ≡ 64 → (n : ℕ) (a : Answer) → performed p c ≡ a
      → record { size = n; links = p.links; place = p.place; setter = p.setter } ≡ a.panel → reply_bytes reply ≡ a.reply → Uncounted reply
      → Decides p k c path (unchanged n p.place named reply)
  decides_size c path long n a e panel answer zero = record {
    takes = takes_size path long n (performed p c).panel (panel ∙ ap (λ (x : Answer). x.panel) (sym e));
    reply =
        ap reply_bytes (counted_still reply (performed p c).panel)
        ∙ answer ∙ ap (λ (x : Answer). x.reply) (sym e);
    uncounted = zero;
    unvalued = refl;
  }

  -- the panel as it is
  pub decides_unchanged : (c : Command) (path : List ℕ) → length path ≡ 64 → (a : Answer) → performed p c ≡ a → p ≡ a.panel → reply_bytes reply ≡ a.reply
      → Uncounted reply → Decides p k c path (unchanged p.size p.place named reply)
  decides_unchanged c path long a e panel answer zero = decides_size c path long p.size a e panel answer zero

-- a refusal
pub decides_refused : (p : Panel) (k : ℕ) (named : Link) (reply : Reply) (c : Command) (path : List ℕ) → length path ≡ 64 → (x : Refusal) (s : Step)
    → named ≡ link_at p.links k → reply ≡ Err x
    → refused p x ≡ performed p c → s ≡ unchanged p.size p.place named reply → Decides p k c path s
decides_refused p k named reply c path long x s same is e eq =
    rw eq (decides_unchanged p k named reply same c path long (refused p x) (sym e) refl (ap reply_bytes is) (subst Uncounted (sym is) tt))
