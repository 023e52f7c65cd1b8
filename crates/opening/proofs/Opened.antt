-- What an opening decides, by the reply of its checks. A refusal leaves the panel (`decides_refused`). An opening that passes changes the size alone:
-- a legal panel that is not open is the unopened one but for it (`opened_size`).
use mathlib.Core.Path.{◌≡◌, refl, ap}
use mathlib.Core.Bool.{true, false}
use mathlib.Core.List.{List}
use Prim.Native.Nat.{ℕ}
use lib.ListN.{length}
use Rattle.fieldset.proofs.Numbers.{clash}
use Rattle.panel.specs.declared.Link.{Link}
use Rattle.panel.specs.declared.Panel.{Panel}
use Rattle.panel.specs.Answers.{Reply}
use Rattle.std.specs.Prelude.{Ok, Err}
use Rattle.std.specs.Result.{is_ok}
use Rattle.panel.specs.declared.Step.{Step}
use Rattle.panel.specs.Items.{link_at}
use Rattle.panel.specs.Answers.{reply_bytes}
use Rattle.panel.specs.Steps.{open_step}
use Rattle.panel.specs.Commands.{check_reply, open_checks, opening, check_open}
use Rattle.panel.specs.Legal.{Legal}
use Rattle.panel.specs.Outcomes.{unchanged, Decides}
use Rattle.panel.proofs.Changes.{opened_size}
use Rattle.panel.proofs.Checks.{agree_same, reply_refused, reply_accepted, openable}
use Rattle.panel.proofs.Outcomes.{decides_size, decides_refused}

module _ (p : Panel) (n : ℕ) (reply : Reply) (named : Link) (k : ℕ) (same : named ≡ link_at p.links k) (path : List ℕ) (long : length path ≡ 64) (s : Step)
    (checks : reply_bytes reply ≡ check_reply (check_open p.size n)) where
  pub open_refused : (size : ℕ) → is_ok reply ≡ false → size ≡ p.size → s ≡ unchanged size p.place named reply → Decides p k (opening n) path s
  open_refused size refuses en is = go reply refl
    where
      go : (r : Reply) → reply ≡ r → Decides p k (opening n) path s
      go (Ok m) e = absurd (clash (ap is_ok e) refuses)
      go (Err x) e =
          decides_refused p k named reply (opening n) path long x s same e
          (reply_refused p (check_open p.size n) (open_checks p n) (open_step n) (agree_same (open_checks p n)) reply checks x e) (rw en at is)

  pub open_accepted : (size : ℕ) → Legal p → is_ok reply ≡ true → size ≡ n → s ≡ unchanged size p.place named reply → Decides p k (opening n) path s
  open_accepted size h accepts en is = go reply refl
    where
      go : (r : Reply) → reply ≡ r → Decides p k (opening n) path s
      go (Err x) e = absurd (clash accepts (ap is_ok e))
      go (Ok m) e =
          let (z, none, answer) = reply_accepted p (check_open p.size n) (open_checks p n) (open_step n) (agree_same (open_checks p n)) reply checks m e in
          let (closed, _, _) = openable p n none in
          rw (is, e, en, z) (decides_size p k named (Ok 0) same (opening n) path long n (open_step n) answer (opened_size p h closed n) refl refl)
