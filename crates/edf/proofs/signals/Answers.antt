-- `edf::signals` meets its contract: each check of BadHeader in turn, and then all of them together (`all_right`).
use mathlib.Core.Path.{◌≡◌, sym, ap, ◌∙◌}
use mathlib.Core.Bool.{true}
use mathlib.Core.List.{[], ◌∷◌}
use mathlib.Core.Logic.{◌⊎◌, ⊎_elim}
use Prim.Native.Nat.{ℕ, ◌<◌, ◌≤◌}
use native.Mathlib.Omega.{arith}
use borrow.Author.Tests.{not-true, not-false}
use Rattle.std.proofs.Common.{rules}
use Rattle.edf.specs.Texts.{is_plain}
use Rattle.edf.specs.Header.{count_text, count_of}
use Rattle.edf.specs.Answers.{number_values}
use Rattle.edf.proofs.Checks.{plain_read, other_read, length_is, says_length, no_block, too_short, not_plain, no_signal, too_many, wrong_length, all_right}
use Rattle.edf.proofs.signals.Goals as goal
use Rattle.edf.proofs.signals.Goals.{In_ok-n, then-file-length-via-then-file-length, then-file-length-via-else-file-length+then-ne}

-- ---- the place: the count is a plain number

count_is : (c : In_ok-n) → (is_plain (count_text c.args.file.now) ≡ true) × (c.in_ok-n.n ≡ count_of c.args.file.now)
unfolding count_text
count_is c = plain_read _ _ c.in_ok-n.ensures

-- ---- the goals

pub returns-then-file-lt-BLOCK : goal.returns-then-file-lt-BLOCK
returns-then-file-lt-BLOCK c = no_block _ c.if-file-lt-BLOCK.true

pub returns-in_err-n : goal.returns-in_err-n
unfolding count_text
returns-in_err-n c = ap number_values c.from_residual.ensures ∙ not_plain c.args.file.now (other_read _ c.in_err-n.ensures)

pub returns-then-not-contains : goal.returns-then-not-contains
returns-then-not-contains c =
    let n = (count_is (goal.at.returns-then-not-contains c).In_ok-n).1 in
    let out : (c.in_ok-n.n < 1) ⊎ (254 < c.in_ok-n.n) = search rules in
    ⊎_elim (λ h. no_signal _ (omega (arith, h, n))) (λ h. too_many _ (omega (arith, h, n))) out

pub returns-then-file-length : goal.returns-then-file-length
returns-then-file-length c =
    let f = c.args.file.now in
    let n = (count_is (goal.at.returns-then-file-length c).In_ok-n).1 in
    elim c.then-file-length.branch [
      | then-file-length-via-then-file-length w ↦ too_short f (omega (arith, w.if-file-length.true, n))
      | then-file-length-via-else-file-length+then-ne w ↦
          let h = says_length f _ _ _ w.read_number-else-file-length.ensures (length_is f) n in
          wrong_length f (sym h ∙ not-true _ (sym w.ne.ensures ∙ w.if-ne.true))
    ]

pub returns : goal.returns
returns c =
    let f = c.args.file.now in
    let n = count_is (goal.at.returns c).In_ok-n in
    let within : (1 ≤ c.in_ok-n.n) × (c.in_ok-n.n ≤ 254) = search rules in
    let h = says_length f _ _ _ c.read_number-else-file-length.ensures (length_is f) n.1 in
    ap (λ (x : ℕ). x ∷ []) n.1
    ∙ all_right f (record {
      long = omega (arith, c.if-file-length.false, n.1);
      plain = n.0;
      some_signal = omega (arith, within.0, n.1);
      few_signals = omega (arith, within.1, n.1);
      bytes = sym h ∙ not-false _ (sym c.ne.ensures ∙ c.if-ne.false);
    })
