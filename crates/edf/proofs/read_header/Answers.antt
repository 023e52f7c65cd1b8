-- `edf::read_header` meets its contract: the refusals in their order, and then the flows.
use mathlib.Core.Path.{◌≡◌, sym, ap, subst, ◌∙◌}
use mathlib.Core.Bool.{Bool, true, false}
use mathlib.Core.List.{List}
use mathlib.Core.Logic.{◌⊎◌, ⊎_elim}
use Prim.Native.Nat.{ℕ, ◌<◌, ◌≤◌}
use native.Mathlib.Omega.{arith}
use lib.ListN.{length}
use Rattle.std.specs.Prelude.{Err}
use Rattle.std.proofs.Common.{rules}
use Rattle.panel.specs.declared.Refusal.TheVariants.{BadHeader, UnclearUnit}
use Rattle.fieldset.specs.Numbers.{count, any}
use Rattle.edf.specs.Texts.{is_flow, is_unclear}
use Rattle.edf.specs.Header.{count_of, header_length, unit_text, flows_of, is_bad_header, has_unclear}
use Rattle.edf.specs.Answers.{number_values, header_bytes}
use Rattle.edf.proofs.Checks.{no_header, some_header, header_right, bad_header, unclear_unit, no_flow, many_flows, some_flows}
use Rattle.edf.proofs.read_header.Goals as goal
use Rattle.edf.proofs.read_header.Goals.{In_ok-n, In_ok-flows}

-- ---- the places: the signals are counted; no unit is unclear

-- the header is not refused with BadHeader, and its number of signals is known
header : (c : In_ok-n) → (is_bad_header c.args.file.now ≡ false) × (c.in_ok-n.n ≡ count_of c.args.file.now)
header c = some_header _ _ (sym (ap number_values c.in_ok-n.ensures.ok_part) ∙ c.signals.ensures)

-- what the units of the signals are
flows-are : (file : List ℕ) (n k : ℕ) → n ≡ count_of file → k ≡ count (λ j. is_flow (unit_text file n j)) n → k ≡ flows_of file
unfolding flows_of
flows-are file n k e h = h ∙ ap (λ (n : ℕ). count (λ j. is_flow (unit_text file n j)) n) e

unclear-is : (file : List ℕ) (n : ℕ) (b : Bool) → n ≡ count_of file → any (λ j. is_unclear (unit_text file n j)) n ≡ b → has_unclear file ≡ b
unfolding has_unclear
unclear-is file n b e h = ap (λ (n : ℕ). any (λ j. is_unclear (unit_text file n j)) n) (sym e) ∙ h

record Clear (file : List ℕ) (k : ℕ) : Type 0 where
  good : is_bad_header file ≡ false
  clear : has_unclear file ≡ false
  flows : k ≡ flows_of file

clear : (c : In_ok-flows) → Clear c.args.file.now c.in_ok-flows.flows
clear c =
    let h = some_header c.args.file.now _ (sym (ap number_values c.in_ok-n.ensures.ok_part) ∙ c.signals.ensures) in
    let units = rw c.in_ok-flows.ensures.ok_part at c.read_units.ensures in
    record { good = h.0; clear = unclear-is _ _ false h.1 units.0; flows = flows-are _ _ _ h.1 units.1 }

-- ---- the goals

pub returns-in_err-n : goal.returns-in_err-n
returns-in_err-n c =
    let r : c.from_residual.result ≡ Err BadHeader = search rules in
    ap header_bytes r ∙ bad_header _ (no_header _ (sym (ap number_values c.in_err-n.ensures.ok_part) ∙ c.signals.ensures))

pub read_units-requires : goal.read_units-requires
read_units-requires c =
    let h = header (goal.at.read_units-requires c).In_ok-n in
    subst (λ (n : ℕ). header_length n ≤ length c.args.file.now) (sym h.1) (header_right _ h.0).long

pub returns-in_err-flows : goal.returns-in_err-flows
returns-in_err-flows c =
    let h = header (goal.at.returns-in_err-flows c).In_ok-n in
    let r : c.from_residual-in_err-flows.result ≡ Err UnclearUnit = search rules in
    ap header_bytes r ∙ unclear_unit _ h.0 (unclear-is _ _ true h.1 (rw c.in_err-flows.ensures.ok_part at c.read_units.ensures))

pub returns-then-not-contains : goal.returns-then-not-contains
returns-then-not-contains c =
    let h = clear (goal.at.returns-then-not-contains c).In_ok-flows in
    let out : (c.in_ok-flows.flows < 1) ⊎ (32 < c.in_ok-flows.flows) = search rules in
    ⊎_elim (λ x. no_flow _ h.good h.clear h.flows (omega arith)) (many_flows _ h.good h.clear h.flows) out

pub returns : goal.returns
returns c =
    let h = clear (goal.at.returns c).In_ok-flows in
    let within : (1 ≤ c.in_ok-flows.flows) × (c.in_ok-flows.flows ≤ 32) = search rules in
    some_flows _ h.good h.clear h.flows (λ e. omega arith) within.1
