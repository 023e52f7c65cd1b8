-- `importing::import` meets its contract, by what the header gives: the lines of its flows, or a refusal's.
use mathlib.Core.Path.{◌≡◌, sym, ap, ◌∙◌}
use mathlib.Core.List.{List, ◌∷◌}
use mathlib.Core.Option.{none}
use Prim.Native.Nat.{ℕ}
use native.Mathlib.Omega.{arith}
use lib.ListN.{length}
use lib.Seq.{sets}
use Rattle.panel.specs.Answers.{refusal_bytes}
use Rattle.panel.proofs.Answers.{refusal_length}
use Rattle.hexadecimal.proofs.Bytes.{length_line}
use Rattle.frames.specs.Texts.{written}
use Rattle.edf.specs.Header.{flows_of, refusal_for}
use Rattle.edf.proofs.Checks.{flow_count, given_flows, given_refusal}
use Rattle.importing.specs.Imports.{frames_for, import_output}
use Rattle.importing.proofs.Flows.{flows_output, refused_output}
use Rattle.importing.proofs.import.Goals as goal
use Rattle.importing.proofs.import.Goals.{In-Ok}

-- ---- the places: the header is read; it has flows, or it is refused

flows : (c : In-Ok) → let f = c.args.file.now in (refusal_for f ≡ none) × (c.in-Ok.k ≡ flows_of f)
flows c = given_flows _ _ _ c.in-Ok.ensures

-- the lines of its flows are the output
flows-are : (file : List ℕ) (k : ℕ) → (refusal_for file ≡ none) × (k ≡ flows_of file) → written (frames_for k) ≡ import_output file
flows-are file k f = ap (λ (k : ℕ). written (frames_for k)) f.1 ∙ sym (flows_output file f.0)

-- ---- the goals

pub put_flows-requires : goal.put_flows-requires
put_flows-requires c = let f = flows (goal.at.put_flows-requires c).In-Ok in omega (arith, f.1, (flow_count _ f.0).1)

pub put_refusal-requires : goal.put_refusal-requires
put_refusal-requires c =
    let r = c.in-Err.r in
    omega (arith, length_line (0xFF ∷ refusal_bytes r), (refusal_length r).1)

pub returns-in-Ok : goal.returns-in-Ok
returns-in-Ok c =
    let e = flows-are _ _ (flows (goal.at.returns-in-Ok c).In-Ok) in
    record { out_after = c.put_flows.ensures.out_after ∙ ap (sets _ 0) e; value = c.put_flows.ensures.value ∙ ap length e }

pub returns-in-Err : goal.returns-in-Err
returns-in-Err c =
    let e = sym (refused_output _ _ (given_refusal _ _ _ c.in-Err.ensures)) in
    record { out_after = c.put_refusal.ensures.out_after ∙ ap (sets _ 0) e; value = omega (arith, c.put_refusal.ensures.value, ap length e) }
