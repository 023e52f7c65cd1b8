-- The checks of a link that is added or changed, over its numbers, and of the verdict on it.
use Rattle.std.specs.Prelude.{ℕ, Bool, true, false, not, ◌||◌, cond, List, [], ◌∷◌, eqb, ltb, Option, Some, None, Ok, Err}
use Rattle.fieldset.specs.Fields.{size, below, within}
use Rattle.panel.specs.declared.Refusal.{Refusal}
use Rattle.panel.specs.declared.Refusal.TheVariants.{NotOpen, BadLink, NoSuchField, Conflict, Loop}
use Rattle.panel.specs.Answers.{Reply}
use Rattle.panel.specs.Commands.{Check, check}
use Rattle.reversal.specs.declared.Verdict.{Verdict}
use Rattle.reversal.specs.declared.Verdict.TheVariants.{Free, Looped, Path}

-- the numbers of a link, its covered fields by their count, its outputs, and whether its fields do not rise or have bit 6: no link's
abbrev pub is_bad_link : ℕ → ℕ → ℕ → ℕ → Bool → Bool
is_bad_link id level covered outputs rising =
    ltb 127 id || ltb 15 level || not rising || eqb (size covered) 0 || ltb 8 (size covered) || eqb outputs 0

-- the check of a link's number, by the refusal that applies; where none does, its refusal does not matter
abbrev pub number_check : Option Refusal → Check
number_check (Some x) = check true x
number_check None = check false BadLink

-- the checks of a link for a panel of n fields (`link_checks`), with the one of its number
abbrev pub check_link : ℕ → ℕ → ℕ → ℕ → ℕ → Bool → Check → List Check
check_link n id level covered outputs rising number =
    check (not (ltb 0 n)) NotOpen
    ∷ check (is_bad_link id level covered outputs rising) BadLink
    ∷ check (not (within covered (below n))) NoSuchField
    ∷ number
    ∷ []

-- "If it is not blocked: at level 0 refuse with Conflict, else accept. If it is blocked, .. If the result has a loop, refuse with Loop"
abbrev pub verdict_reply : Verdict → ℕ → Reply
verdict_reply Free level = cond (eqb level 0) (Err Conflict) (Ok 0)
verdict_reply Looped level = Err Loop
verdict_reply (Path count set) level = Ok 0
