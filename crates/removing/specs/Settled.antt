-- What is to be done once a link is dropped.
use Rattle.std.specs.Prelude.{ℕ, ◌≡◌, List, length}
use Rattle.panel.specs.declared.Standing.TheVariants.{Holding}
use Rattle.panel.specs.declared.Panel.{Panel}
use Rattle.panel.specs.declared.Refusal.TheVariants.{Loop}
use Rattle.panel.specs.Items.{no_link}
use Rattle.panel.specs.Answers.{refused}
use Rattle.panel.specs.Commands.{removing, performed}
use Rattle.panel.specs.Outcomes.{Decides}
use Rattle.reversal.specs.declared.Verdict.{Verdict}
use Rattle.reversal.specs.declared.Verdict.TheVariants.{Free, Looped, Path}
use Rattle.reversal.specs.Reversals.{step_of}

-- what a verdict for the item of this number says of the removal of link id, which holds v: "A loop refuses the whole removal", and else its step is the
-- verdict's
abbrev pub Settles : Panel → ℕ → ℕ → List ℕ → ℕ → Verdict → Type 0
Settles p id v path number Free = Decides p id (removing id) path (step_of Free p.size p.place no_link (Holding v) number)
Settles p id v path number Looped = (performed p (removing id) ≡ refused p Loop) × (length path ≡ 64)
Settles p id v path number (Path count set) = Decides p id (removing id) path (step_of (Path count set) p.size p.place no_link (Holding v) number)
