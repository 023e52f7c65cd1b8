-- `panel_resume::refuse` meets its contract: of a refused reading the reply's line is the whole output (`refused_resumed`). Assumes nothing.
use mathlib.Core.Path.{◌≡◌, sym, ap, ◌∙◌, subst}
use mathlib.Core.List.{List}
use Prim.Native.Nat.{ℕ}
use lib.ListN.{length}
use Rattle.std.specs.Prelude.{IfOk, IfErr}
use Rattle.hexadecimal.specs.Hex.{line_of}
use Rattle.sheet.specs.Sheets.{unopened}
use Rattle.images.specs.Reading.{read}
use Rattle.sessions.specs.Sessions.{resumed_output}
use Rattle.sessions.proofs.Resuming.{refused_resumed}
use Rattle.panel_resume.proofs.refuse.Given.{Over}
use Rattle.panel_resume.proofs.refuse.Goals as goal
use Rattle.panel_resume.proofs.refuse.Goals.{After-tell}

whole : (g : Over) (c : After-tell g) (text : List ℕ) → length (line_of (read unopened c.args.saved.now).reply) ≡ length (resumed_output c.args.saved.now text)
whole g c text =
    ap (λ (x : List ℕ). length (line_of x)) (sym c.requires.0) ∙ sym (ap length (refused_resumed c.args.saved.now text c.args.refusal c.requires.0 c.requires.1))

pub returns : goal.returns
returns g c = record {
  written = λ text. subst (λ (k : ℕ). IfOk c.tell.result (λ n. n ≡ k)) (whole g (goal.at.returns g c).After-tell text) c.tell.ensures.written;
  unwritten = λ text. subst (λ (k : ℕ). IfErr c.tell.result (λ x. x.len ≡ k)) (whole g (goal.at.returns g c).After-tell text) c.tell.ensures.unwritten;
}
