-- `panel_c::panel_run_text` meets its contract: the number that stands for the outcome is the output's length, from what `text::run_text` tells.
use mathlib.Core.Path.{◌∙◌}
use Rattle.sheet.specs.Sheets.{unopened}
use Rattle.frames.specs.Frames.{line_answer}
use Rattle.panel_c.proofs.Told.{told_length}
use Rattle.panel_c.proofs.panel_run_text.Goals as goal

pub returns : goal.returns
returns c =
    let r = c.run_text in
    record {
      value = c.length_of.ensures ∙ told_length line_answer unopened c.args.tally.now c.args.text.now r.result r.ensures.outcome;
      out_after = r.ensures.buffer;
      tally_after = r.ensures.tally;
    }
