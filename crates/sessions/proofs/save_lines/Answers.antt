-- `sessions::save_lines` meets its contract: the sheet that is saved is the one after the text, and it is legal.
use mathlib.Core.Path.{subst}
use Rattle.sheet.specs.declared.Sheet.{Sheet}
use Rattle.sheet.specs.Legal.{LegalSheet}
use Rattle.saving.specs.Saves.{SavedAs}
use Rattle.sessions.proofs.Saving.{saved_short}
use Rattle.sessions.proofs.save_lines.Goals as goal

pub returns : goal.returns
returns c =
    let is = c.sheet_after.ensures.0 in
    let as-saved = subst (λ (x : Sheet). SavedAs x c.args.out.now c.save.new.out c.save.result) is c.save.ensures in
    record {
      saved_as = as-saved;
      short = saved_short c.args.text.now c.args.out.now c.save.new.out c.requires c.save.result as-saved (subst LegalSheet is c.sheet_after.ensures.1);
    }

pub save-requires : goal.save-requires
save-requires c = c.sheet_after.ensures.1.panel.few
