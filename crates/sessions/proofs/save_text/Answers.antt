-- `sessions::save_text` meets its contract: by cases on the text's length and on what saving answers.
use mathlib.Core.Path.{◌≡◌, sym, ◌∙◌}
use mathlib.Core.Bool.{false}
use Rattle.frames.specs.Texts.{is_too_long}
use Rattle.sessions.proofs.Saving.{too_long_text, text_told}
use Rattle.sessions.proofs.save_text.Goals as goal
use Rattle.sessions.proofs.save_text.Goals.{Else-is_too_long}

short : (c : Else-is_too_long) → is_too_long c.args.text.now ≡ false
short c = sym c.is_too_long.ensures ∙ c.if-is_too_long.false

pub returns-then-is_too_long : goal.returns-then-is_too_long
returns-then-is_too_long c =
    let s = c.args in
    let w = too_long_text s.text.now s.out.now (sym c.is_too_long.ensures ∙ c.if-is_too_long.true) in
    record { out_after = w.0; value = w.1 }

pub save_lines-requires : goal.save_lines-requires
save_lines-requires c = short (goal.at.save_lines-requires c).Else-is_too_long

pub returns : goal.returns
returns c =
    let s = c.args in
    let v = c.save_lines in
    let w = text_told s.text.now s.out.now v.new.out (short (goal.at.returns c).Else-is_too_long) v.result v.ensures.saved_as in
    record { out_after = w.0; value = c.unwrap_or.ensures ∙ w.1 }
