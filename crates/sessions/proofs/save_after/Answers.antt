-- `sessions::save_after` meets its contract: by cases on the text's length and on what saving answers.
use mathlib.Core.Path.{◌≡◌, sym, subst, ◌∙◌}
use mathlib.Core.Bool.{false}
use mathlib.Core.List.{◌∷◌}
use native.Mathlib.Omega.{arith}
use Rattle.hexadecimal.proofs.Bytes.{length_line}
use Rattle.panel.specs.declared.Refusal.TheVariants.{NotOpen}
use Rattle.panel.specs.Answers.{refusal_bytes}
use Rattle.sheet.specs.Sheets.{unopened}
use Rattle.lines.specs.Lines.{lines_of}
use Rattle.frames.specs.Texts.{is_too_long}
use Rattle.frames.specs.Frames.{sheet_after}
use Rattle.saving.specs.Saves.{SavedAs}
use Rattle.sessions.specs.Sessions.{Short}
use Rattle.sessions.proofs.Saving.{too_long_saved, length_saved, not_open_saved}
use Rattle.sessions.proofs.save_after.Goals as goal
use Rattle.sessions.proofs.save_after.Goals.{Else-is_too_long}

short : (c : Else-is_too_long) → is_too_long c.args.text.now ≡ false
short c = sym c.is_too_long.ensures ∙ c.if-is_too_long.false

pub returns-then-is_too_long : goal.returns-then-is_too_long
returns-then-is_too_long c =
    let w = too_long_saved c.args.text.now (sym c.is_too_long.ensures ∙ c.if-is_too_long.true) _ _ _ c.put_too_long.ensures.out_after c.put_too_long.ensures.value in
    record { out_after = w.0; value = w.1 }

pub save_lines-requires : goal.save_lines-requires
save_lines-requires c = short (goal.at.save_lines-requires c).Else-is_too_long

pub put_refusal-requires : goal.put_refusal-requires
put_refusal-requires c = omega (arith, length_line (0xFF ∷ refusal_bytes NotOpen))

pub returns-in-None : goal.returns-in-None
returns-in-None c =
    let s = c.args in
    let v = c.save_lines in
    let w =
    not_open_saved s.text.now s.out.now v.new.out (short (goal.at.returns-in-None c).Else-is_too_long)
    (subst (SavedAs (sheet_after unopened (lines_of s.text.now)) s.out.now v.new.out) c.in-None.is v.ensures.saved_as)
    _ _ c.put_refusal.ensures.out_after c.put_refusal.ensures.value
    in
    record { out_after = w.0; value = w.1 }

pub returns-in-Some : goal.returns-in-Some
returns-in-Some c =
    let s = c.args in
    let v = c.save_lines in
    let w =
    length_saved s.text.now s.out.now v.new.out (short (goal.at.returns-in-Some c).Else-is_too_long) c.in-Some.n
    (subst (SavedAs (sheet_after unopened (lines_of s.text.now)) s.out.now v.new.out) c.in-Some.is v.ensures.saved_as)
    (subst Short c.in-Some.is v.ensures.short)
    in
    record { out_after = w.0; value = w.1 }
