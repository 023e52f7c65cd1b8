-- Each sham panel's output differs from document 01's: at the first character that is another, by computing both outputs. Assumes nothing.
use mathlib.Core.Path.{◌≡◌, refl, ap}
use mathlib.Core.Bool.{false}
use mathlib.Core.Logic.{◌≢◌}
use mathlib.Core.List.{List}
use Prim.Native.Nat.{ℕ}
use lib.Dec.{eqb}
use lib.ListN.{length}
use borrow.Author.Tests.{eqb-false}
use Rattle.fieldset.specs.Numbers.{count, any, lowest}
use Rattle.fieldset.specs.Tables.{at, tabulate}
use Rattle.fieldset.specs.Fields.{member, set_of, with, without, union, only, meets, within, size}
use Rattle.strength.specs.Strength.{greatest, strength, lowest_at, strongest, path}
use Rattle.ordering.specs.Order.{next, following, order, has_loop}
use Rattle.downstream.specs.Downstream.{readers, spreading, spread}
use Rattle.panel.specs.Items.{setter_of, is_in_force}
use Rattle.panel.specs.Panels.{opened, to_front}
use Rattle.panel.specs.Solution.{strength_of, is_blocked, path_for, reversed, plan_of, is_looped, rows_of}
use Rattle.panel.specs.Moved.{turned, redrawn, moved}
use Rattle.panel.specs.Steps.{reverse_step, enter_step, touch_step, plan_step}
use Rattle.panel.specs.Commands.{any_of, fields_in, is_rising, are_field_bytes, checked}
use Rattle.hexadecimal.specs.Hex.{is_digit, digit_of, char_of, are_digits, is_hex, bytes_of, hex_of, line_of}
use Rattle.lines.specs.Lines.{lines_of}
use Rattle.frames.specs.Texts.{replies, written, output, output_of}
use Rattle.frames.specs.Frames.{fits_formula, fits_kind, is_frame, checked_frame, frame_of, command_of, line_answer}
use Rattle.hexadecimal.specs.Characters.{characters}
use Rattle.acceptance.specs.ShamPanels.{refuses_all, replies_zeros, keeps_setters, solves_first_link_only, invents_moved, sham_panels, ShamPanelsDiffer}

-- outputs with another character at a place
differ_at : (place : ℕ) (a b : List ℕ) → eqb (at a place) (at b place) ≡ false → a ≢ b
differ_at place a b h e = eqb-false (at a place) (at b place) h (ap (λ (o : List ℕ). at o place) e)

-- at the first character that is another
pub sham_panels_differ : ShamPanelsDiffer
unfolding characters sham_panels refuses_all replies_zeros keeps_setters solves_first_link_only invents_moved output_of output written replies lines_of
    line_answer command_of frame_of checked_frame is_frame fits_kind fits_formula line_of hex_of bytes_of is_hex are_digits char_of digit_of is_digit checked
    are_field_bytes is_rising fields_in any_of plan_step touch_step enter_step reverse_step rows_of is_looped plan_of reversed path_for is_blocked strength_of moved
    redrawn turned spread spreading readers union meets size to_front opened setter_of is_in_force tabulate has_loop order following next path strongest
    lowest_at strength greatest within only without with set_of member lowest any count
sham_panels_differ =
    (differ_at 0 _ _ refl, (differ_at 8 _ _ refl, (differ_at 16 _ _ refl, (differ_at 22 _ _ refl, (differ_at 8 _ _ refl, tt)))))

-- there are five
pub sham_panels_five : length sham_panels ≡ 5
unfolding sham_panels
sham_panels_five = refl
