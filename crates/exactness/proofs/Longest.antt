-- A sheet whose text is as long as any: 64 fields with a value each, and 128 links of eight fields, each with a sum. Its text, that it is formed, and that
-- it is not unfit, are computed.
use mathlib.Core.Path.{◌≡◌, refl}
use mathlib.Core.Bool.{true, false, cond}
use lib.Dec.{eqb}
use lib.IntN.{pos}
use lib.ListN.{length}
use Rattle.std.specs.Prelude.{Some}
use Rattle.fieldset.specs.Numbers.{count, any, lowest}
use Rattle.fieldset.specs.Tables.{tabulate}
use Rattle.fieldset.specs.Fields.{member, size, within, below, set_of, only, with, without}
use Rattle.strength.specs.Strength.{greatest, strength}
use Rattle.ordering.specs.Order.{next, following, order, has_loop}
use Rattle.panel.specs.Items.{setter_of, is_in_force, items_of}
use Rattle.panel.specs.Solution.{strength_of, is_blocked, least, least_blocked, is_looped}
use Rattle.panel.specs.declared.Standing.TheVariants.{Waiting, Holding}
use Rattle.formulas.specs.declared.Formula.TheVariants.{Sum}
use Rattle.sheet.specs.declared.Sheet.{Sheet}
use Rattle.hexadecimal.specs.Hex.{line_of, hex_of, char_of}
use Rattle.frames.specs.Texts.{written}
use Rattle.values.specs.Words.{bits_of}
use Rattle.images.specs.Images.{gather, field_at, stay_order, field_bytes, frames_of, image_of}
use Rattle.images.specs.Forms.{every, is_whole, is_size, is_place, is_link, is_setter, is_rule, is_value, is_formed}
use Rattle.formulas.specs.Formulas.{accepted}
use Rattle.images.specs.Reading.{version, longest, is_short, is_unfit}

-- link 0 holds field 0, and the others, as strong as it, wait
unfoldable pub long_sheet : Sheet
long_sheet = record {
  panel = record {
    size = 64;
    links = tabulate (λ i. record { covered = 255; outputs = 1; level = 1; used = true; standing = cond (eqb i 0) (Holding 0) Waiting }) 128;
    place = tabulate (λ f. f) 64;
    setter = tabulate (λ f. cond (eqb f 0) 0 128) 64;
  };
  formulas = tabulate (λ i. Some (Sum 0)) 128;
  values = tabulate (λ f. pos 1) 64;
}

pub long_length : length (image_of version long_sheet) ≡ longest
unfolding long_sheet image_of frames_of written line_of hex_of char_of gather field_at stay_order field_bytes tabulate member lowest bits_of
long_length = refl

pub long_formed : is_formed long_sheet ≡ true
unfolding long_sheet is_formed every is_whole is_size is_place is_link is_setter is_rule is_value accepted gather field_at stay_order field_bytes tabulate member lowest bits_of count any within below size set_of only without
long_formed = refl

pub long_fit : is_unfit long_sheet.panel ≡ false
unfolding long_sheet is_unfit is_short is_looped has_loop order following next least_blocked least is_blocked strength_of strength greatest items_of setter_of is_in_force
    tabulate with without only within set_of member lowest any
long_fit = refl
