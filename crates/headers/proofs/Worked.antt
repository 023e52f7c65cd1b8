-- Every worked header holds of the definitions: they give its file its output. By computation; assumes nothing.
use mathlib.Core.Path.{refl}
use Rattle.fieldset.specs.Numbers.{count, any}
use Rattle.hexadecimal.specs.Characters.{characters}
use Rattle.hexadecimal.specs.Hex.{char_of, hex_of, line_of}
use Rattle.frames.specs.Texts.{written}
use Rattle.edf.specs.Texts.{are_spaces, is_decimal, digits_of, number_from, is_plain, is_text, is_flow, lower, is_unclear}
use Rattle.edf.specs.Header.{length_text, count_text, unit_text, flows_of, is_bad_header, has_unclear, refusal_for}
use Rattle.importing.specs.Imports.{flow_frames, import_output}
use Rattle.headers.specs.Worked.{filled, each, same, header, text_of, HoldHeaders, flows32, headers}

pub headers_hold : HoldHeaders headers
unfolding characters headers text_of flows32 header same each filled import_output flow_frames refusal_for has_unclear is_bad_header flows_of unit_text count_text length_text is_unclear
    lower is_flow is_text is_plain number_from digits_of is_decimal are_spaces written line_of hex_of char_of count any
headers_hold = (refl, (refl, (refl, (refl, (refl, (refl, (refl, (refl, (refl, (refl, (refl, (refl, (refl, (refl, (refl, (refl, (refl, (refl, (refl, (refl, (refl, (refl, (refl, (refl, (refl, (refl, (refl, (refl, (refl, (refl, (refl, (refl, tt))))))))))))))))))))))))))))))))
