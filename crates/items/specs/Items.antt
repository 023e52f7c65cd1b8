-- The items that document 01, "Neighbouring commands", marks P: the text of each, and its whole output. A "then" item goes on from the text
-- before it. Where an item speaks of setters, standings or strengths, its text has a plan there, whose reply has for each field its number, its
-- setter and its strength.
use Rattle.std.specs.Prelude.{ℕ, ◌≡◌, List, [], ◌∷◌, map}
use Prim.Native.String.{String}
use Rattle.frames.specs.Frames.{panel_output}
use Rattle.hexadecimal.specs.Characters.{characters}

pub record Item : Type 0 where
  pub text : String
  pub output : String

abbrev pub item : String → String → Item
item t o = record { text = t; output = o }

-- document 01's definitions give each text its output
abbrev pub Hold : List Item → Type 0
Hold is = map (λ i. panel_output (characters i.text)) is ≡ map (λ i. characters i.output) is

unfoldable pub items : List Item
items =
    -- "0101 is accepted; 0100 gives FF05. 0140 accepted, 0141 FF05."
    item "0101\n" "0000\nEE00000100000100000000\n"
    ∷ item "0100\n" "FF05\nEE00000100000000000105\n"
    ∷ item "0140\n" "0000\nEE00000100000100000000\n"
    ∷ item "0141\n" "FF05\nEE00000100000000000105\n"
    -- "0102, 0200008081, 02010080: .. Field 0 has strength 16, so it is taken, .., field 0's stay waits"; "link 1 is permitted only field 0 now gives
    -- moved 2" (document 02, request 6)
    ∷ item "0102\n0200008081\n05\n02010080\n05\n" "0000\n0001\n0002008010010010\n0002\n0002000100010000\nEE00000500000500000000\n"
    -- "0102, 02000081 then 02010081: second reply FF0A."
    ∷ item "0102\n02000081\n02010081\n" "0000\n0001\nFF0A\nEE0000030000020000010A\n"
    -- "0102, 0200000081 .., then 0201008001 ..: FF0B, and the plan still gives field 0 its stay."
    ∷ item "0102\n0200000081\n0201008001\n05\n" "0000\n0001\nFF0B\n0002008010010000\nEE0000040000030000010B\n"
    -- "0101, 02000580, 02010580: second accepted, moved 0, waiting."
    ∷ item "0101\n02000580\n02010580\n05\n" "0000\n0001\n0000\n0001000005\nEE00000400000400000000\n"
    -- "then 02020480: moved 1, link 0 waits."
    ∷ item "0101\n02000580\n02010580\n02020480\n05\n" "0000\n0001\n0000\n0001\n0001000204\nEE00000500000500000000\n"
    -- "then 0302: link 0, not link 1, holds field 0; moved 1."
    ∷ item "0101\n02000580\n02010580\n02020480\n0302\n05\n" "0000\n0001\n0000\n0001\n0001\n0001000005\nEE00000600000600000000\n"
    -- "0101, 0400: moved 0."
    ∷ item "0101\n0400\n" "0000\n0000\nEE00000200000200000000\n"
    -- "05 before opening: FF04. 0102 twice: second FF03."
    ∷ item "05\n" "FF04\nEE00000100000000000104\n"
    ∷ item "0102\n0102\n" "0000\nFF03\nEE00000200000100000103\n"
    -- "0102, 02000000 (no output): FF06; 0102, 020000C0: FF02."
    ∷ item "0102\n02000000\n" "0000\nFF06\nEE00000200000100000106\n"
    ∷ item "0102\n020000C0\n" "0000\nFF02\nEE00000200000100000102\n"
    ∷ []

-- their texts: ten items are marked P, of which the first has four texts and the last two have two each
abbrev pub item_count : ℕ
item_count = 15
