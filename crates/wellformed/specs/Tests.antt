-- What the code tests of each field, and of each link's number.
use Rattle.std.specs.Prelude.{ℕ, Bool, not, ◌&&◌, ◌||◌, List, eqb, ltb, ℤ}
use Rattle.panel.specs.declared.Link.{Link}
use Rattle.panel.specs.declared.Panel.{Panel}
use Rattle.panel.specs.Items.{link_at}
use Rattle.values.specs.Limits.{outside}
use Rattle.values.specs.Words.{bits_of}
use Rattle.formulas.specs.Formulas.{Rule}
use Rattle.sheet.specs.Sheets.{formula_at}
use Rattle.images.specs.Forms.{is_place, is_link, holds, is_setter, is_rule, is_value}

-- the setter i of field f is its stay, or the link l, which is in use and holds f
abbrev pub setter_test : ℕ → Link → ℕ → Bool
setter_test i l f = eqb i 128 || (ltb i 128 && (l.used && holds l.standing f))

-- the value x of field f is within the limits, and zero past the n fields
abbrev pub value_test : ℕ → ℕ → ℤ → Bool
value_test n f x = not (outside x) && (ltb f n || eqb (bits_of x) 0)

unfoldable pub field_test : Panel → List ℤ → ℕ → Bool
field_test p values f = is_place p.place p.size f && (is_setter p.links p.setter f && is_value p.size values f)

unfoldable pub link_test : Panel → List Rule → ℕ → Bool
link_test p formulas i = is_link p.size p.setter i (link_at p.links i) && is_rule (link_at p.links i) (formula_at formulas i)
