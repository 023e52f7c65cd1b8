-- Which sheets have a text that is no BadImage. Quotations are of document 02, request 7.
use Rattle.std.specs.Prelude.{ℕ, zero, suc, ◌^◌, Bool, true, false, not, ◌&&◌, ◌||◌, cond, List, eqb, leb, ltb, ℤ, length, is_none}
use Rattle.fieldset.specs.Tables.{at}
use Rattle.fieldset.specs.Fields.{member, size, within, below}
use Rattle.panel.specs.declared.Standing.{Standing}
use Rattle.panel.specs.declared.Standing.TheVariants.{Waiting, Holding}
use Rattle.panel.specs.declared.Link.{Link}
use Rattle.panel.specs.Items.{link_at, is_waiting}
use Rattle.values.specs.Limits.{value_at, outside}
use Rattle.values.specs.Words.{bits_of}
use Rattle.formulas.specs.Formulas.{Rule, accepted}
use Rattle.sheet.specs.declared.Sheet.{Sheet}
use Rattle.sheet.specs.Sheets.{formula_at}
use Rattle.images.specs.Images.{field_at}

-- every number below n passes the test
unfoldable pub every : (ℕ → Bool) → ℕ → Bool
every p zero = true
every p (suc n) = every p n && p n

-- the tables have all their entries
unfoldable pub is_whole : Sheet → Bool
is_whole s =
    (eqb (length s.panel.links) 128 && eqb (length s.panel.place) 64)
    && ((eqb (length s.panel.setter) 64 && eqb (length s.formulas) 128) && eqb (length s.values) 64)

-- "numbers that the opening .. would refuse"
unfoldable pub is_size : ℕ → Bool
is_size n = leb 1 n && leb n 64

-- "stays not each once": each field has a place below n, and is the first there; past the fields the table is as at opening
unfoldable pub is_place : List ℕ → ℕ → ℕ → Bool
is_place place n f = cond (ltb f n) (ltb (at place f) n && eqb (field_at place n (at place f)) f) (eqb (at place f) f)

-- "a field held twice, a standing not among the outputs": a link that holds a field is the setter of that field, one of its outputs
abbrev pub is_standing : List ℕ → ℕ → ℕ → Standing → Bool
is_standing setter i outputs Waiting = true
is_standing setter i outputs (Holding f) = ltb f 64 && (member outputs f && eqb (at setter f) i)

-- "numbers that .. Add .. would refuse"; and a set of fields has 64 bits
abbrev pub fits_test : Link → Bool
fits_test l = ltb l.covered (2 ^ 64) && ltb l.outputs (2 ^ 64)

abbrev pub used_test : ℕ → Link → Bool
used_test n l =
    (leb l.level 15 && leb (size l.covered) 8) && (ltb 0 l.outputs && (within l.outputs l.covered && within l.covered (below n)))

-- a number not in use has the default link
abbrev pub unused_test : Link → Bool
unused_test l = (eqb l.covered 0 && eqb l.outputs 0) && (eqb l.level 0 && is_waiting l.standing)

unfoldable pub is_link : ℕ → List ℕ → ℕ → Link → Bool
is_link n setter i l = is_standing setter i l.outputs l.standing && cond l.used (fits_test l && used_test n l) (unused_test l)

abbrev pub holds : Standing → ℕ → Bool
holds Waiting f = false
holds (Holding g) f = eqb g f

-- a field's setter is its stay, or a link in use that holds it
unfoldable pub is_setter : List Link → List ℕ → ℕ → Bool
is_setter links setter f =
    let i = at setter f in
    eqb i 128 || (ltb i 128 && ((link_at links i).used && holds (link_at links i).standing f))

-- "numbers that .. kind 08 would refuse": there is no formula, or the link is in use and can be given it
unfoldable pub is_rule : Link → Rule → Bool
is_rule l formula = is_none formula || (l.used && accepted formula l.covered)

-- a value is within the limits; past the fields it is zero
unfoldable pub is_value : ℕ → List ℤ → ℕ → Bool
is_value n values f = not (outside (value_at values f)) && (ltb f n || eqb (bits_of (value_at values f)) 0)

unfoldable pub is_formed : Sheet → Bool
is_formed s =
    let p = s.panel in
    let n = p.size in
    (is_whole s && is_size n)
    && ((every (is_place p.place n) 64 && every (λ i. is_link n p.setter i (link_at p.links i)) 128)
    && ((every (is_setter p.links p.setter) 64 && every (λ i. is_rule (link_at p.links i) (formula_at s.formulas i)) 128)
    && every (is_value n s.values) 64))
