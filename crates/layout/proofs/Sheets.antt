-- The sheet of a well-formed image: it is formed (`sheet_facts`), and its image is this image (`image_back`). Its tables are the lookups of the lines by
-- their numbers. Assumes nothing.
use Prim.Native.Nat.{ℕ, ◌+◌, ◌/◌, ◌%◌, ◌≤◌, ◌<◌}
use mathlib.Core.Path.{◌≡◌, refl, sym, ap, ap₂, subst, ◌∙◌}
use mathlib.Core.Bool.{Bool, true, false, not, ◌&&◌, ◌||◌, cond, or-true}
use mathlib.Core.List.{List, [], ◌∷◌, map}
use mathlib.Core.Logic.{◌≢◌, ◌⊎◌, inl, inr}
use native.Mathlib.Omega.{arith}
use borrow.Author.Tests.{lt-ltb, le-ltb, ltb-true, ltb-false, eq-eqb, ne_eqb, eqb-true, eqb-false, not-true, not-false}
use lib.Dec.{eqb, leb, ltb}
use lib.IntN.{ℤ, pos}
use lib.ListN.{length, get_or}
use lib.Seq.{ext_get_or}
use mir.Syntax.{w32}
use mir.Val.{SFits}
use Rattle.std.specs.Prelude.{Some, None, is_none}
use Rattle.fieldset.specs.Tables.{at, tabulate}
use Rattle.fieldset.specs.Lists.{In, All, Distinct, passing, place}
use Rattle.fieldset.specs.Fields.{member}
use Rattle.fieldset.proofs.Tests.{and_left, and_right, and_both, or_left, or_right}
use Rattle.fieldset.proofs.Numbers.{clash, lowest_unique}
use Rattle.fieldset.proofs.Tables.{length_tabulate, get_d_tabulate}
use Rattle.fieldset.proofs.Lists.{all_in, in_all, all_map, all_at, in_passing, passing_in, passing_map, whole_in, place_in}
use Rattle.panel.specs.declared.Standing.TheVariants.{Waiting, Holding}
use Rattle.panel.specs.declared.Link.{Link}
use Rattle.panel.specs.Items.{no_link, link_at}
use Rattle.panel.specs.Panels.{opened}
use Rattle.panel.specs.Commands.{field_of, is_output, has_bit6, any_of, covered_in, outputs_in, is_rising, are_field_bytes, Passes, add_checks}
use Rattle.panel.specs.Legal.{Formed}
use Rattle.panel.proofs.Checks.{field_small, member_fields, addable}
use Rattle.values.specs.Limits.{outside}
use Rattle.values.specs.Words.{bits_of}
use Rattle.formulas.specs.declared.Formula.TheVariants.{Ratio, Sum}
use Rattle.formulas.specs.Formulas.{Rule, accepted}
use Rattle.sheet.specs.declared.Sheet.{Sheet}
use Rattle.sheet.specs.Sheets.{formula_at}
use Rattle.sheet.specs.Legal.{Fits}
use Rattle.images.specs.Images.{field_at, stay_order, field_byte, field_bytes, standing_byte}
use Rattle.images.specs.Entries.{standing_of}
use Rattle.images.proofs.FieldBytes.{field_byte_lem}
use Rattle.images.proofs.Facts.{Facts, HoldFacts, SetFacts, value_small, zero_value}
use Rattle.layout.specs.Layout.{LinkLine, FormulaLine, ValueLine, Image, Rising, Relates, WellFormed}
use Rattle.layout.proofs.Rising.{rising_distinct, once, listed, listed_is, table, Looked, table_is, table_in, table_back, place_of, at_place}
use Rattle.layout.proofs.Images.{line_of, link_line, is_line, rule_line, is_ruled, value_line, is_valued, image_from, zero_bits}

-- ---- field bytes that pass Add's checks are those of their sets

any_of_lem : (q : ℕ → Bool) (bytes : List ℕ) (b : ℕ) → In b bytes → q b ≡ true → any_of q bytes ≡ true
unfolding any_of
any_of_lem q [] b x'' t = elim x'' [ ]
any_of_lem q (a ∷ bs) b (inl e) t = rw (← e, t)
any_of_lem q (a ∷ bs) b (inr m) t = rw (any_of_lem q bs b m t) (or-true (q a))

of_any : (q : ℕ → Bool) (bytes : List ℕ) → any_of q bytes ≡ true → (b : ℕ) × In b bytes × (q b ≡ true)
unfolding any_of
of_any q [] t = absurd (clash t refl)
of_any q (a ∷ bs) t = go (q a) refl (of_any q bs)
  where
    go : (x : Bool) → q a ≡ x → (any_of q bs ≡ true → (b : ℕ) × In b bs × (q b ≡ true)) → (b : ℕ) × In b (a ∷ bs) × (q b ≡ true)
    go true e ih = (a, inl refl, e)
    go false e ih = let (b, m, k) = ih (rw e at t) in (b, inr m, k)

fields_rising : (bytes : List ℕ) → is_rising bytes ≡ true → Rising (map field_of bytes)
unfolding is_rising Rising
fields_rising [] e = tt
fields_rising (a ∷ []) e = (tt, tt)
fields_rising (a ∷ b ∷ bs) e =
    let l : field_of a < field_of b = ltb-true (field_of a) (field_of b) (and_left _ (is_rising (b ∷ bs)) e) in
    let r = fields_rising (b ∷ bs) (and_right (ltb (field_of a) (field_of b)) _ e) in
    ((l, all_map (λ c. field_of b < c) (λ c. field_of a < c) (λ c k. omega arith) (map field_of bs) r.0), r)

module _ (bytes : List ℕ) (rise : Rising (map field_of bytes)) (small : All (λ b. b < 256) bytes) (no_bit6 : any_of has_bit6 bytes ≡ false) where
  is_covered : (b : ℕ) → In b bytes → member (covered_in bytes) (field_of b) ≡ true
  is_covered b m =
      member_fields (λ c. true) bytes (field_of b) (field_small b)
      ∙ any_of_lem (λ c. true && eqb (field_of b) (field_of c)) bytes b m (eq-eqb (field_of b) (field_of b) refl)

  is_output_lem : (b : ℕ) → In b bytes → member (outputs_in bytes) (field_of b) ≡ is_output b
  is_output_lem b m = member_fields is_output bytes (field_of b) (field_small b) ∙ go (is_output b) refl
    where
      out : ℕ → Bool
      out c = is_output c && eqb (field_of b) (field_of c)

      go : (x : Bool) → is_output b ≡ x → any_of out bytes ≡ x
      go true e = any_of_lem out bytes b m (and_both _ _ e (eq-eqb (field_of b) (field_of b) refl))
      go false e = none (any_of out bytes) refl
        where
          none : (y : Bool) → any_of out bytes ≡ y → y ≡ false
          none true t =
              let (c, k, q) = of_any out bytes t in
              let same : c ≡ b =
              once field_of bytes (rising_distinct (map field_of bytes) rise) c b k m (sym (eqb-true (field_of b) (field_of c) (and_right (is_output c) _ q)))
              in
              absurd (clash (and_left (is_output c) _ q) (ap is_output same ∙ e))
          none false t = refl

  -- a byte is its field, and 128 more for an output
  byte_back : (b : ℕ) → In b bytes → field_byte (outputs_in bytes) (field_of b) ≡ b
  byte_back b m = rw (is_output_lem b m) (go (is_output b) refl)
    where
      low : b < 256
      low = all_in (λ b. b < 256) bytes b small m

      bit6 : (x : Bool) → has_bit6 b ≡ x → has_bit6 b ≡ false
      bit6 true e = absurd (clash (any_of_lem has_bit6 bytes b m e) no_bit6)
      bit6 false e = e

      even : b / 64 % 2 ≢ 1
      even = eqb-false (b / 64 % 2) 1 (bit6 (has_bit6 b) refl)

      go : (x : Bool) → is_output b ≡ x → cond x (field_of b + 128) (field_of b) ≡ b
      go true e = omega (arith, low, even, eqb-true (b / 128 % 2) 1 e)
      go false e =
          let odd : b / 128 % 2 ≢ 1 = eqb-false (b / 128 % 2) 1 e in
          let half : b / 128 ≡ 0 = omega (arith, low, odd) in
          let quarter : b / 64 ≡ 0 = omega (arith, even) in
          omega arith

  fields_back : field_bytes (covered_in bytes) (outputs_in bytes) ≡ bytes
  unfolding field_bytes
  fields_back =
      listed_is (member (covered_in bytes)) (field_byte (outputs_in bytes)) field_of 64 bytes (λ u l. field_byte_lem (outputs_in bytes) u l) rise
      (in_all (λ b. field_of b < 64) bytes (λ b m. field_small b)) (λ b m. (is_covered b m, byte_back b m))
      (λ u l e.
      let (c, k, q) = of_any (λ c. true && eqb u (field_of c)) bytes (sym (member_fields (λ c. true) bytes u l) ∙ e) in
      (c, k, sym (eqb-true u (field_of c) q)))

-- ---- the sheet of an image

abbrev entry_of : LinkLine → Link
entry_of l =
    record { covered = covered_in l.fields; outputs = outputs_in l.fields; level = l.level; used = true; standing = standing_of l.standing }

abbrev rule_of : FormulaLine → Rule
rule_of r = r.formula

abbrev holds_one : LinkLine → Bool
holds_one l = not (eqb l.standing 0xFF)

-- past the fields places are as at opening
abbrev stands : List ℕ → ℕ → ℕ → ℕ
stands order n f = cond (ltb f n) (place order f) f

abbrev pub sheet_from : Image → Sheet
sheet_from x = record {
  panel = record {
    size = x.size;
    links = table (λ l. l.id) entry_of no_link x.links 128;
    place = tabulate (stands x.order x.size) 64;
    setter = table (λ l. l.standing) (λ l. l.id) 128 (passing holds_one x.links) 64;
  };
  formulas = table (λ r. r.id) rule_of None x.formulas 128;
  values = table (λ v. v.field) (λ v. v.value) (pos 0) x.values 64;
}

-- ---- standings

holding_standing : (b f : ℕ) → standing_of b ≡ Holding f → (b ≡ f) × (b ≢ 0xFF)
holding_standing b f = go (eqb b 0xFF) refl
  where
    go : (t : Bool) → eqb b 0xFF ≡ t → cond t Waiting (Holding b) ≡ Holding f → (b ≡ f) × (b ≢ 0xFF)
    go true e h = absurd (let z : ◌≡◌ {A = ℕ} 0 1 = cc in omega arith)
    go false e h = (cc, eqb-false b 0xFF e)

standing_back : (b : ℕ) → standing_byte (standing_of b) ≡ b
standing_back b = go (eqb b 0xFF) refl
  where
    go : (t : Bool) → eqb b 0xFF ≡ t → standing_byte (cond t Waiting (Holding b)) ≡ b
    go true e = sym (eqb-true b 0xFF e)
    go false e = refl

line_is : (l : LinkLine) (st : ℕ) (fields : List ℕ) → st ≡ l.standing → fields ≡ l.fields
    → ◌≡◌ {A = LinkLine} (record { id = l.id; level = l.level; standing = st; fields = fields }) l
line_is l st fields e k = rw (e, k)

image_is : (x : Image) (order : List ℕ) (links : List LinkLine) (formulas : List FormulaLine) (values : List ValueLine)
    → order ≡ x.order → links ≡ x.links → formulas ≡ x.formulas → values ≡ x.values
    → ◌≡◌ {A = Image} (record { size = x.size; order = order; links = links; formulas = formulas; values = values }) x
image_is x order links formulas values e k h v = rw (e, k, h, v)

-- ---- the sheet of a well-formed image

module _ (x : Image) (W : WellFormed x) where
  abbrev n : ℕ
  n = x.size

  abbrev order : List ℕ
  order = x.order

  abbrev lines : List LinkLine
  lines = x.links

  abbrev s : Sheet
  s = sheet_from x

  some : 1 ≤ n
  some = go n (eqb-false n 0 (or_left (eqb n 0) (ltb 64 n) W.opens.1.0))
    where
      go : (m : ℕ) → m ≢ 0 → 1 ≤ m
      go m h = omega arith

  few : n ≤ 64
  few = ltb-false 64 n (or_right (eqb n 0) (ltb 64 n) W.opens.1.0)

  -- ---- places

  at_stands : (f : ℕ) → f < 64 → at s.panel.place f ≡ stands order n f
  at_stands f l = get_d_tabulate (stands order n) 64 f 0 l

  at_field : (f : ℕ) → f < n → at s.panel.place f ≡ place order f
  at_field f l = at_stands f (omega (arith, few)) ∙ rw (lt-ltb f n l)

  in_order : (f : ℕ) → f < n → In f order
  in_order = whole_in n order (record { below = W.stays_within; once = W.stays_once; whole = W.stays_all })

  place_small : (f : ℕ) → f < n → at s.panel.place f < n
  place_small f l = omega (arith, at_field f l, place_in f order (in_order f l), W.stays_all)

  -- the field at a place is the order's entry there
  field_at_lem : (p : ℕ) → p < n → field_at s.panel.place n p ≡ at order p
  unfolding field_at
  field_at_lem p l =
      lowest_unique (λ f. eqb (at s.panel.place f) p) n 64 (at order p) small
      (eq-eqb _ p (at_field (at order p) small ∙ place_of order W.stays_once p long))
      (λ g k. ne_eqb (at s.panel.place g) p (λ e.
      let less : g < n = omega (arith, small) in
      let here : place order g ≡ p = sym (at_field g less) ∙ e in
      omega (arith, sym (ap (at order) here) ∙ at_place order g (in_order g less))))
    where
      long : p < length order
      long = omega (arith, W.stays_all)

      small : at order p < n
      small = all_at (λ f. f < n) 0 order W.stays_within p long

  place_first : (f : ℕ) → f < n → field_at s.panel.place n (at s.panel.place f) ≡ f
  place_first f l =
      field_at_lem (at s.panel.place f) (place_small f l) ∙ ap (at order) (at_field f l) ∙ at_place order f (in_order f l)

  place_past : (f : ℕ) → n ≤ f → f < 64 → at s.panel.place f ≡ f
  place_past f h l = at_stands f l ∙ rw (le-ltb f n h)

  order_back : stay_order s.panel.place n ≡ order
  unfolding stay_order
  order_back =
      ext_get_or 0 (tabulate (field_at s.panel.place n) n) order (length_tabulate (field_at s.panel.place n) n ∙ sym W.stays_all)
      (λ p l.
      let k : p < n = omega (arith, length_tabulate (field_at s.panel.place n) n) in
      get_d_tabulate (field_at s.panel.place n) n p 0 k ∙ field_at_lem p k)

  -- ---- links

  adds : (l : LinkLine) → In l lines → Passes (add_checks (opened n) l.id l.level l.fields)
  adds l m = all_in (λ l. Passes (add_checks (opened n) l.id l.level l.fields)) lines l W.links_add m

  number : (l : LinkLine) → In l lines → l.id < 128
  number l m = (addable (opened n) l.id l.level l.fields (adds l m)).link.number

  formed : (l : LinkLine) → In l lines → Formed n (entry_of l)
  unfolding opened
  formed l m =
      let f = (addable (opened n) l.id l.level l.fields (adds l m)).link.formed in
      record {
        level = f.level;
        small = f.small;
        outputs_small = f.outputs_small;
        inside = f.inside;
        subset = f.subset;
        some_output = f.some_output;
        few = f.few;
      }

  link_at_lem : (l : LinkLine) → In l lines → link_at s.panel.links l.id ≡ entry_of l
  link_at_lem l m = table_in (λ l. l.id) entry_of no_link lines 128 l no_link (rising_distinct (map (λ l. l.id) lines) W.links_rise) m (number l m)

  link_is : (i : ℕ) → i < 128 → Looked (λ l. l.id) entry_of no_link lines i (link_at s.panel.links i)
  link_is i l = table_is (λ l. l.id) entry_of no_link lines 128 i no_link l

  -- the field bytes are those of the entry's sets
  bytes_back : (l : LinkLine) → In l lines → field_bytes (covered_in l.fields) (outputs_in l.fields) ≡ l.fields
  unfolding are_field_bytes
  bytes_back l m =
      fields_back l.fields (fields_rising l.fields (addable (opened n) l.id l.level l.fields (adds l m)).link.rising)
      (all_in (λ l. All (λ b. b < 256) l.fields) lines l W.links_bytes m)
      (not-true _ (and_right (leb 1 (length l.fields) && leb (length l.fields) 8) (not (any_of has_bit6 l.fields)) (not-false _ are)))
    where
      third : (a b c d e : Bool) → (a || b || c || d || e) ≡ false → c ≡ false
      third a b c d e h = search (or_left, or_right) depth 8

      are : not (are_field_bytes l.fields) ≡ false
      are = third (ltb 127 l.id) (ltb 15 l.level) _ (not (is_rising l.fields)) (not (any_of is_output l.fields)) (adds l m).1.0

  links_back : listed (is_line s.panel.links) (link_line s.panel.links) 128 ≡ lines
  links_back =
      table_back (λ l. l.id) entry_of no_link (λ l. l.used) line_of lines 128 128 no_link (omega arith) refl (λ i l. refl) W.links_rise
      (in_all (λ l. l.id < 128) lines number)
      (in_all _ lines (λ l m. (refl, line_is l (standing_byte (standing_of l.standing)) _ (standing_back l.standing) (bytes_back l m))))

  -- ---- setters

  abbrev held : List LinkLine
  held = passing holds_one lines

  held_distinct : Distinct (map (λ l. l.standing) held)
  held_distinct = subst (λ (fs : List ℕ). Distinct fs) (passing_map (λ l. l.standing) (λ b. not (eqb b 0xFF)) lines) W.held_once

  held_line : (l : LinkLine) → In l held → In l lines
  held_line l m = (all_in (λ l. In l lines × (holds_one l ≡ true)) held l (passing_in holds_one lines) m).0

  -- a line that holds a field: the field is an output of its link, which sets it
  holds : (l : LinkLine) (f : ℕ) → In l lines → standing_of l.standing ≡ Holding f → HoldFacts s.panel.setter l.id (outputs_in l.fields) f
  holds l f m e = go (holding_standing l.standing f e) (all_in _ lines l W.held_output m)
    where
      go : (l.standing ≡ f) × (l.standing ≢ 0xFF)
          → (l.standing ≡ 0xFF) ⊎ ((l.standing < 64) × (member (outputs_in l.fields) l.standing ≡ true))
          → HoldFacts s.panel.setter l.id (outputs_in l.fields) f
      go (same, ne) (inl w) = absurd (ne w)
      go (same, ne) (inr (low, out)) =
          subst (HoldFacts s.panel.setter l.id (outputs_in l.fields)) same
          (record {
            field = low;
            output = out;
            sets =
                table_in (λ l. l.standing) (λ l. l.id) 128 held 64 l 0 held_distinct
                (in_passing holds_one lines l m (rw (ne_eqb l.standing 0xFF ne))) low;
          })

  holding : (i f : ℕ) → i < 128 → (link_at s.panel.links i).standing ≡ Holding f
      → HoldFacts s.panel.setter i (link_at s.panel.links i).outputs f
  holding i f l e = go (link_at s.panel.links i) (link_is i l) e
    where
      go : (k : Link) → Looked (λ l. l.id) entry_of no_link lines i k → k.standing ≡ Holding f → HoldFacts s.panel.setter i k.outputs f
      go k (inl (y, m, d, b)) e =
          subst (λ (o : ℕ). HoldFacts s.panel.setter i o f) (sym (ap (λ (k : Link). k.outputs) b))
          (subst (λ (j : ℕ). HoldFacts s.panel.setter j (outputs_in y.fields) f) d
          (holds y f m (sym (ap (λ (k : Link). k.standing) b) ∙ e)))
      go k (inr (a, b)) e = absurd (let w : k.standing ≡ Waiting = ap (λ (k : Link). k.standing) b in let z : ◌≡◌ {A = ℕ} 0 1 = cc in omega arith)

  setter_is : (f : ℕ) → f < 64 → Looked (λ l. l.standing) (λ l. l.id) 128 held f (at s.panel.setter f)
  setter_is f l = table_is (λ l. l.standing) (λ l. l.id) 128 held 64 f 0 l

  setter_small : (f : ℕ) → f < 64 → at s.panel.setter f ≤ 128
  setter_small f l = go (at s.panel.setter f) (setter_is f l)
    where
      go : (i : ℕ) → Looked (λ l. l.standing) (λ l. l.id) 128 held f i → i ≤ 128
      go i (inl (y, m, e, b)) = omega (arith, number y (held_line y m))
      go i (inr (a, b)) = omega arith

  setter_sets : (f : ℕ) → f < 64 → at s.panel.setter f < 128 → SetFacts s.panel.links (at s.panel.setter f) f
  setter_sets f l h = go (at s.panel.setter f) h (setter_is f l)
    where
      go : (i : ℕ) → i < 128 → Looked (λ l. l.standing) (λ l. l.id) 128 held f i → SetFacts s.panel.links i f
      go i h (inl (y, m, e, b)) =
          let is = link_at_lem y (held_line y m) in
          let ne : y.standing ≢ 0xFF = λ q. omega arith in
          subst (λ (j : ℕ). SetFacts s.panel.links j f) (sym b)
          (record {
            used = ap (λ (k : Link). k.used) is;
            holding = ap (λ (k : Link). k.standing) is ∙ rw (ne_eqb y.standing 0xFF ne) (ap Holding e);
          })
      go i h (inr (a, b)) = absurd (omega arith)

  -- ---- formulas

  rule_accepted : (r : FormulaLine) → In r x.formulas
      → (l : LinkLine) × In l lines × (l.id ≡ r.id) × (accepted r.formula (covered_in l.fields) ≡ true)
  rule_accepted r m =
      let (l, k, e, c) = all_in (Relates n lines) x.formulas r W.formulas_fit m in
      (l, k, e, not-false _ c.1.1.1.1.0)

  fits : (i : ℕ) → i < 128 → Fits (formula_at s.formulas i) (link_at s.panel.links i)
  fits i l = go (get_or s.formulas i None) (table_is (λ r. r.id) rule_of None x.formulas 128 i None l)
    where
      go : (r : Rule) → Looked (λ r. r.id) rule_of None x.formulas i r → Fits r (link_at s.panel.links i)
      go r (inl (y, m, d, b)) =
          let (k, mk, e, a) = rule_accepted y m in
          let is : link_at s.panel.links i ≡ entry_of k = ap (link_at s.panel.links) (sym (e ∙ d)) ∙ link_at_lem k mk in
          inr (
            ap (λ (k : Link). k.used) is,
            ap₂ accepted b (ap (λ (k : Link). k.covered) is) ∙ a,
          )
      go r (inr (a, b)) = inl b

  rules_back : listed (is_ruled s.formulas) (rule_line s.formulas) 128 ≡ x.formulas
  unfolding accepted
  rules_back =
      table_back (λ r. r.id) rule_of None (λ r. not (is_none r)) (λ i r. record { id = i; formula = r }) x.formulas 128 128 None
      (omega arith) refl (λ i r. refl) W.formulas_rise
      (in_all (λ r. r.id < 128) x.formulas (λ r m. let (l, k, e, a) = rule_accepted r m in omega (arith, number l k)))
      (in_all _ x.formulas (λ r m. let (l, k, e, a) = rule_accepted r m in (some_rule r.formula (covered_in l.fields) a, refl)))
    where
      some_rule : (r : Rule) (covered : ℕ) → accepted r covered ≡ true → not (is_none r) ≡ true
      some_rule None covered a = absurd (clash a refl)
      some_rule (Some (Ratio p q)) covered a = refl
      some_rule (Some (Sum f)) covered a = refl

  -- ---- values

  value_fit : (v : ValueLine) → In v x.values → (v.field < n) × (v.value ≢ pos 0) × (outside v.value ≡ false)
  value_fit v m = all_in _ x.values v W.values_fit m

  value_limits : (v : ValueLine) → In v x.values → SFits w32 v.value
  value_limits v m = value_small v.value (rw (value_fit v m).2)

  value_is : (f : ℕ) → f < 64 → Looked (λ v. v.field) (λ v. v.value) (pos 0) x.values f (get_or s.values f (pos 0))
  value_is f l = table_is (λ v. v.field) (λ v. v.value) (pos 0) x.values 64 f (pos 0) l

  value_fits : (f : ℕ) → f < 64 → SFits w32 (get_or s.values f (pos 0))
  value_fits f l = go (get_or s.values f (pos 0)) (value_is f l)
    where
      go : (z : ℤ) → Looked (λ v. v.field) (λ v. v.value) (pos 0) x.values f z → SFits w32 z
      go z (inl (v, m, e, b)) = subst (SFits w32) (sym b) (value_limits v m)
      go z (inr (a, b)) = subst (SFits w32) (sym b) (value_small (pos 0) refl)

  value_past : (f : ℕ) → n ≤ f → f < 64 → get_or s.values f (pos 0) ≡ pos 0
  value_past f h l = go (get_or s.values f (pos 0)) (value_is f l)
    where
      go : (z : ℤ) → Looked (λ v. v.field) (λ v. v.value) (pos 0) x.values f z → z ≡ pos 0
      go z (inl (v, m, e, b)) = absurd (omega (arith, (value_fit v m).0))
      go z (inr (a, b)) = b

  values_back : listed (is_valued s.values) (value_line s.values) n ≡ x.values
  values_back =
      table_back (λ v. v.field) (λ v. v.value) (pos 0) (λ z. not (eqb (bits_of z) 0)) (λ f z. record { field = f; value = z }) x.values n 64 (pos 0)
      few (rw (eq-eqb (bits_of (pos 0)) 0 zero_bits)) (λ f z. refl) W.values_rise (in_all (λ v. v.field < n) x.values (λ v m. (value_fit v m).0))
      (in_all _ x.values (λ v m.
      (rw (ne_eqb (bits_of v.value) 0 (λ e. (value_fit v m).1 (zero_value v.value (value_limits v m) e))), refl)))

  -- ---- the whole

  pub sheet_facts : Facts s
  sheet_facts = record {
    links_long = length_tabulate _ 128;
    place_long = length_tabulate (stands order n) 64;
    setter_long = length_tabulate _ 64;
    rules_long = length_tabulate _ 128;
    values_long = length_tabulate _ 64;
    some = some;
    few = few;
    place_small = place_small;
    place_first = place_first;
    place_past = place_past;
    formed = λ i l u. used (link_at s.panel.links i) u i (link_is i l);
    unused = λ i l u. not_used (link_at s.panel.links i) u i (link_is i l);
    holding = holding;
    setter_small = setter_small;
    setter_sets = setter_sets;
    fits = fits;
    value_fits = value_fits;
    value_past = value_past;
  }
    where
      used : (k : Link) → k.used ≡ true → (i : ℕ) → Looked (λ l. l.id) entry_of no_link lines i k → Formed n k
      used k u i (inl (y, m, e, b)) = subst (Formed n) (sym b) (formed y m)
      used k u i (inr (a, b)) = absurd (clash u (ap (λ (k : Link). k.used) b))

      not_used : (k : Link) → k.used ≡ false → (i : ℕ) → Looked (λ l. l.id) entry_of no_link lines i k → k ≡ no_link
      not_used k u i (inl (y, m, e, b)) = absurd (clash (ap (λ (k : Link). k.used) b) u)
      not_used k u i (inr (a, b)) = b

  pub image_back : image_from s ≡ x
  image_back = image_is x _ _ _ _ order_back links_back rules_back values_back
