-- The image of a sheet: its text is the sheet's text (`image_text`), and of a formed sheet it is well-formed (`image_formed`). What it lists number by
-- number has rising numbers, and each line's facts are those of the sheet at that number. Assumes nothing.
use Prim.Native.Nat.{ℕ, ◌+◌, ◌/◌, ◌%◌, ◌≤◌, ◌<◌}
use mathlib.Core.Path.{◌≡◌, refl, sym, ap, ◌∙◌}
use mathlib.Core.Bool.{Bool, true, false, not, ◌&&◌, cond}
use mathlib.Core.List.{List, [], ◌∷◌, map}
use mathlib.Core.Logic.{◌≢◌, ◌⊎◌, inl, inr}
use native.Mathlib.Omega.{arith}
use borrow.Author.Tests.{lt-ltb, le-ltb, le-leb, lt-leb, eq-eqb, ne_eqb, eqb-true, eqb-false, not-true}
use lib.Dec.{eqb, leb}
use lib.IntN.{ℤ, pos}
use lib.ListN.{length, get_or-replicate}
use Rattle.std.specs.Prelude.{Some, None, is_none}
use Rattle.fieldset.specs.Tables.{at, tabulate}
use Rattle.fieldset.specs.Lists.{In, All, Distinct, passing}
use Rattle.fieldset.specs.Fields.{member, size}
use Rattle.fieldset.proofs.Tests.{and_left, and_both}
use Rattle.fieldset.proofs.Numbers.{clash, lowest_lt, lowest_true, count_pos}
use Rattle.fieldset.proofs.Tables.{length_tabulate}
use Rattle.fieldset.proofs.Lists.{all_in, passing_in, passing_map, passing_distinct, distinct_map, whole_in}
use Rattle.fieldset.proofs.Fields.{some_member}
use Rattle.panel.specs.declared.Standing.{Standing}
use Rattle.panel.specs.declared.Standing.TheVariants.{Waiting, Holding}
use Rattle.panel.specs.declared.Link.{Link}
use Rattle.panel.specs.Items.{no_link, link_at}
use Rattle.panel.specs.Panels.{opened}
use Rattle.panel.specs.Commands.{field_of, is_output, has_bit6, any_of, covered_in, outputs_in, is_rising, are_field_bytes, Passes, add_checks}
use Rattle.panel.specs.Legal.{Formed}
use Rattle.panel.proofs.Checks.{Found, any_of_found, found_any, member_fields}
use Rattle.values.specs.Limits.{value_at, outside}
use Rattle.values.specs.Words.{bits_of}
use Rattle.formulas.specs.declared.Formula.TheVariants.{Ratio, Sum}
use Rattle.formulas.specs.Formulas.{Rule, accepted}
use Rattle.formulas.proofs.Accepting.{sum_accepted}
use Rattle.sheet.specs.declared.Sheet.{Sheet}
use Rattle.sheet.specs.Sheets.{formula_at}
use Rattle.sheet.specs.Commands.{sum_past}
use Rattle.sheet.specs.Legal.{Fits}
use Rattle.frames.specs.Frames.{formula_bytes}
use Rattle.images.specs.Images.{field_at, stay_order, field_byte, field_bytes, standing_byte, formula_frames, formula_piece, value_piece, frames_of, image_of}
use Rattle.images.specs.Reading.{version}
use Rattle.images.proofs.FieldBytes.{field_byte_lem, covered_back, outputs_back, field_bytes_lem, field_count}
use Rattle.images.proofs.Facts.{Facts, small_value}
use Rattle.layout.specs.Layout.{LinkLine, link_bytes, FormulaLine, rule_bytes, ValueLine, value_bytes, Image, text_of, Rising, held_fields, Relates, WellFormed}
use Rattle.layout.proofs.Rising.{rising_distinct, gather_cong, listed, listed_map, listed_all, listed_in, listed_rising, tabulate_all, tabulate_distinct}

-- ---- the lines of each number

abbrev pub line_of : ℕ → Link → LinkLine
line_of i l = record { id = i; level = l.level; standing = standing_byte l.standing; fields = field_bytes l.covered l.outputs }

abbrev pub link_line : List Link → ℕ → LinkLine
link_line links i = line_of i (link_at links i)

abbrev pub is_line : List Link → ℕ → Bool
is_line links i = (link_at links i).used

abbrev pub rule_line : List Rule → ℕ → FormulaLine
rule_line formulas i = record { id = i; formula = formula_at formulas i }

abbrev pub is_ruled : List Rule → ℕ → Bool
is_ruled formulas i = not (is_none (formula_at formulas i))

abbrev pub value_line : List ℤ → ℕ → ValueLine
value_line values f = record { field = f; value = value_at values f }

abbrev pub is_valued : List ℤ → ℕ → Bool
is_valued values f = not (eqb (bits_of (value_at values f)) 0)

-- the image of a sheet
abbrev pub image_from : Sheet → Image
image_from s = record {
  size = s.panel.size;
  order = stay_order s.panel.place s.panel.size;
  links = listed (is_line s.panel.links) (link_line s.panel.links) 128;
  formulas = listed (is_ruled s.formulas) (rule_line s.formulas) 128;
  values = listed (is_valued s.values) (value_line s.values) s.panel.size;
}

-- it has the sheet's text
pub image_text : (s : Sheet) → text_of (image_from s) ≡ image_of version s
unfolding image_of frames_of
image_text s =
    rw (
      listed_map link_bytes (is_line s.panel.links) (link_line s.panel.links) 128,
      listed_map rule_bytes (is_ruled s.formulas) (rule_line s.formulas) 128,
      listed_map value_bytes (is_valued s.values) (value_line s.values) s.panel.size,
      gather_cong (formula_piece s.formulas) (λ i. cond (is_ruled s.formulas i) (rule_bytes (rule_line s.formulas i) ∷ []) []) 128
          (λ i l. rule_piece i (formula_at s.formulas i)),
      gather_cong (value_piece s.values) (λ f. cond (is_valued s.values f) (value_bytes (value_line s.values f) ∷ []) []) s.panel.size
          (λ f l. value_piece_lem (eqb (bits_of (value_at s.values f)) 0) (value_bytes (value_line s.values f))),
    )
  where
    rule_piece : (i : ℕ) (r : Rule) → formula_frames i r ≡ cond (not (is_none r)) ((0x08 ∷ i ∷ formula_bytes r) ∷ []) []
    rule_piece i None = refl
    rule_piece i (Some (Ratio p q)) = refl
    rule_piece i (Some (Sum f)) = refl

    value_piece_lem : (b : Bool) (bytes : List ℕ) → cond b [] (bytes ∷ []) ≡ cond (not b) (bytes ∷ []) []
    value_piece_lem true bytes = refl
    value_piece_lem false bytes = refl

-- ---- the field bytes of a formed link pass Add's checks

none_of : (q : ℕ → Bool) (bytes : List ℕ) → All (λ b. q b ≡ false) bytes → any_of q bytes ≡ false
unfolding any_of
none_of q [] a = refl
none_of q (b ∷ bs) (e, a) = rw (e, none_of q bs a)

rising_fields : (bytes : List ℕ) → Rising (map field_of bytes) → is_rising bytes ≡ true
unfolding is_rising Rising
rising_fields [] r = refl
rising_fields (a ∷ []) r = refl
rising_fields (a ∷ b ∷ bs) ((l, h), r) = and_both _ _ (lt-ltb (field_of a) (field_of b) l) (rising_fields (b ∷ bs) r)

all_fields : (P : ℕ → Type 0) (c o : ℕ) → ((u : ℕ) → u < 64 → member c u ≡ true → P (field_byte o u)) → All P (field_bytes c o)
unfolding field_bytes
all_fields P c o h = listed_all (member c) (field_byte o) P 64 h

module _ (n i : ℕ) (l : Link) (some : 1 ≤ n) (number : i < 128) (F : Formed n l) where
  abbrev bytes : List ℕ
  bytes = field_bytes l.covered l.outputs

  -- a link has an output
  an_output : (u : ℕ) × (u < 64) × (member l.outputs u ≡ true)
  an_output = some_member l.outputs F.outputs_small F.some_output

  are_bytes : are_field_bytes bytes ≡ true
  unfolding are_field_bytes size
  are_bytes =
      let (u, k, m) = an_output in
      let long : length bytes ≡ size l.covered = field_count l.covered l.outputs in
      and_both _ _
      (and_both _ _ (le-leb 1 (length bytes) (omega (arith, count_pos (member l.covered) 64 u k (F.subset u k m)))) (le-leb (length bytes) 8 (omega (arith, F.few))))
      (rw (none_of has_bit6 bytes (all_fields (λ b. has_bit6 b ≡ false) l.covered l.outputs (λ u k m. no_bit6 u k (member l.outputs u)))))
    where
      no_bit6 : (u : ℕ) → u < 64 → (b : Bool) → has_bit6 (cond b (u + 128) u) ≡ false
      no_bit6 u k true = ne_eqb ((u + 128) / 64 % 2) 1 (λ e. omega arith)
      no_bit6 u k false = ne_eqb (u / 64 % 2) 1 (λ e. omega arith)

  are_rising : is_rising bytes ≡ true
  unfolding field_bytes
  are_rising = rising_fields bytes (listed_rising (member l.covered) (field_byte l.outputs) field_of 64 (λ u k. field_byte_lem l.outputs u k))

  some_output : any_of is_output bytes ≡ true
  some_output =
      let (u, k, m) = an_output in
      let b : Found (λ b. is_output b && eqb u (field_of b)) bytes =
      any_of_found (λ b. is_output b && eqb u (field_of b)) bytes
      (sym (member_fields is_output bytes u k)
      ∙ ap (λ (o : ℕ). member o u) (outputs_back l.covered l.outputs F.outputs_small F.subset) ∙ m)
      in
      found_any (λ b. is_output b && eqb u (field_of b)) is_output bytes b (and_left (is_output b.byte) (eqb u (field_of b.byte)) b.passes)

  are_fields : any_of (λ b. leb n (field_of b)) bytes ≡ false
  are_fields =
      none_of (λ b. leb n (field_of b)) bytes
      (all_fields (λ b. leb n (field_of b) ≡ false) l.covered l.outputs
      (λ u k m. lt-leb n (field_of (field_byte l.outputs u)) (omega (arith, field_byte_lem l.outputs u k, F.inside u k m))))

  link_adds : Passes (add_checks (opened n) i l.level bytes)
  unfolding opened
  link_adds = (
    rw (lt-ltb 0 n (omega arith)),
    (
      rw (le-ltb 127 i (omega arith), le-ltb 15 l.level F.level, are_bytes, are_rising, some_output),
      (are_fields, (ap (λ (k : Link). k.used) (get_or-replicate 128 i no_link no_link number), tt)),
    ),
  )

-- ---- the image of a formed sheet

pub zero_bits : bits_of (pos 0) ≡ 0
unfolding bits_of
zero_bits = refl

module _ (s : Sheet) (F : Facts s) where
  abbrev n : ℕ
  n = s.panel.size

  abbrev place : List ℕ
  place = s.panel.place

  abbrev setter : List ℕ
  setter = s.panel.setter

  abbrev links : List Link
  links = s.panel.links

  abbrev lines : List LinkLine
  lines = (image_from s).links

  -- each place below n is a field's: n places below n, each once, are all of them
  has_place : (p : ℕ) → p < n → (f : ℕ) × (f < n) × (p ≡ at place f)
  has_place p l =
      all_in (λ q. (f : ℕ) × (f < n) × (q ≡ at place f)) (tabulate (at place) n) p
      (tabulate_all (λ q. (f : ℕ) × (f < n) × (q ≡ at place f)) (at place) n (λ f k. (f, k, refl)))
      (whole_in n (tabulate (at place) n)
      (record {
        below = tabulate_all (λ q. q < n) (at place) n F.place_small;
        once = tabulate_distinct (at place) n (λ f g k h e. sym (F.place_first f k) ∙ ap (field_at place n) e ∙ F.place_first g h);
        whole = length_tabulate (at place) n;
      }) p l)

  field_stands : (p : ℕ) → p < n → (field_at place n p < n) × (at place (field_at place n p) ≡ p)
  unfolding field_at
  field_stands p l =
      let (f, k, e) = has_place p l in
      let here : eqb (at place f) p ≡ true = eq-eqb (at place f) p (sym e) in
      (lowest_lt (λ f. eqb (at place f) p) n 64 f k here, eqb-true _ p (lowest_true (λ f. eqb (at place f) p) n 64 f k here))

  -- a line that holds a field has the number of the field's setter
  held_sets : All (λ l. not (eqb l.standing 0xFF) ≡ true → at setter l.standing ≡ l.id) lines
  held_sets = listed_all (is_line links) (link_line links) _ 128 (λ i l u. go i l (link_at links i).standing refl)
    where
      go : (i : ℕ) → i < 128 → (st : Standing) → (link_at links i).standing ≡ st
          → not (eqb (standing_byte st) 0xFF) ≡ true → at setter (standing_byte st) ≡ i
      go i l Waiting e q = absurd (clash q refl)
      go i l (Holding f) e q = (F.holding i f l e).sets

  links_rise : Rising (map (λ l. l.id) lines)
  links_rise = listed_rising (is_line links) (link_line links) (λ l. l.id) 128 (λ i l. refl)

  held_once : Distinct (held_fields lines)
  held_once =
      rw (passing_map standing holds lines)
      (distinct_map (λ l. l.id) (λ l. l.id) standing held ids ids (λ x y mx my ne ne' e. ne (sym (sets x mx) ∙ ap (at setter) e ∙ sets y my)))
    where
      standing : LinkLine → ℕ
      standing l = l.standing

      holds : ℕ → Bool
      holds b = not (eqb b 0xFF)

      held : List LinkLine
      held = passing (λ l. holds (standing l)) lines

      ids : Distinct (map (λ l. l.id) held)
      ids = passing_distinct (λ l. l.id) (λ l. holds (standing l)) lines (rising_distinct (map (λ l. l.id) lines) links_rise)

      sets : (x : LinkLine) → In x held → at setter x.standing ≡ x.id
      sets x m =
          let (k, e) = all_in (λ x. In x lines × (holds (standing x) ≡ true)) held x (passing_in (λ l. holds (standing l)) lines) m in
          all_in _ lines x held_sets k e

  pub image_formed : WellFormed (image_from s)
  unfolding stay_order
  image_formed = record {
    opens = (refl, (rw (ne_eqb n 0 (λ e. omega (arith, F.some)), le-ltb 64 n F.few), tt));
    stays_within = tabulate_all (λ f. f < n) (field_at place n) n (λ p l. (field_stands p l).0);
    stays_once = tabulate_distinct (field_at place n) n (λ p q k l e. sym (field_stands p k).1 ∙ ap (at place) e ∙ (field_stands q l).1);
    stays_all = length_tabulate (field_at place n) n;
    links_rise = links_rise;
    links_add = listed_all (is_line links) (link_line links) _ 128 (λ i l u. link_adds n i (link_at links i) F.some l (F.formed i l u));
    links_bytes = listed_all (is_line links) (link_line links) _ 128 (λ i l u. field_bytes_lem (link_at links i).covered (link_at links i).outputs);
    held_once = held_once;
    held_output = listed_all (is_line links) (link_line links) _ 128 (λ i l u. output i l u (link_at links i).standing refl);
    formulas_rise = listed_rising (is_ruled s.formulas) (rule_line s.formulas) (λ r. r.id) 128 (λ i l. refl);
    formulas_fit = listed_all (is_ruled s.formulas) (rule_line s.formulas) _ 128 (λ i l t. relates i l (formula_at s.formulas i) t (F.fits i l));
    values_rise = listed_rising (is_valued s.values) (value_line s.values) (λ v. v.field) n (λ i l. refl);
    values_fit = listed_all (is_valued s.values) (value_line s.values) _ n (λ f l t.
        (l, not_zero (value_at s.values f) t, not-true (outside (value_at s.values f)) (small_value _ (F.value_fits f (omega (arith, F.few))))));
  }
    where
      output : (i : ℕ) → i < 128 → (link_at links i).used ≡ true → (st : Standing) → (link_at links i).standing ≡ st
          → (standing_byte st ≡ 0xFF) ⊎ ((standing_byte st < 64) × (member (outputs_in (link_line links i).fields) (standing_byte st) ≡ true))
      output i l u Waiting e = inl refl
      output i l u (Holding f) e =
          let H = F.holding i f l e in
          let L = F.formed i l u in
          inr (H.field, ap (λ (o : ℕ). member o f) (outputs_back (link_at links i).covered _ L.outputs_small L.subset) ∙ H.output)

      past : (i : ℕ) → Formed n (link_at links i) → (r : Rule) → accepted r (link_at links i).covered ≡ true → sum_past n r ≡ false
      past i L None a = refl
      past i L (Some (Ratio p q)) a = refl
      past i L (Some (Sum f)) a = let (k, m) = sum_accepted f (link_at links i).covered a in lt-leb n f (L.inside f k m)

      relates : (i : ℕ) → i < 128 → (r : Rule) → not (is_none r) ≡ true → Fits r (link_at links i) → Relates n lines (record { id = i; formula = r })
      relates i l r t (inl e) = absurd (clash (rw e at t) refl)
      relates i l r t (inr (u, a)) =
          let L = F.formed i l u in
          let back : covered_in (link_line links i).fields ≡ (link_at links i).covered = covered_back (link_at links i).covered (link_at links i).outputs L.small in (
            link_line links i,
            listed_in (is_line links) (link_line links) 128 i l u,
            refl,
            (rw (lt-ltb 0 n F.some), (le-ltb 127 i (omega arith), (past i L r a, (refl, (rw (back, a), tt))))),
          )

      not_zero : (v : ℤ) → not (eqb (bits_of v) 0) ≡ true → v ≢ pos 0
      not_zero v t e = eqb-false (bits_of v) 0 (not-true (eqb (bits_of v) 0) t) (ap bits_of e ∙ zero_bits)
