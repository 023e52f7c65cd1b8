-- What the lines of a text enter, by the code's steps. The buffer has a line's first bytes and zeros behind them (`frame_at`), so that what is read
-- from it is what the line says; `Placing` and `Entering` are what the two loops keep.
use Prim.Native.Nat.{ℕ, zero, suc, ◌+◌, ◌-◌, ◌*◌, ◌/◌, ◌%◌, ◌≤◌, ◌<◌, min}
use mathlib.Core.Path.{◌≡◌, refl, sym, ap, ap₂, ◌∙◌}
use mathlib.Core.Bool.{Bool, true, false, ◌&&◌, cond}
use mathlib.Core.List.{List, [], ◌∷◌, map}
use native.Mathlib.Nat.{not-suc-le-zero}
use native.Mathlib.Numerals.{add-one}
use native.Mathlib.Omega.{arith}
use lib.Dec.{eqb, ltb}
use lib.IntN.{ℤ}
use lib.ListN.{length, get_or, take, drop, set, replicate, length-take, length-drop, length-set, drop_of_length-le}
use lib.Seq.{sets, set_out, drop-cons, get_or-take, get_or-drop, ext_get_or, length-sets}
use borrow.Author.Tests.{eqb-true, ne_eqb}
use Rattle.std.specs.Prelude.{Some, None, Ok, Err}
use Rattle.fieldset.specs.Tables.{at}
use Rattle.fieldset.proofs.Tests.{and_right}
use Rattle.panel.specs.declared.Link.{Link}
use Rattle.panel.specs.declared.Panel.{Panel}
use Rattle.panel.specs.Panels.{opened}
use Rattle.values.specs.Words.{value_of}
use Rattle.formulas.specs.Formulas.{Rule}
use Rattle.formulas.specs.declared.Formula.TheVariants.{Ratio, Sum}
use Rattle.sheet.specs.declared.Sheet.{Sheet}
use Rattle.sheet.specs.Sheets.{sheet_of, with_formula, unopened, Full}
use Rattle.hexadecimal.specs.Hex.{digit_of, are_digits, is_hex, bytes_of, frame_room}
use Rattle.hexadecimal.specs.Answers.{decoded_values, decoded, frame_after}
use Rattle.hexadecimal.specs.declared.BadHex.{BadHex}
use Rattle.hexadecimal.proofs.Bytes.{length_bytes_lem, byte_at}
use Rattle.lines.specs.Lines.{lines_of, line_length, behind_of}
use Rattle.lines.proofs.Lines.{behind_within, behind_on, lines_on, lines_end}
use Rattle.frames.specs.Frames.{word_of, formula_in}
use Rattle.frames.proofs.Reading.{bad_told, frame_told}
use Rattle.images.specs.Entries.{with_size, placed, with_link_line, entered, entered_all, line_bytes, candidate}
use Rattle.parsing.specs.Parsing.{Framed, fields_end, field_part, link_in}

-- ---- stores, and what is past the end

pub set_past {ℓ} : {A : Type ℓ} (l : List A) (i : ℕ) (a : A) → length l ≤ i → l ≡ set l i a
set_past l i a h = sym (set_out l i a h)

-- FF is no field
setter_in : (l : List ℕ) (f i : ℕ) → length l ≡ 64 → set l f i ≡ cond (eqb f 0xFF) l (set l f i)
setter_in l f i e = go (eqb f 0xFF) refl
  where
    go : (b : Bool) → eqb f 0xFF ≡ b → set l f i ≡ cond b l (set l f i)
    go true t = sym (set_past l f i (omega (arith, eqb-true _ _ t)))
    go false t = refl

-- ---- the stays' order

abbrev pub with_places : Panel → List ℕ → Panel
with_places p l = record { size = p.size; links = p.links; place = l; setter = p.setter }

abbrev pub order_of : List ℕ → List ℕ
order_of line = take 64 (drop 1 (bytes_of line))

-- of the n fields of a line the first k have their places
pub record Placing (line before after : List ℕ) (n k : ℕ) : Type 0 where
  pub count : n ≡ length (order_of line)
  pub long : length after ≡ length before
  pub rest : placed after k (drop k (order_of line)) ≡ placed before 0 (order_of line)

order_count : (line : List ℕ) → length (order_of line) ≡ min 64 (length line / 2 - 1)
order_count line = length-take 64 (drop 1 (bytes_of line)) ∙ omega (arith, length-drop 1 (bytes_of line), length_bytes_lem line)

pub placing_none : (line place : List ℕ) (n : ℕ) → n ≡ min 64 (length line / 2 - 1) → Placing line place place n 0
placing_none line place n e = record { count = e ∙ sym (order_count line); long = refl; rest = refl }

module _ {line before now : List ℕ} {n k : ℕ} (P : Placing line before now n k) where
  -- its two digits are there
  pub placing_digits : k < n → (2 * k + 3 < length line) × (k < 64)
  placing_digits l = (omega (arith, P.count, order_count line), omega (arith, P.count, order_count line))

  pub placing_on : (after : List ℕ) (f : ℕ) → k < n → f ≡ digit_of (at line (2 * k + 2)) * 16 + digit_of (at line (2 * k + 3)) → after ≡ set now f k
      → Placing line before after n (k + 1)
  unfolding placed
  placing_on after f l e a =
      let fs : List ℕ = order_of line in
      let h = placing_digits l in
      let one : 1 + k ≡ k + 1 = omega arith in
      let first : 2 * (k + 1) ≡ 2 * k + 2 = omega arith in
      let second : 2 * (k + 1) + 1 ≡ 2 * k + 3 = omega arith in
      let here : at fs k ≡ f =
      get_or-take 64 (drop 1 (bytes_of line)) k 0 h.1 ∙ get_or-drop 1 (bytes_of line) k 0 ∙ ap (at (bytes_of line)) one ∙ byte_at line (k + 1) (omega arith)
      ∙ ap₂ (λ (x y : ℕ). digit_of (at line x) * 16 + digit_of (at line y)) first second ∙ sym e in
      record {
        count = P.count;
        long = ap length a ∙ length-set now f k ∙ P.long;
        rest =
            rw (a, add-one k)
            (sym (ap (placed now k) (drop-cons fs k 0 (omega (arith, P.count)) ∙ ap (λ (x : ℕ). x ∷ drop (suc k) fs) here)) ∙ P.rest);
      }

  pub placing_all : n ≤ k → now ≡ placed before 0 (order_of line)
  unfolding placed
  placing_all l =
      let past : length (order_of line) ≤ k = omega (arith, P.count) in
      ap (placed now k) (sym (drop_of_length-le (order_of line) past)) ∙ P.rest

-- ---- links

abbrev pub with_links : Panel → List Link → Panel
with_links p links = record { size = p.size; links = links; place = p.place; setter = p.setter }

pub linked : (p q : Panel) (frame fields : List ℕ) (setter : List ℕ) → length p.setter ≡ 64
    → q ≡ with_links p (set p.links (at frame 1) (link_in frame fields)) → setter ≡ set q.setter (at frame 3) (at frame 1)
    → record { size = q.size; links = q.links; place = q.place; setter = setter } ≡ with_link_line p (at frame 1) (at frame 2) (at frame 3) fields
linked p q frame fields setter h eq es =
    rw (es, eq)
    (ap (λ (x : List ℕ). record { size = p.size; links = set p.links (at frame 1) (link_in frame fields); place = p.place; setter = x })
    (setter_in p.setter (at frame 3) (at frame 1) h))

-- ---- formulas and values

-- what the bytes behind the second say, one by one
abbrev formula_of : List ℕ → Rule
formula_of b = cond (eqb (at b 2) 0x01) (Some (Ratio (at b 3 * 256 + at b 4) (at b 5 * 256 + at b 6))) (cond (eqb (at b 2) 0x02) (Some (Sum (at b 3))) None)

formula_is : (b : List ℕ) → formula_of b ≡ formula_in (drop 2 b)
formula_is b = simp get_or-drop

word_is : (b : List ℕ) → word_of (at b 2 ∷ at b 3 ∷ at b 4 ∷ at b 5 ∷ []) ≡ word_of (drop 2 b)
word_is b = simp get_or-drop

-- ---- the buffer has the first bytes of a line, and zeros behind them

sets_behind : (x : ℕ) (l : List ℕ) (i : ℕ) (vs : List ℕ) → sets (x ∷ l) (suc i) vs ≡ x ∷ sets l i vs
sets_behind x l i [] = refl
sets_behind x l i (a ∷ vs) = sets_behind x (set l i a) (suc i) vs

zeros : (n k : ℕ) → ◌≡◌ {A = ℕ} (get_or (replicate n 0) k 0) 0
zeros zero k = refl
zeros (suc n) zero = refl
zeros (suc n) (suc k) = zeros n k

at_start : (b : List ℕ) (n k : ℕ) → k < n → at (sets (replicate n 0) 0 b) k ≡ at b k
at_start [] n k l = zeros n k
at_start (x ∷ b) zero k l = absurd (not-suc-le-zero l)
at_start (x ∷ b) (suc n) zero l = ap (λ (y : List ℕ). at y 0) (sets_behind x (replicate n 0) 0 b)
at_start (x ∷ b) (suc n) (suc k) l = ap (λ (y : List ℕ). at y (suc k)) (sets_behind x (replicate n 0) 0 b) ∙ at_start b n k (omega arith)

module _ (line frame : List ℕ) (n : ℕ) (F : Framed line frame n) where
  abbrev b : List ℕ
  b = bytes_of line

  pub frame_long : length frame ≡ frame_room
  frame_long = ap length F.bytes ∙ length-sets (replicate frame_room 0) 0 b

  frame_at : (k : ℕ) → k < frame_room → at frame k ≡ at b k
  frame_at k l = ap (λ (x : List ℕ). at x k) F.bytes ∙ at_start b frame_room k l

  -- the field bytes of a link, at most 8
  fields_at : field_part frame n ≡ take 8 (drop 4 b)
  fields_at =
      let left : length (field_part frame n) ≡ fields_end n - 4 =
      length-take (fields_end n - 4) (drop 4 frame) ∙ omega (arith, length-drop 4 frame, frame_long) in
      let right : length (take 8 (drop 4 b)) ≡ fields_end n - 4 = length-take 8 (drop 4 b) ∙ omega (arith, length-drop 4 b, F.count) in
      ext_get_or 0 (field_part frame n) (take 8 (drop 4 b)) (left ∙ sym right)
      (λ i h. let k : i < fields_end n - 4 = omega (arith, left) in
      get_or-take (fields_end n - 4) (drop 4 frame) i 0 k ∙ get_or-drop 4 frame i 0 ∙ frame_at (4 + i) (omega arith)
      ∙ sym (get_or-take 8 (drop 4 b) i 0 (omega arith) ∙ get_or-drop 4 b i 0))

  formula_same : formula_in (drop 2 frame) ≡ formula_in (drop 2 b)
  formula_same =
      sym (formula_is frame)
      ∙ rw (frame_at 2 (omega arith), frame_at 3 (omega arith), frame_at 4 (omega arith), frame_at 5 (omega arith), frame_at 6 (omega arith))
      (formula_is b)

  word_same : word_of (at frame 2 ∷ at frame 3 ∷ at frame 4 ∷ at frame 5 ∷ []) ≡ word_of (drop 2 b)
  word_same = rw (frame_at 2 (omega arith), frame_at 3 (omega arith), frame_at 4 (omega arith), frame_at 5 (omega arith)) (word_is b)

  -- ---- what a line enters, by its kind

  module _ (s : Sheet) where
    kind : (k : ℕ) → at frame 0 ≡ k → at b 0 ≡ k
    kind k e = sym (frame_at 0 (omega arith)) ∙ e

    pub enters_size : {k : ℕ} → at frame 0 ≡ 0x0A → k ≡ at frame 2 → sheet_of (with_size s.panel k) s.formulas s.values ≡ entered s b
    unfolding entered
    enters_size e ek = rw (kind 0x0A e, ek, frame_at 2 (omega arith))

    pub enters_order : {place : List ℕ} → at frame 0 ≡ 0x0B → place ≡ placed s.panel.place 0 (order_of line)
        → sheet_of (with_places s.panel place) s.formulas s.values ≡ entered s b
    unfolding entered
    enters_order e ep = rw (kind 0x0B e, ep)

    pub enters_link : {p : Panel} → at frame 0 ≡ 0x0C
        → p ≡ with_link_line s.panel (at frame 1) (at frame 2) (at frame 3) (field_part frame n) → sheet_of p s.formulas s.values ≡ entered s b
    unfolding entered
    enters_link e ep = rw (kind 0x0C e, ep, fields_at, frame_at 1 (omega arith), frame_at 2 (omega arith), frame_at 3 (omega arith))

    pub enters_formula : {i : ℕ} {x : Rule} → at frame 0 ≡ 0x08 → i ≡ at frame 1 → x ≡ formula_in (drop 2 frame)
        → sheet_of s.panel (set s.formulas i x) s.values ≡ entered s b
    unfolding entered
    enters_formula e ei ex =
        rw (kind 0x08 e, ei, frame_at 1 (omega arith))
        (ap (λ (y : Rule). sheet_of s.panel (with_formula s.formulas (at b 1) y) s.values) (ex ∙ formula_same))

    pub past_formulas : (i : ℕ) → at frame 0 ≡ 0x08 → i ≡ at frame 1 → length s.formulas ≤ i → s ≡ entered s b
    past_formulas i e ei l =
        ap (λ (y : List Rule). sheet_of s.panel y s.values) (set_past s.formulas i (formula_in (drop 2 frame)) l) ∙ enters_formula e ei refl

    pub enters_value : {f w : ℕ} {x : ℤ} → at frame 0 ≡ 0x0D → f ≡ at frame 1
        → w ≡ word_of (at frame 2 ∷ at frame 3 ∷ at frame 4 ∷ at frame 5 ∷ []) → x ≡ value_of w
        → sheet_of s.panel s.formulas (set s.values f x) ≡ entered s b
    unfolding entered
    enters_value e ef ew ex =
        rw (kind 0x0D e, ef, frame_at 1 (omega arith))
        (ap (λ (y : ℤ). sheet_of s.panel s.formulas (set s.values (at b 1) y)) (ex ∙ ap value_of (ew ∙ word_same)))

    pub past_values : (f : ℕ) → at frame 0 ≡ 0x0D → f ≡ at frame 1 → length s.values ≤ f → s ≡ entered s b
    past_values f e ef l =
        ap (λ (y : List ℤ). sheet_of s.panel s.formulas y)
        (set_past s.values f (value_of (word_of (at frame 2 ∷ at frame 3 ∷ at frame 4 ∷ at frame 5 ∷ []))) l)
        ∙ enters_value e ef refl refl

  pub enters_none : (s : Sheet)
      → ((((Unit {0} × (at frame 0 ≡ 0x0A → ⊥)) × (at frame 0 ≡ 0x0B → ⊥)) × (at frame 0 ≡ 0x0C → ⊥)) × (at frame 0 ≡ 0x08 → ⊥)) × (at frame 0 ≡ 0x0D → ⊥)
      → s ≡ entered s b
  unfolding entered
  enters_none s o =
      let (((((_, n1), n2), n3), n4), n5) = o in
      let z = frame_at 0 (omega arith) in
      rw (
        ne_eqb (at b 0) 0x0A (λ e. n1 (z ∙ e)),
        ne_eqb (at b 0) 0x0B (λ e. n2 (z ∙ e)),
        ne_eqb (at b 0) 0x0C (λ e. n3 (z ∙ e)),
        ne_eqb (at b 0) 0x08 (λ e. n4 (z ∙ e)),
        ne_eqb (at b 0) 0x0D (λ e. n5 (z ∙ e)),
      )

-- ---- a line, decoded

-- one that is not hexadecimal enters nothing
pub bad_enters : (s : Sheet) (line : List ℕ) (e : BadHex) → decoded_values (Err e) ≡ decoded line → s ≡ entered s (line_bytes line)
unfolding line_bytes entered
bad_enters s line e told = rw (bad_told line e told).0

module _ (line after : List ℕ) (n : ℕ) (told : decoded_values (Ok n) ≡ decoded line) (a : after ≡ frame_after line (replicate frame_room 0)) where
  pub good_framed : Framed line after n
  unfolding frame_after is_hex
  good_framed =
      let t = frame_told line n told in
      record {
        digits = and_right (ltb 0 (length line) && eqb (length line % 2) 0) (are_digits line) t.0;
        bytes = rw t.0 at a;
        count = t.1;
      }

  pub good_enters : (s r : Sheet) → r ≡ entered s (bytes_of line) → r ≡ entered s (line_bytes line)
  unfolding line_bytes
  good_enters s r q = rw (frame_told line n told).0 q

-- ---- the lines of a text

full_unopened : Full unopened
unfolding opened
full_unopened = record { links = refl; formulas = refl }

full_cond : (t : Bool) (x y : Sheet) → Full x → Full y → Full (cond t x y)
full_cond true x y h k = h
full_cond false x y h k = k

full_entered : (s : Sheet) (x : List ℕ) → Full s → Full (entered s x)
unfolding entered
full_entered s x F =
    full_cond (eqb (at x 0) 0x0A) _ _ (same _ _ F.links)
    (full_cond (eqb (at x 0) 0x0B) _ _ (same _ _ F.links)
    (full_cond (eqb (at x 0) 0x0C) _ _ (same _ _ (length-set s.panel.links (at x 1) _ ∙ F.links))
    (full_cond (eqb (at x 0) 0x08) _ _ (record { links = F.links; formulas = length-set s.formulas (at x 1) _ ∙ F.formulas })
    (full_cond (eqb (at x 0) 0x0D) _ _ (same _ _ F.links) F))))
  where
    same : (p : Panel) (v : List ℤ) → length p.links ≡ 128 → Full (sheet_of p s.formulas v)
    same p v h = record { links = h; formulas = F.formulas }

-- what the lines from here on enter is the candidate
pub record Entering (text : List ℕ) (s : Sheet) (from : ℕ) : Type 0 where
  pub within : from ≤ length text
  pub full : Full s
  pub rest : entered_all s (map line_bytes (lines_of (drop from text))) ≡ candidate text

pub entering_none : (text : List ℕ) (s : Sheet) → s ≡ unopened → Entering text s 0
unfolding candidate
entering_none text s e = rw e (record { within = omega arith; full = full_unopened; rest = refl })

module _ (text : List ℕ) (from end next : ℕ) (h : from < length text) (e : end ≡ from + line_length (drop from text))
    (n : next ≡ behind_of end (length text)) where
  pub next_less : from < next
  next_less = rw n (behind_on text from end h e)

  pub entering_on : (s r : Sheet) → Entering text s from → r ≡ entered s (line_bytes (take (end - from) (drop from text))) → Entering text r next
  unfolding entered_all
  entering_on s r P q = record {
    within = rw n (behind_within text from end h e);
    full = rw q (full_entered s (line_bytes (take (end - from) (drop from text))) P.full);
    rest = rw (q, n) (ap (λ (x : List (List ℕ)). entered_all s (map line_bytes x)) (sym (lines_on text from end h e)) ∙ P.rest);
  }

pub entering_all : (text : List ℕ) (s : Sheet) (from : ℕ) → length text ≤ from → Entering text s from → (s ≡ candidate text) × Full s
unfolding entered_all
entering_all text s from h P = (ap (λ (x : List (List ℕ)). entered_all s (map line_bytes x)) (sym (lines_end text from h)) ∙ P.rest, P.full)
