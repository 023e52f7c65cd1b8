-- Texts written one behind the other (`wrote_more`), and `Growing`, what every loop keeps: of a text that grows by a piece at each number, the part of
-- the numbers below i is written.
use Prim.Native.Nat.{ℕ, zero, suc, ◌+◌, ◌*◌, ◌/◌, ◌%◌, ◌≤◌, ◌<◌}
use mathlib.Core.Path.{◌≡◌, refl, sym, ap, ap₂, ◌∙◌}
use mathlib.Core.Bool.{Bool, true, false, cond}
use mathlib.Core.List.{List, [], ◌∷◌, ◌++◌, append-nil}
use native.Mathlib.Nat.{add-zero, mul-suc}
use native.Mathlib.Numerals.{add-one}
use native.Mathlib.Omega.{arith}
use lib.Dec.{eqb, ltb}
use lib.IntN.{ℤ}
use lib.ListN.{length, get_or, take, length-append}
use lib.Seq.{sets, length-sets, length-take-le, get_or-take}
use borrow.Author.Tests.{ltb-false, ne_eqb, lt-ltb, le-ltb}
use Rattle.std.specs.Prelude.{Option, Some, None, position}
use Rattle.std.proofs.lemmas.List.Quantifiers.{position-Some}
use Rattle.std.proofs.lemmas.List.Sums.{fails_before_first}
use Rattle.fieldset.specs.Tables.{at, tabulate}
use Rattle.fieldset.specs.Fields.{member}
use Rattle.fieldset.proofs.Tables.{sets_append, length_tabulate}
use Rattle.fieldset.proofs.Numbers.{lowest_unique, lowest_none}
use Rattle.panel.specs.declared.Link.{Link}
use Rattle.panel.specs.Items.{link_at}
use Rattle.panel.specs.Commands.{is_open}
use Rattle.values.specs.Limits.{value_at}
use Rattle.values.specs.Words.{bits_of}
use Rattle.formulas.specs.Formulas.{Rule}
use Rattle.formulas.specs.declared.Formula.TheVariants.{Ratio, Sum}
use Rattle.sheet.specs.declared.Sheet.{Sheet}
use Rattle.sheet.specs.Sheets.{formula_at}
use Rattle.hexadecimal.specs.Hex.{hex_of, line_of, lf}
use Rattle.hexadecimal.proofs.Bytes.{length_hex, length_line}
use Rattle.writing.proofs.Lines.{hex_append}
use Rattle.frames.specs.Texts.{written}
use Rattle.frames.specs.Frames.{formula_bytes}
use Rattle.frames.proofs.Outputs.{written_append}
use Rattle.images.specs.Images.{gather, field_at, stay_order, field_byte, field_piece, field_bytes, standing_byte, link_frame, link_frames, link_piece, formula_frames, formula_piece, four_bytes, value_frames, value_piece, frames_of, image_of}
use Rattle.images.specs.Reading.{version}
use Rattle.saving.specs.Wrote.{Wrote}
use Rattle.saving.specs.Saves.{SavedAs}

-- ---- texts, one behind the other

pub wrote_none : (o : List ℕ) (p : ℕ) → Wrote o p o p []
wrote_none o p = record { buffer = refl; position = sym (add-zero p) }

pub wrote_more : {o o₁ o₂ : List ℕ} {p q r : ℕ} {t u : List ℕ} → Wrote o p o₁ q t → Wrote o₁ q o₂ r u → Wrote o p o₂ r (t ++ u)
wrote_more {o} {p = p} {t = t} {u = u} A B = record {
  buffer = B.buffer ∙ ap₂ (λ (l : List ℕ) (k : ℕ). sets l k u) A.buffer A.position ∙ sets_append o p t u;
  position = omega (arith, A.position, B.position, length-append t u);
}

pub wrote_as : {o o' : List ℕ} {p q : ℕ} {t u : List ℕ} → t ≡ u → Wrote o p o' q t → Wrote o p o' q u
wrote_as e A = rw e at A

pub wrote_length : {o o' : List ℕ} {p q : ℕ} {t : List ℕ} → Wrote o p o' q t → length o' ≡ length o
wrote_length W = ap length W.buffer ∙ simp length-sets

-- bytes, whose digits are two each
pub wrote_bytes : (o o' : List ℕ) (p : ℕ) (b : List ℕ) → o' ≡ sets o p (hex_of b) → Wrote o p o' (p + 2 * length b) (hex_of b)
wrote_bytes o o' p b e = record { buffer = e; position = omega (arith, length_hex b) }

-- a line
pub written_one : (b : List ℕ) → line_of b ≡ written (b ∷ [])
unfolding written
written_one b = sym (append-nil (line_of b))

pub wrote_line : (o o' : List ℕ) (p q : ℕ) (b : List ℕ) → (o' ≡ sets o p (line_of b)) × (q ≡ p + length (line_of b)) → Wrote o p o' q (written (b ∷ []))
wrote_line o o' p q b h = wrote_as (written_one b) (record { buffer = h.0; position = h.1 })

-- the digits of a line, and its LF
pub wrote_ended : {o o₁ o₂ : List ℕ} {p q r : ℕ} (b : List ℕ) → Wrote o p o₁ q (hex_of b) → Wrote o₁ q o₂ r (lf ∷ []) → Wrote o p o₂ r (written (b ∷ []))
unfolding line_of
wrote_ended b A B = wrote_as (written_one b) (wrote_more A B)

-- ---- a text that grows

-- of pieces that are each at most k long, those of the numbers below i are written
pub record Growing (text : ℕ → List ℕ) (k : ℕ) (o : List ℕ) (p : ℕ) (o' : List ℕ) (q i : ℕ) : Type 0 where
  pub near : q ≤ p + k * i
  pub wrote : Wrote o p o' q (text i)

pub growing_none : (text : ℕ → List ℕ) (k : ℕ) (o : List ℕ) (p : ℕ) → text 0 ≡ [] → Growing text k o p o p 0
growing_none text k o p e = record { near = omega arith; wrote = wrote_as (sym e) (wrote_none o p) }

pub growing_on : {text : ℕ → List ℕ} {k : ℕ} {o o₁ o₂ : List ℕ} {p q r i : ℕ} {u : List ℕ} → text (suc i) ≡ text i ++ u → length u ≤ k
    → Growing text k o p o₁ q i → Wrote o₁ q o₂ r u → Growing text k o p o₂ r (i + 1)
growing_on {text} {k} {i = i} e short G W = record {
  near = omega (arith, mul-suc k i, ap (λ (x : ℕ). k * x) (add-one i), G.near, W.position);
  wrote = wrote_as (sym (ap text (add-one i) ∙ e)) (wrote_more G.wrote W);
}

pub growing_all : {text : ℕ → List ℕ} {k : ℕ} {o o' : List ℕ} {p q i n : ℕ} → i ≡ n → Growing text k o p o' q i → Growing text k o p o' q n
growing_all e G = rw e at G

-- how far it is to its end
pub growing_length : (text : ℕ → List ℕ) (k : ℕ) (piece : ℕ → List ℕ) → text 0 ≡ [] → ((i : ℕ) → text (suc i) ≡ text i ++ piece i)
    → ((i : ℕ) → length (piece i) ≤ k) → (n : ℕ) → length (text n) ≤ k * n
growing_length text k piece e more short zero = omega (arith, ap length e)
growing_length text k piece e more short (suc n) =
    omega (arith, growing_length text k piece e more short n, short n, mul-suc k n, ap length (more n), length-append (text n) (piece n))

-- lines, gathered
abbrev pub lines_to : (ℕ → List (List ℕ)) → ℕ → List ℕ
lines_to f i = written (gather f i)

pub lines_none : (f : ℕ → List (List ℕ)) → lines_to f 0 ≡ []
unfolding gather written
lines_none f = refl

pub lines_more : (f : ℕ → List (List ℕ)) (i : ℕ) → lines_to f (suc i) ≡ lines_to f i ++ written (f i)
unfolding gather
lines_more f i = written_append (gather f i) (f i)

-- digits, gathered
abbrev pub digits_to : (ℕ → List ℕ) → ℕ → List ℕ
digits_to f i = hex_of (gather f i)

pub digits_none : (f : ℕ → List ℕ) → digits_to f 0 ≡ []
unfolding gather hex_of
digits_none f = refl

pub digits_more : (f : ℕ → List ℕ) (i : ℕ) → digits_to f (suc i) ≡ digits_to f i ++ hex_of (f i)
unfolding gather
digits_more f i = hex_append (gather f i) (f i)

-- digits of a table
abbrev pub table_to : (ℕ → ℕ) → ℕ → List ℕ
table_to f i = hex_of (tabulate f i)

pub table_none : (f : ℕ → ℕ) → table_to f 0 ≡ []
unfolding tabulate hex_of
table_none f = refl

pub table_more : (f : ℕ → ℕ) (i b : ℕ) → b ≡ f i → table_to f (suc i) ≡ table_to f i ++ hex_of (b ∷ [])
unfolding tabulate
table_more f i b e = rw e (hex_append (tabulate f i) (f i ∷ []))

pub byte_short : (b : ℕ) → length (hex_of (b ∷ [])) ≤ 2
byte_short b = omega (arith, length_hex (b ∷ []))

-- ---- the stays' order

-- the first field with its stay at the place p, or none
module _ (place : List ℕ) (n p : ℕ) (fits : n ≤ length place) where
  abbrev there : ℕ → Bool
  there = λ q. eqb q p

  count_is : length (take n place) ≡ n
  count_is = length-take-le n place fits

  same_at : (f : ℕ) {b : Bool} → f < n → there (get_or (take n place) f 0) ≡ b → there (at place f) ≡ b
  same_at f l e = ap there (sym (get_or-take n place f 0 l)) ∙ e

  pub field_found : {f : ℕ} → Some f ≡ position there (take n place) → f ≡ field_at place n p
  unfolding field_at
  field_found {f} e =
      let h = position-Some there (take n place) f 0 (sym e) in
      let l : f < n = omega (arith, h.0, count_is) in
      sym (lowest_unique (λ g. there (at place g)) n 64 f l (same_at f l h.1) (λ g k. same_at g (omega arith) (h.2 g k)))

  pub field_none : ◌≡◌ {A = Option ℕ} None (position there (take n place)) → 64 ≡ field_at place n p
  unfolding field_at
  field_none e = sym (lowest_none (λ g. there (at place g)) n 64 (λ g l. same_at g l (fails_before_first there (take n place) g 0 (past g l _ _ refl e))))
    where
      past : (g : ℕ) → g < n → (r : ℕ) (b : Bool) → b ≡ ltb r (length (take n place)) → ◌≡◌ {A = Option ℕ} None (cond b (Some r) None) → g < r
      past g l r true t e = absurd (grind arith)
      past g l r false t e = omega (arith, ltb-false _ _ (sym t), count_is)

-- its line: 0B, the fields, LF
pub order_written : (place : List ℕ) (n : ℕ) {o o₀ o₁ o₂ : List ℕ} {p q₀ q r : ℕ} → Wrote o p o₀ q₀ (hex_of (0x0B ∷ []))
    → Growing (table_to (field_at place n)) 2 o₀ q₀ o₁ q n → Wrote o₁ q o₂ r (lf ∷ []) → Wrote o p o₂ r (written ((0x0B ∷ stay_order place n) ∷ []))
unfolding stay_order hex_of
order_written place n Z G W = wrote_ended (0x0B ∷ tabulate (field_at place n) n) (wrote_more Z G.wrote) W

pub order_length : (place : List ℕ) (n : ℕ) → length (written ((0x0B ∷ stay_order place n) ∷ [])) ≡ 2 * n + 3
unfolding stay_order
order_length place n = let f : List ℕ = 0x0B ∷ tabulate (field_at place n) n in
    omega (arith, ap length (sym (written_one f)), length_line f, length_tabulate (field_at place n) n)

-- ---- field bytes

pub field_in : (c o f b : ℕ) → member c f ≡ true → b ≡ field_byte o f → hex_of (b ∷ []) ≡ hex_of (field_piece c o f)
field_in c o f b m e = rw (m, e)

pub field_out : (c o f : ℕ) (out : List ℕ) (p : ℕ) → member c f ≡ false → Wrote out p out p (hex_of (field_piece c o f))
unfolding hex_of
field_out c o f out p m = rw m (wrote_none out p)

pub piece_short : (c o f : ℕ) → length (hex_of (field_piece c o f)) ≤ 2
unfolding hex_of
piece_short c o f = go (member c f)
  where
    go : (t : Bool) → length (hex_of (cond t (field_byte o f ∷ []) [])) ≤ 2
    go true = omega arith
    go false = omega arith

-- ---- a link's line

pub fields_short : (c o : ℕ) → length (hex_of (field_bytes c o)) ≤ 128
unfolding field_bytes
fields_short c o =
    growing_length (digits_to (field_piece c o)) 2 (λ f. hex_of (field_piece c o f))
    (digits_none (field_piece c o)) (digits_more (field_piece c o)) (piece_short c o) 64

pub link_unused : (i : ℕ) (l : Link) (o : List ℕ) (p : ℕ) → l.used ≡ false → Wrote o p o p (written (link_frames i l))
unfolding written
link_unused i l o p e = rw e (wrote_none o p)

pub link_written : (i : ℕ) (l : Link) (b : ℕ) (o o₁ o₂ o₃ : List ℕ) (p q r : ℕ) → l.used ≡ true → b ≡ standing_byte l.standing
    → o₁ ≡ sets o p (hex_of (0x0C ∷ i ∷ l.level ∷ b ∷ [])) → Wrote o₁ (p + 8) o₂ q (hex_of (field_bytes l.covered l.outputs))
    → Wrote o₂ q o₃ r (lf ∷ []) → Wrote o p o₃ r (written (link_frames i l))
unfolding hex_of
link_written i l b o o₁ o₂ o₃ p q r u e h F W =
    rw (u, ← e)
    (wrote_ended (0x0C ∷ i ∷ l.level ∷ b ∷ field_bytes l.covered l.outputs)
    (wrote_more (wrote_bytes o o₁ p (0x0C ∷ i ∷ l.level ∷ b ∷ []) h) F) W)

line_length_lem : (b : List ℕ) → length (written (b ∷ [])) ≡ 2 * length b + 1
line_length_lem b = ap length (sym (written_one b)) ∙ length_line b

link_length : (i : ℕ) (l : Link) → length (written (link_frames i l)) ≤ 137
unfolding written
link_length i l = go l.used
  where
    go : (b : Bool) → length (written (cond b (link_frame i l ∷ []) [])) ≤ 137
    go true = omega (arith, line_length_lem (link_frame i l), fields_short l.covered l.outputs, length_hex (field_bytes l.covered l.outputs))
    go false = omega arith

-- ---- formulas and values

pub formula_none : (i : ℕ) {x : Rule} (o : List ℕ) (p : ℕ) → x ≡ None → Wrote o p o p (written (formula_frames i x))
unfolding written
formula_none i o p e = rw e (wrote_none o p)

pub formula_ratio : (i : ℕ) {x : Rule} {p q : ℕ} (o o' : List ℕ) (at r : ℕ) → x ≡ Some (Ratio p q)
    → (o' ≡ sets o at (line_of (0x08 ∷ i ∷ formula_bytes (Some (Ratio p q))))) × (r ≡ at + length (line_of (0x08 ∷ i ∷ formula_bytes (Some (Ratio p q)))))
    → Wrote o at o' r (written (formula_frames i x))
formula_ratio i {p = p} {q = q} o o' at r e h = rw e (wrote_line o o' at r (0x08 ∷ i ∷ formula_bytes (Some (Ratio p q))) h)

pub formula_sum : (i : ℕ) {x : Rule} {f : ℕ} (o o' : List ℕ) (at r : ℕ) → x ≡ Some (Sum f)
    → (o' ≡ sets o at (line_of (0x08 ∷ i ∷ formula_bytes (Some (Sum f))))) × (r ≡ at + length (line_of (0x08 ∷ i ∷ formula_bytes (Some (Sum f)))))
    → Wrote o at o' r (written (formula_frames i x))
formula_sum i {f = f} o o' at r e h = rw e (wrote_line o o' at r (0x08 ∷ i ∷ formula_bytes (Some (Sum f))) h)

formula_length : (i : ℕ) (x : Rule) → length (written (formula_frames i x)) ≤ 15
unfolding written
formula_length i None = omega arith
formula_length i (Some (Ratio p q)) = omega (arith, line_length_lem (0x08 ∷ i ∷ formula_bytes (Some (Ratio p q))))
formula_length i (Some (Sum f)) = omega (arith, line_length_lem (0x08 ∷ i ∷ formula_bytes (Some (Sum f))))

pub value_written : (f bits : ℕ) (o o' : List ℕ) (p q : ℕ) → (bits ≡ 0 → ⊥)
    → (o' ≡ sets o p (line_of (0x0D ∷ f ∷ four_bytes bits))) × (q ≡ p + length (line_of (0x0D ∷ f ∷ four_bytes bits)))
    → Wrote o p o' q (written (value_frames f bits))
value_written f bits o o' p q n h = rw (ne_eqb bits 0 n) (wrote_line o o' p q (0x0D ∷ f ∷ four_bytes bits) h)

-- the bytes of a number of 32 bits
pub four_bytes_are : (n : ℕ) {b : List ℕ} → n < 4294967296 → b ≡ n / 16777216 % 256 ∷ n / 65536 % 256 ∷ n / 256 % 256 ∷ n % 256 ∷ [] → b ≡ four_bytes n
four_bytes_are n h e = e ∙ ap (λ (x : ℕ). x ∷ n / 65536 % 256 ∷ n / 256 % 256 ∷ n % 256 ∷ []) (omega arith)

value_length : (f bits : ℕ) → length (written (value_frames f bits)) ≤ 13
unfolding written
value_length f bits = go (eqb bits 0)
  where
    go : (t : Bool) → length (written (cond t [] ((0x0D ∷ f ∷ four_bytes bits) ∷ []))) ≤ 13
    go true = omega arith
    go false = omega (arith, line_length_lem (0x0D ∷ f ∷ four_bytes bits))

-- ---- the lines of a table

abbrev pub Short : (ℕ → List (List ℕ)) → ℕ → Type 0
Short f k = (i : ℕ) → length (written (f i)) ≤ k

pub link_short : (links : List Link) → Short (link_piece links) 137
link_short links i = link_length i (link_at links i)

pub formula_short : (formulas : List Rule) → Short (formula_piece formulas) 15
formula_short formulas i = formula_length i (formula_at formulas i)

pub value_short : (values : List ℤ) → Short (value_piece values) 13
value_short values f = value_length f (bits_of (value_at values f))

-- one more line
pub lines_on : (f : ℕ → List (List ℕ)) {k : ℕ} {o o₁ o₂ : List ℕ} {p q r i : ℕ} → Short f k
    → Growing (lines_to f) k o p o₁ q i → Wrote o₁ q o₂ r (written (f i)) → Growing (lines_to f) k o p o₂ r (i + 1)
lines_on f {i = i} short G W = growing_on (lines_more f i) (short i) G W

pub lines_short : (f : ℕ → List (List ℕ)) (k : ℕ) → Short f k → (n : ℕ) → length (lines_to f n) ≤ k * n
lines_short f k short = growing_length (lines_to f) k (λ i. written (f i)) (lines_none f) (lines_more f) short

-- ---- the whole text

-- its five parts, one behind the other
pub image_written : (v : ℕ) (s : Sheet) {o o₁ o₂ o₃ o₄ o₅ : List ℕ} {p₁ p₂ p₃ p₄ p₅ : ℕ}
    → (o₁ ≡ sets o 0 (line_of (0x0A ∷ v ∷ s.panel.size ∷ []))) × (p₁ ≡ 0 + length (line_of (0x0A ∷ v ∷ s.panel.size ∷ [])))
    → Wrote o₁ p₁ o₂ p₂ (written ((0x0B ∷ stay_order s.panel.place s.panel.size) ∷ []))
    → Wrote o₂ p₂ o₃ p₃ (lines_to (link_piece s.panel.links) 128)
    → Wrote o₃ p₃ o₄ p₄ (lines_to (formula_piece s.formulas) 128)
    → Wrote o₄ p₄ o₅ p₅ (lines_to (value_piece s.values) s.panel.size)
    → Wrote o 0 o₅ p₅ (image_of v s)
unfolding image_of frames_of
image_written v s A B C D E =
    let a : List ℕ = 0x0A ∷ v ∷ s.panel.size ∷ [] in
    let b : List ℕ = 0x0B ∷ stay_order s.panel.place s.panel.size in
    let c : List (List ℕ) = gather (link_piece s.panel.links) 128 in
    let d : List (List ℕ) = gather (formula_piece s.formulas) 128 in
    let e : List (List ℕ) = gather (value_piece s.values) s.panel.size in
    wrote_as (sym (written_append (a ∷ []) (b ∷ (c ++ (d ++ e))))) (wrote_more (wrote_line _ _ _ _ a A)
    (wrote_as (sym (written_append (b ∷ []) (c ++ (d ++ e)))) (wrote_more B
    (wrote_as (sym (written_append c (d ++ e))) (wrote_more C
    (wrote_as (sym (written_append d e)) (wrote_more D E)))))))

-- ---- saving

pub saved_none : (s : Sheet) (o : List ℕ) → s.panel.size ≡ 0 → SavedAs s o o None
saved_none s o e = let h : is_open s.panel ≡ false = le-ltb 0 s.panel.size (omega arith) in record { answer = rw h; buffer = rw h }

pub saved_text_lem : (s : Sheet) (o o' : List ℕ) (n : ℕ) → (s.panel.size ≡ 0 → ⊥) → (o' ≡ sets o 0 (image_of version s)) × (n ≡ length (image_of version s))
    → SavedAs s o o' (Some n)
saved_text_lem s o o' n z h =
    let k : is_open s.panel ≡ true = lt-ltb 0 s.panel.size (omega arith) in
    record { answer = rw (k, h.1); buffer = rw k h.0 }
