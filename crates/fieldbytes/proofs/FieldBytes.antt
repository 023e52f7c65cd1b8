-- Laws of field bytes: of the sets of their fields, of the scan that reads them, and of the check of a link. By induction on the bytes; that they
-- rise from a field on (`good_from`) lets a scan go from the front. Bytes that rise have as many fields as bytes, so the count of ones is their number
-- and the two forms of the check are equal (`add_check`).
use Prim.Native.Nat.{ℕ, suc, ◌+◌, ◌/◌, ◌%◌, ◌^◌, ◌≤◌, ◌<◌}
use mathlib.Core.Path.{◌≡◌, refl, sym, ap, ◌∙◌}
use mathlib.Core.Bool.{Bool, true, false, not, ◌&&◌, ◌||◌, cond, and_assoc, and-true, and-false, or_assoc, or_comm}
use mathlib.Core.List.{List, [], ◌∷◌}
use native.Mathlib.Decide.{ℕ_discrete, dec_lt}
use native.Mathlib.Numerals.{add-one}
use native.Mathlib.Omega.{arith}
use borrow.Author.Tests.{lt-ltb, le-ltb, le-leb, lt-leb, eq-eqb, ne_eqb, eqb-false, ltb-true}
use lib.Dec.{eqb, leb, ltb, leb-zero}
use lib.ListN.{length, drop, drop_of_length-le}
use lib.Pow.{pow_pos}
use lib.Seq.{drop-cons}
use Rattle.fieldset.specs.Tables.{at}
use Rattle.fieldset.specs.Fields.{member, with, union, below, size, within}
use Rattle.fieldset.proofs.Numbers.{clash, any_here, any_cong}
use Rattle.fieldset.proofs.Fields.{ext_member, member_empty, member_with, member_with_same, member_with_other, member_union, union_none, member_below, with_lt, union_lt, size_empty, size_with, within_true}
use Rattle.fieldset.proofs.Tests.{and_left, and_right, not_or}
use Rattle.panel.specs.Commands.{field_of, is_output, has_bit6, any_of, fields_in, covered_in, outputs_in, is_rising, are_field_bytes}
use Rattle.panel.proofs.Checks.{field_small, fields_lt}
use Rattle.fieldbytes.specs.Bytes.{FieldsOf}

-- ---- the sets of fields

pub covered_lt : (bytes : List ℕ) → covered_in bytes < 2 ^ 64
covered_lt bytes = fields_lt (λ b. true) bytes

pub outputs_lt : (bytes : List ℕ) → outputs_in bytes < 2 ^ 64
outputs_lt bytes = fields_lt is_output bytes

-- the set is empty where no byte passes
pub fields_none : (q : ℕ → Bool) (bytes : List ℕ) → eqb (fields_in q bytes) 0 ≡ not (any_of q bytes)
unfolding fields_in any_of
fields_none q [] = refl
fields_none q (b ∷ bs) = go (q b) (fields_none q bs)
  where
    go : (t : Bool) → eqb (fields_in q bs) 0 ≡ not (any_of q bs)
        → eqb (elim t [ true ↦ with (fields_in q bs) (field_of b) | false ↦ fields_in q bs ]) 0 ≡ not (t || any_of q bs)
    go true ih =
        ne_eqb (with (fields_in q bs) (field_of b)) 0
        (λ e. clash (member_with_same (fields_in q bs) (field_of b) (field_small b)) (rw e (member_empty (field_of b))))
    go false ih = ih

pub outputs_none : (bytes : List ℕ) → eqb (outputs_in bytes) 0 ≡ not (any_of is_output bytes)
outputs_none bytes = fields_none is_output bytes

pub some_output : (bytes : List ℕ) → any_of is_output bytes ≡ true → 0 < outputs_in bytes
some_output bytes e = let h : outputs_in bytes ≡ 0 → ⊥ = eqb-false (outputs_in bytes) 0 (outputs_none bytes ∙ ap not e) in omega arith

-- ---- rising fields

-- what follows the first rises too
rising_tail : (a : ℕ) (bs : List ℕ) → is_rising (a ∷ bs) ≡ true → is_rising bs ≡ true
unfolding is_rising
rising_tail a [] e = refl
rising_tail a (b ∷ bs) e = and_right (ltb (field_of a) (field_of b)) (is_rising (b ∷ bs)) e

-- no field of what follows is as low as the first
rising_above : (a : ℕ) (bs : List ℕ) (j : ℕ) → is_rising (a ∷ bs) ≡ true → j ≤ field_of a → member (covered_in bs) j ≡ false
unfolding is_rising fields_in
rising_above a [] j e h = member_empty j
rising_above a (b ∷ bs) j e h =
    let low : field_of a < field_of b = ltb-true (field_of a) (field_of b) (and_left (ltb (field_of a) (field_of b)) (is_rising (b ∷ bs)) e) in
    let apart : j ≡ field_of b → ⊥ = (λ d. omega arith) in
    member_with_other (covered_in bs) (field_of b) j (omega (arith, field_small b)) apart
    ∙ rising_above b bs j (rising_tail a (b ∷ bs) e) (omega arith)

-- there are as many covered fields as bytes
pub covered_size : (bytes : List ℕ) → is_rising bytes ≡ true → size (covered_in bytes) ≡ length bytes
unfolding fields_in
covered_size [] e = size_empty
covered_size (b ∷ bs) e =
    size_with (covered_in bs) (field_of b) (field_small b) (rising_above b bs (field_of b) e (omega arith))
    ∙ ap suc (covered_size bs (rising_tail b bs e))

-- ---- fields of the panel

-- a set with one more field
within_with : (m f s : ℕ) → f < 64 → within (with m f) s ≡ (member s f && within m s)
unfolding within
within_with m f s l = go (member s f) refl
  where
    at_field : member s f ≡ true → (j : ℕ) → j < 64 → Dec (j ≡ f) → (member (with m f) j && not (member s j)) ≡ (member m j && not (member s j))
    at_field e j k (yes d) = rw (d, e) (and-false (member (with m f) f) ∙ sym (and-false (member m f)))
    at_field e j k (no d) = rw (member_with_other m f j k d)

    go : (b : Bool) → member s f ≡ b → within (with m f) s ≡ (b && within m s)
    go true e =
        ap not (any_cong (λ j. member (with m f) j && not (member s j)) (λ j. member m j && not (member s j)) 64
        (λ j k. at_field e j k (ℕ_discrete j f)))
    go false e = ap not (any_here (λ j. member (with m f) j && not (member s j)) 64 f l (rw (member_with_same m f l, e)))

ltb_not : (a b : ℕ) → ltb a b ≡ not (leb b a)
ltb_not a b = go (dec_lt a b)
  where
    go : Dec (a < b) → ltb a b ≡ not (leb b a)
    go (yes l) = rw (lt-ltb a b l, lt-leb b a l)
    go (no l) = rw (le-ltb a b (omega arith), le-leb b a (omega arith))

-- all covered fields are below n
pub covered_within : (n : ℕ) (bytes : List ℕ) → within (covered_in bytes) (below n) ≡ not (any_of (λ b. leb n (field_of b)) bytes)
unfolding fields_in any_of
covered_within n [] = within_true 0 (below n) (λ i l e. absurd (clash e (member_empty i)))
covered_within n (b ∷ bs) =
    within_with (covered_in bs) (field_of b) (below n) (field_small b)
    ∙ rw (member_below n (field_of b) (field_small b), ltb_not (field_of b) n, covered_within n bs)
    (sym (not_or (leb n (field_of b)) (any_of (λ b. leb n (field_of b)) bs)))

-- ---- reading from the front

-- the bytes rise from a field on, and have bit 6 zero
unfoldable pub good_from : ℕ → List ℕ → Bool
good_from low [] = true
good_from low (b ∷ bs) = (leb low (field_of b) && not (has_bit6 b)) && good_from (field_of b + 1) bs

and_regroup : (x y z w : Bool) → ((x && not y) && (z && not w)) ≡ ((x && z) && not (y || w))
and_regroup false y z w = refl
and_regroup true true true w = refl
and_regroup true true false w = refl
and_regroup true false z w = refl

good_after : (a : ℕ) (bs : List ℕ) → good_from (field_of a + 1) bs ≡ (is_rising (a ∷ bs) && not (any_of has_bit6 bs))
unfolding good_from is_rising any_of
good_after a [] = refl
good_after a (b ∷ bs) =
    rw (good_after b bs, add-one (field_of a)) (and_regroup (ltb (field_of a) (field_of b)) (has_bit6 b) (is_rising (b ∷ bs)) (any_of has_bit6 bs))

pub good_all : (bytes : List ℕ) → good_from 0 bytes ≡ (is_rising bytes && not (any_of has_bit6 bytes))
unfolding good_from is_rising any_of
good_all [] = refl
good_all (b ∷ bs) = rw (leb-zero (field_of b), good_after b bs) (and_regroup true (has_bit6 b) (is_rising (b ∷ bs)) (any_of has_bit6 bs))

-- a field moves from one set to the other
union_with : (m s f : ℕ) → union (with m f) s ≡ union m (with s f)
union_with m s f =
    ext_member 64 (union (with m f) s) (union m (with s f)) (union_lt (with m f) s) (union_lt m (with s f))
    (λ j l. rw (member_union (with m f) s j l, member_with m f j l, member_union m (with s f) j l, member_with s f j l)
    (or_assoc (member m j) (eqb j f) (member s j) ∙ ap (λ (b : Bool). member m j || b) (or_comm (eqb j f) (member s j))))

none_union : (m : ℕ) → m < 2 ^ 64 → union 0 m ≡ m
none_union m h = ext_member 64 (union 0 m) m (union_lt 0 m) h (λ j l. rw (member_union 0 m j l, member_empty j))

-- what is read of the first i bytes, with what is left, is the whole
pub record Reading (bytes : List ℕ) (i c o : ℕ) (r : Bool) (low : ℕ) : Type 0 where
  pub bound : i ≤ length bytes
  pub covered_small : c < 2 ^ 64
  pub outputs_small : o < 2 ^ 64
  pub covered : union c (covered_in (drop i bytes)) ≡ covered_in bytes
  pub outputs : union o (outputs_in (drop i bytes)) ≡ outputs_in bytes
  pub rising : (r && good_from low (drop i bytes)) ≡ (is_rising bytes && not (any_of has_bit6 bytes))

pub read_none : (bytes : List ℕ) → Reading bytes 0 0 0 true 0
read_none bytes = record {
  bound = omega arith;
  covered_small = pow_pos 64;
  outputs_small = pow_pos 64;
  covered = none_union (covered_in bytes) (covered_lt bytes);
  outputs = none_union (outputs_in bytes) (outputs_lt bytes);
  rising = good_all bytes;
}

-- one more byte of a set
fields_more : (q : ℕ → Bool) (b : ℕ) (bs : List ℕ) (m : ℕ) → union (cond (q b) (with m (field_of b)) m) (fields_in q bs) ≡ union m (fields_in q (b ∷ bs))
unfolding fields_in
fields_more q b bs m = go (q b)
  where
    go : (t : Bool)
        → union (cond t (with m (field_of b)) m) (fields_in q bs) ≡ union m (elim t [ true ↦ with (fields_in q bs) (field_of b) | false ↦ fields_in q bs ])
    go true = union_with m (fields_in q bs) (field_of b)
    go false = refl

set_lt : (t : Bool) (m f : ℕ) → m < 2 ^ 64 → cond t (with m f) m < 2 ^ 64
set_lt true m f h = with_lt m f
set_lt false m f h = h

module _ (bytes : List ℕ) (i c o : ℕ) (r : Bool) (low : ℕ) (R : Reading bytes i c o r low) where
  -- one more byte
  pub read_more : (f c' o' : ℕ) (r' : Bool) → i < length bytes → f ≡ field_of (at bytes i) → c' ≡ with c f → o' ≡ cond (is_output (at bytes i)) (with o f) o
      → r' ≡ (r && (leb low f && not (has_bit6 (at bytes i)))) → Reading bytes (i + 1) c' o' r' (f + 1)
  unfolding good_from
  read_more f c' o' r' l ef ec eo er =
      let b : ℕ = at bytes i in
      let e : drop i bytes ≡ b ∷ drop (i + 1) bytes = drop-cons bytes i 0 l ∙ rw (add-one i) in
      record {
        bound = omega arith;
        covered_small = rw ec (with_lt c f);
        outputs_small = rw eo (set_lt (is_output b) o f R.outputs_small);
        covered = rw (ec, ef) (fields_more (λ b. true) b (drop (i + 1) bytes) c ∙ ap (λ (l : List ℕ). union c (covered_in l)) (sym e) ∙ R.covered);
        outputs = rw (eo, ef) (fields_more is_output b (drop (i + 1) bytes) o ∙ ap (λ (l : List ℕ). union o (outputs_in l)) (sym e) ∙ R.outputs);
        rising =
            rw (er, ef) (and_assoc r (leb low (field_of b) && not (has_bit6 b)) (good_from (field_of b + 1) (drop (i + 1) bytes))
            ∙ ap (λ (l : List ℕ). r && good_from low l) (sym e) ∙ R.rising);
      }

  pub read_all : length bytes ≤ i → FieldsOf bytes c o r
  unfolding good_from fields_in
  read_all h =
      let e : drop i bytes ≡ [] = drop_of_length-le bytes {i = i} h in
      record {
        covered = sym (ap (λ (l : List ℕ). union c (covered_in l)) e ∙ union_none c R.covered_small) ∙ R.covered;
        outputs = sym (ap (λ (l : List ℕ). union o (outputs_in l)) e ∙ union_none o R.outputs_small) ∙ R.outputs;
        rising = sym (ap (λ (l : List ℕ). r && good_from low l) e ∙ and-true r) ∙ R.rising;
      }

-- an output byte, by the code's test and by its bit 7
module _ (b f o o' : ℕ) where
  pub reads_output : b < 256 → 128 ≤ b → o' ≡ with o f → o' ≡ cond (is_output b) (with o f) o
  reads_output h l e = rw (eq-eqb (b / 128 % 2) 1 (omega arith)) e

  pub reads_input : b < 128 → o' ≡ o → o' ≡ cond (is_output b) (with o f) o
  reads_input h e = rw (ne_eqb (b / 128 % 2) 1 (λ (k : b / 128 % 2 ≡ 1). omega arith)) e

-- rising fields with bit 6 zero, by the code's tests
module _ (b f low : ℕ) (r r' : Bool) where
  pub reads_low : f < low → r' ≡ false → r' ≡ (r && (leb low f && not (has_bit6 b)))
  reads_low h e = rw (lt-leb low f h, and-false r) e

  pub reads_bit : has_bit6 b ≡ true → r' ≡ false → r' ≡ (r && (leb low f && not (has_bit6 b)))
  reads_bit h e = rw (h, and-false (leb low f), and-false r) e

  pub reads_rising : low ≤ f → has_bit6 b ≡ false → r' ≡ r → r' ≡ (r && (leb low f && not (has_bit6 b)))
  reads_rising h k e = rw (le-leb low f h, k, and-true r) e

-- ---- the check of a link

-- where the fields do not rise
check_unordered : (x y z w v o : Bool) → (x || y || true || o) ≡ (x || true || z || w || v)
check_unordered true y z w v o = refl
check_unordered false true z w v o = refl
check_unordered false false z w v o = refl

-- where they rise
check_rising : (x a e b o : Bool) → (x || not (a && e && not b) || false || o) ≡ (x || not (true && not b) || not a || not e || o)
check_rising true a e b o = refl
check_rising false true true true o = refl
check_rising false true true false o = refl
check_rising false true false true o = refl
check_rising false true false false o = refl
check_rising false false e true o = refl
check_rising false false true false o = refl
check_rising false false false false o = refl

-- an add is a bad link: as defined, and by the sets of its fields
pub add_check : (id level : ℕ) (bytes : List ℕ)
    → (ltb 127 id || ltb 15 level || not (are_field_bytes bytes) || not (is_rising bytes) || not (any_of is_output bytes))
    ≡ (ltb 127 id || ltb 15 level || not (is_rising bytes && not (any_of has_bit6 bytes))
    || eqb (size (covered_in bytes)) 0 || ltb 8 (size (covered_in bytes)) || eqb (outputs_in bytes) 0)
unfolding are_field_bytes
add_check id level bytes = go (is_rising bytes) refl
  where
    go : (r : Bool) → is_rising bytes ≡ r
        → (ltb 127 id || ltb 15 level || not (leb 1 (length bytes) && leb (length bytes) 8 && not (any_of has_bit6 bytes)) || not r || not (any_of is_output bytes))
        ≡ (ltb 127 id || ltb 15 level || not (r && not (any_of has_bit6 bytes))
        || eqb (size (covered_in bytes)) 0 || ltb 8 (size (covered_in bytes)) || eqb (outputs_in bytes) 0)
    go false e =
        check_unordered (ltb 127 id || ltb 15 level) (not (leb 1 (length bytes) && leb (length bytes) 8 && not (any_of has_bit6 bytes)))
        (eqb (size (covered_in bytes)) 0) (ltb 8 (size (covered_in bytes))) (eqb (outputs_in bytes) 0) (not (any_of is_output bytes))
    go true e =
        rw (covered_size bytes e, outputs_none bytes, ltb_not 8 (length bytes), empty (length bytes))
        (check_rising (ltb 127 id || ltb 15 level) (leb 1 (length bytes)) (leb (length bytes) 8) (any_of has_bit6 bytes) (not (any_of is_output bytes)))
      where
        empty : (n : ℕ) → eqb n 0 ≡ not (leb 1 n)
        empty n = at_zero (ℕ_discrete n 0)
          where
            at_zero : Dec (n ≡ 0) → eqb n 0 ≡ not (leb 1 n)
            at_zero (yes z) = rw z
            at_zero (no z) = rw (ne_eqb n 0 z, le-leb 1 n (omega arith))
