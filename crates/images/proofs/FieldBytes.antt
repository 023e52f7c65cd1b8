-- Field bytes of two sets, and the sets that they give back. Assumes nothing.
use Prim.Native.Nat.{ℕ, zero, suc, ◌+◌, ◌/◌, ◌%◌, ◌^◌, ◌≤◌, ◌<◌}
use mathlib.Core.Path.{◌≡◌, refl, sym, ap, ◌∙◌}
use mathlib.Core.Bool.{Bool, true, false, ◌&&◌, ◌||◌, cond}
use mathlib.Core.List.{List, [], ◌∷◌, ◌++◌}
use native.Mathlib.Decide.{ℕ_discrete, dec_lt}
use native.Mathlib.Omega.{arith}
use lib.Dec.{eqb, ltb}
use lib.ListN.{length, length-append}
use borrow.Author.Tests.{lt-ltb, le-ltb, eq-eqb, ne_eqb}
use Rattle.fieldset.specs.Numbers.{count}
use Rattle.fieldset.specs.Fields.{member, with, size}
use Rattle.fieldset.proofs.Fields.{ext_member, member_empty, member_with}
use Rattle.panel.proofs.Checks.{fields_lt}
use Rattle.panel.specs.Commands.{field_of, is_output, fields_in, covered_in, outputs_in}
use Rattle.images.specs.Images.{gather, field_byte, field_piece, field_bytes}
use Rattle.images.proofs.Lines.{Bytes, all_gather}

or_assoc : (a b c : Bool) → ((a || b) || c) ≡ (a || (b || c))
or_assoc true b c = refl
or_assoc false b c = refl

or_comm : (a b : Bool) → (a || b) ≡ (b || a)
or_comm true true = refl
or_comm true false = refl
or_comm false true = refl
or_comm false false = refl

or_swap : (a b c : Bool) → ((a || b) || c) ≡ ((a || c) || b)
or_swap true b c = refl
or_swap false b c = or_comm b c

or_false : (a : Bool) → (a || false) ≡ a
or_false true = refl
or_false false = refl

pub and_true : (a : Bool) → (a && true) ≡ a
and_true true = refl
and_true false = refl

pub and_false : (a : Bool) → (a && false) ≡ false
and_false true = refl
and_false false = refl

-- ---- the sets of joined bytes

fields_one : (q : ℕ → Bool) (b u : ℕ) (bs : List ℕ) → u < 64 → member (fields_in q (b ∷ bs)) u ≡ (member (fields_in q bs) u || (q b && eqb u (field_of b)))
unfolding fields_in
fields_one q b u bs l = go (q b)
  where
    go : (t : Bool) → member (elim t [ true ↦ with (fields_in q bs) (field_of b) | false ↦ fields_in q bs ]) u ≡ (member (fields_in q bs) u || (t && eqb u (field_of b)))
    go true = member_with (fields_in q bs) (field_of b) u l
    go false = sym (or_false (member (fields_in q bs) u))

fields_none : (q : ℕ → Bool) (u : ℕ) → member (fields_in q []) u ≡ false
unfolding fields_in
fields_none q u = member_empty u

fields_append : (q : ℕ → Bool) (a b : List ℕ) (u : ℕ) → u < 64 → member (fields_in q (a ++ b)) u ≡ (member (fields_in q a) u || member (fields_in q b) u)
fields_append q [] b u l = rw (fields_none q u)
fields_append q (x ∷ a) b u l =
    fields_one q x u (a ++ b) l ∙ ap (λ (t : Bool). t || (q x && eqb u (field_of x))) (fields_append q a b u l)
    ∙ or_swap (member (fields_in q a) u) (member (fields_in q b) u) (q x && eqb u (field_of x))
    ∙ ap (λ (t : Bool). t || member (fields_in q b) u) (sym (fields_one q x u a l))

-- ---- the bytes of two sets

pub field_byte_lem : (o u : ℕ) → u < 64 → field_of (field_byte o u) ≡ u
field_byte_lem o u l = go (member o u)
  where
    go : (t : Bool) → cond t (u + 128) u % 64 ≡ u
    go true = omega arith
    go false = omega arith

output_byte_lem : (o u : ℕ) → u < 64 → is_output (field_byte o u) ≡ member o u
output_byte_lem o u l = go (member o u)
  where
    go : (t : Bool) → eqb (cond t (u + 128) u / 128 % 2) 1 ≡ t
    go true = eq-eqb ((u + 128) / 128 % 2) 1 (omega arith)
    go false = ne_eqb (u / 128 % 2) 1 (λ e. omega arith)

module _ (c o : ℕ) (q w : ℕ → Bool) (says : (u : ℕ) → u < 64 → q (field_byte o u) ≡ w u) where
  piece_fields : (i u : ℕ) → i < 64 → u < 64 → member (fields_in q (field_piece c o i)) u ≡ (eqb u i && (member c i && w i))
  piece_fields i u h l = go (member c i)
    where
      alone : member (fields_in q (field_byte o i ∷ [])) u ≡ (eqb u i && w i)
      alone =
          fields_one q (field_byte o i) u [] l ∙ rw (fields_none q u, says i h, field_byte_lem o i h) (swap (w i) (eqb u i))
        where
          swap : (a b : Bool) → (a && b) ≡ (b && a)
          swap true b = sym (and_true b)
          swap false b = sym (and_false b)

      go : (t : Bool) → member (fields_in q (cond t (field_byte o i ∷ []) [])) u ≡ (eqb u i && (t && w i))
      go true = alone
      go false = fields_none q u ∙ sym (and_false (eqb u i))

  gathered : (k u : ℕ) → k ≤ 64 → u < 64 → member (fields_in q (gather (field_piece c o) k)) u ≡ (ltb u k && (member c u && w u))
  unfolding gather
  gathered zero u h l = fields_none q u ∙ rw (le-ltb u 0 (omega arith))
  gathered (suc k) u h l =
      fields_append q (gather (field_piece c o) k) (field_piece c o k) u l
      ∙ rw (gathered k u (omega arith) l, piece_fields k u h l) (go (ℕ_discrete u k))
    where
      go : Dec (u ≡ k) → ((ltb u k && (member c u && w u)) || (eqb u k && (member c k && w k))) ≡ (ltb u (suc k) && (member c u && w u))
      go (yes e) = rw (e, le-ltb k k (omega arith), eq-eqb k k refl, lt-ltb k (suc k) (omega arith))
      go (no e) = rw (ne_eqb u k e) (or_false (ltb u k && (member c u && w u)) ∙ ap (λ (t : Bool). t && (member c u && w u)) (less (dec_lt u k)))
        where
          less : Dec (u < k) → ltb u k ≡ ltb u (suc k)
          less (yes h) = lt-ltb u k h ∙ sym (lt-ltb u (suc k) (omega arith))
          less (no h) = le-ltb u k (omega arith) ∙ sym (le-ltb u (suc k) (omega arith))

pub covered_back : (c o : ℕ) → c < 2 ^ 64 → covered_in (field_bytes c o) ≡ c
unfolding field_bytes
covered_back c o h =
    ext_member 64 (covered_in (gather (field_piece c o) 64)) c (fields_lt (λ b. true) (gather (field_piece c o) 64)) h
    (λ u l. gathered c o (λ b. true) (λ b. true) (λ v m. refl) 64 u (omega arith) l ∙ rw (lt-ltb u 64 l) (and_true (member c u)))

pub outputs_back : (c o : ℕ) → o < 2 ^ 64 → ((u : ℕ) → u < 64 → member o u ≡ true → member c u ≡ true) → outputs_in (field_bytes c o) ≡ o
unfolding field_bytes
outputs_back c o h sub =
    ext_member 64 (outputs_in (gather (field_piece c o) 64)) o (fields_lt is_output (gather (field_piece c o) 64)) h
    (λ u l. gathered c o is_output (member o) (λ v m. output_byte_lem o v m) 64 u (omega arith) l ∙ rw (lt-ltb u 64 l) (both u l (member o u) refl))
  where
    both : (u : ℕ) → u < 64 → (t : Bool) → member o u ≡ t → (member c u && t) ≡ t
    both u l true e = and_true (member c u) ∙ sub u l e
    both u l false e = and_false (member c u)

-- ---- they are bytes, as many as there are fields

pub field_bytes_lem : (c o : ℕ) → Bytes (field_bytes c o)
unfolding field_bytes
field_bytes_lem c o = all_gather (λ b. b < 256) (field_piece c o) 64 (λ u l. go u l (member c u) (member o u))
  where
    go : (u : ℕ) → u < 64 → (a b : Bool) → Bytes (cond a (cond b (u + 128) u ∷ []) [])
    go u l true true = let h : u + 128 < 256 = omega arith in (h, tt)
    go u l true false = let h : u < 256 = omega arith in (h, tt)
    go u l false b = tt

gather_length : (c o k : ℕ) → length (gather (field_piece c o) k) ≡ count (member c) k
unfolding gather count
gather_length c o zero = refl
gather_length c o (suc k) = length-append (gather (field_piece c o) k) (field_piece c o k) ∙ rw (gather_length c o k) (go (member c k))
  where
    go : (t : Bool) → count (member c) k + length (cond t (field_byte o k ∷ []) []) ≡ cond t (suc (count (member c) k)) (count (member c) k)
    go true = omega arith
    go false = omega arith

pub field_count : (c o : ℕ) → length (field_bytes c o) ≡ size c
unfolding field_bytes size
field_count c o = gather_length c o 64
