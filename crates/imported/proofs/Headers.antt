-- A header's texts, exactly: its units by the tests of a text without its trailing spaces (`either_exactly`), its numbers by induction on the text. Its
-- refusals: each check by what it reads. The bytes behind a header: the output goes by the refusal and the flows, and these by the header
-- (`behind_refusal`, `behind_flows`); a count over 254 is bad, however long the file is. Assumes nothing.
use mathlib.Core.Path.{◌≡◌, refl, sym, ap, ap₂, subst, ◌∙◌}
use mathlib.Core.Bool.{Bool, true, false, not, ◌&&◌, cond}
use mathlib.Core.List.{List, [], ◌∷◌, ◌++◌, map}
use mathlib.Core.Logic.{◌⊎◌, ◌↔◌}
use mathlib.Core.Option.{Option, none, some}
use Prim.Native.Nat.{ℕ, ◌+◌, ◌*◌, ◌≤◌, ◌<◌}
use native.Mathlib.Decide.{dec_le}
use native.Mathlib.Omega.{arith}
use lib.Dec.{eqb, ltb}
use lib.ListN.{length, take, drop, replicate, take-append-drop}
use lib.Seq.{take_all, length-take-le, drop-append_seam}
use borrow.Author.Tests.{eq-eqb, eqb-true, lt-ltb, ltb-true}
use Rattle.fieldset.specs.Lists.{All}
use Rattle.fieldset.proofs.Tests.{and_left, and_right, and_both}
use Rattle.fieldset.proofs.Numbers.{clash, any_none, any_false}
use Rattle.panel.specs.declared.Refusal.{Refusal}
use Rattle.panel.specs.declared.Refusal.TheVariants.{BadHeader}
use Rattle.hexadecimal.specs.Characters.{characters}
use Rattle.edf.specs.Texts.{are_spaces, dropped, is_decimal, digits_of, number_from, is_plain, number_of, is_either, is_flow, lower, is_unclear}
use Rattle.edf.specs.Header.{length_text, count_text, count_of, header_length, unit_text, flows_of, is_bad_header, has_unclear, refusal_for}
use Rattle.edf.proofs.Texts.{spaces_are, spaces_behind, either_exactly, dropped_lower}
use Rattle.edf.proofs.Numbers.{digits_first, no_digits}
use Rattle.edf.proofs.Checks.{too_many, no_header, right_header, header_right, passes_all, all_passed, flow_count}
use Rattle.edf.proofs.Behind.{count_behind, behind_flows, behind_refusal}
use Rattle.importing.specs.Imports.{lines_for, import_output}
use Rattle.imported.specs.Headers.{IsFlow, IsUnclear, UnitsExactly, PlainNumber, NumbersExactly, IsHeader, HeadersExactly, Imports, ImportsExactly, BehindIgnored, StartEnough}

-- ---- units

flow_exactly : (s : List ℕ) → is_flow s ≡ true ↔ IsFlow (dropped s)
unfolding is_flow dropped are_spaces characters
flow_exactly s = either_exactly (characters "L/min") (characters "L/s") refl refl s

lower_exactly : (s : List ℕ) → let u = map lower (dropped s) in
    is_either (characters "l/min") (characters "l/s") (map lower s) ≡ true ↔ ((u ≡ characters "l/min") ⊎ (u ≡ characters "l/s"))
unfolding dropped are_spaces characters
lower_exactly s = rw (sym (dropped_lower s)) (either_exactly (characters "l/min") (characters "l/s") refl refl (map lower s))

pub units_exactly : UnitsExactly
unfolding is_unclear
units_exactly s = record { flow = f; unclear = (there (is_flow s) refl, back) } where
  f : is_flow s ≡ true ↔ IsFlow (dropped s)
  f = flow_exactly s

  there : (b : Bool) → is_flow s ≡ b → (not b && is_either (characters "l/min") (characters "l/s") (map lower s)) ≡ true → IsUnclear (dropped s)
  there true e h = absurd (clash h refl)
  there false e h = (λ x. clash (f.1 x) e, (lower_exactly s).0 h)

  back : IsUnclear (dropped s) → (not (is_flow s) && is_either (characters "l/min") (characters "l/s") (map lower s)) ≡ true
  back (off, is) = go (is_flow s) refl where
    go : (b : Bool) → is_flow s ≡ b → (not b && is_either (characters "l/min") (characters "l/s") (map lower s)) ≡ true
    go true e = absurd (off (f.0 e))
    go false e = (lower_exactly s).1 is

-- ---- plain numbers

all_decimal : (s : List ℕ) → All (λ c. is_decimal c ≡ true) (digits_of s)
unfolding digits_of
all_decimal [] = tt
all_decimal (c ∷ s) = go (is_decimal c) refl (all_decimal s) where
  go : (b : Bool) → is_decimal c ≡ b → All (λ c. is_decimal c ≡ true) (digits_of s) → All (λ c. is_decimal c ≡ true) (cond b (c ∷ digits_of s) [])
  go true e h = (e, h)
  go false e h = tt

digits_padded : (ds : List ℕ) (k : ℕ) → All (λ c. is_decimal c ≡ true) ds → digits_of (ds ++ replicate k 32) ≡ ds
unfolding digits_of
digits_padded [] k a = no_digits k
digits_padded (d ∷ ds) k (e, a) = rw e (ap (λ (x : List ℕ). d ∷ x) (digits_padded ds k a))

plain_number : (s : List ℕ) → is_plain s ≡ true → PlainNumber s (number_of s)
unfolding is_plain
plain_number s e =
    let ds = digits_of s in
    let (k, is) = spaces_are (drop (length ds) s) (and_right (ltb 0 (length ds)) (are_spaces (drop (length ds) s)) e) in
    record {
      digits = ds;
      spaces = k;
      text = digits_first s ∙ ap (λ (x : List ℕ). ds ++ x) is;
      some_digit = omega (arith, ltb-true 0 (length ds) (and_left (ltb 0 (length ds)) (are_spaces (drop (length ds) s)) e));
      all_digits = all_decimal s;
      value = refl;
    }

number_plain : (ds : List ℕ) (k : ℕ) → 0 < length ds → All (λ c. is_decimal c ≡ true) ds
    → (is_plain (ds ++ replicate k 32) ≡ true) × (number_of (ds ++ replicate k 32) ≡ number_from 0 ds)
unfolding is_plain are_spaces
number_plain ds k h a =
    let is = digits_padded ds k a in (
      rw is (and_both (ltb 0 (length ds)) (are_spaces (drop (length ds) (ds ++ replicate k 32))) (lt-ltb 0 (length ds) h)
          (ap are_spaces (drop-append_seam ds (replicate k 32)) ∙ spaces_behind [] k)),
      ap (number_from 0) is,
    )

pub numbers_exactly : NumbersExactly
numbers_exactly s n = (λ p. subst (PlainNumber s) (sym p.1) (plain_number s p.0), back) where
  back : PlainNumber s n → (is_plain s ≡ true) × (n ≡ number_of s)
  back p =
      let r = number_plain p.digits p.spaces p.some_digit p.all_digits in
      (ap is_plain p.text ∙ r.0, p.value ∙ sym r.1 ∙ sym (ap number_of p.text))

-- ---- refusals

pub headers_exactly : HeadersExactly
headers_exactly file = (there, λ h. back h.0 h.1) where
  says : (n : ℕ) → (is_plain (length_text file) && eqb (number_of (length_text file)) n) ≡ true → PlainNumber (length_text file) n
  says n e =
      let value = eqb-true (number_of (length_text file)) n (and_right (is_plain (length_text file)) (eqb (number_of (length_text file)) n) e) in
      (numbers_exactly (length_text file) n).0 (and_left (is_plain (length_text file)) (eqb (number_of (length_text file)) n) e, sym value)

  there : is_bad_header file ≡ false → (n : ℕ) × IsHeader file n
  there e =
      let r = header_right file e in (
        count_of file,
        record {
          count = plain_number (count_text file) r.plain;
          some_signal = r.some_signal;
          few_signals = omega (arith, r.few_signals);
          bytes = says (256 * (count_of file + 1)) r.bytes;
          long = omega (arith, r.long);
        },
      )

  back : (n : ℕ) → IsHeader file n → is_bad_header file ≡ false
  back n h =
      let c = (numbers_exactly (count_text file) n).1 h.count in
      let b = (numbers_exactly (length_text file) (256 * (n + 1))).1 h.bytes in
      let is : count_of file ≡ n = sym c.1 in
      let whole = and_both (is_plain (length_text file)) (eqb (number_of (length_text file)) (256 * (n + 1))) b.0 (eq-eqb _ _ (sym b.1)) in
      right_header file (record {
        long = omega (arith, h.long);
        plain = c.0;
        some_signal = omega (arith, h.some_signal);
        few_signals = omega (arith, h.few_signals);
        bytes = subst (λ (k : ℕ). (is_plain (length_text file) && eqb (number_of (length_text file)) (256 * (k + 1))) ≡ true) c.1 whole;
      })

pub imports_exactly : ImportsExactly
unfolding has_unclear
imports_exactly file = (there, λ h. back h.0 h.1) where
  unit : ℕ → List ℕ
  unit j = unit_text file (count_of file) j

  there : refusal_for file ≡ none → (n : ℕ) × Imports file n
  there e =
      let p = passes_all file e in
      let k = flow_count file e in
      let (n, h) = (headers_exactly file).0 p.0 in
      let is : n ≡ count_of file = ((numbers_exactly (count_text file) n).1 h.count).1 in (
        n,
        record {
          header = h;
          clear =
              λ j l u.
              let off = any_false (λ i. is_unclear (unit i)) (count_of file) j p.1 (omega arith) in
              clash ((units_exactly (unit j)).unclear.1 (subst (λ (m : ℕ). IsUnclear (dropped (unit_text file m j))) is u)) off;
          some_flow = k.0;
          few_flows = k.1;
        },
      )

  back : (n : ℕ) → Imports file n → refusal_for file ≡ none
  back n h =
      let is : n ≡ count_of file = ((numbers_exactly (count_text file) n).1 h.header.count).1 in
      all_passed file ((headers_exactly file).1 (n, h.header)) (any_none _ (count_of file) (λ j l. clear is j l (is_unclear (unit j)) refl)) h.some_flow h.few_flows
    where
      clear : n ≡ count_of file → (j : ℕ) → j < count_of file → (b : Bool) → is_unclear (unit j) ≡ b → is_unclear (unit j) ≡ false
      clear is j l true e =
          absurd (h.clear j (omega arith) (subst (λ (m : ℕ). IsUnclear (dropped (unit_text file m j))) (sym is) ((units_exactly (unit j)).unclear.0 e)))
      clear is j l false e = e

-- ---- bytes behind the header

same_output : (a b : List ℕ) → refusal_for a ≡ refusal_for b → flows_of a ≡ flows_of b → import_output a ≡ import_output b
unfolding import_output
same_output a b e f = ap₂ lines_for e f

-- a bad header is refused, whatever its units
bad_refusal : (file : List ℕ) → is_bad_header file ≡ true → refusal_for file ≡ some BadHeader
unfolding refusal_for
bad_refusal file e = rw e refl

many_output : (file : List ℕ) → 254 < count_of file → import_output file ≡ lines_for (some BadHeader) 0
unfolding import_output
many_output file h = ap (λ (r : Option Refusal). lines_for r (flows_of file)) (bad_refusal file (no_header file (too_many file h)))

pub behind_ignored : BehindIgnored
behind_ignored file more h = go (is_bad_header file) refl where
  go : (b : Bool) → is_bad_header file ≡ b → import_output (file ++ more) ≡ import_output file
  go true e = absurd (h (bad_refusal file e))
  go false e =
      let long = (header_right file e).long in
      let block : 256 ≤ length file = omega arith in
      same_output (file ++ more) file (behind_refusal file more block long) (behind_flows file more block long)

-- a start that has the longest header
start_same : (file more : List ℕ) → 65280 ≤ length file → import_output file ≡ import_output (file ++ more)
start_same file more h = go (dec_le (count_of file) 254) where
  block : 256 ≤ length file
  block = omega arith

  go : Dec (count_of file ≤ 254) → import_output file ≡ import_output (file ++ more)
  go (yes few) =
      let long : header_length (count_of file) ≤ length file = omega arith in
      sym (same_output (file ++ more) file (behind_refusal file more block long) (behind_flows file more block long))
  go (no many) =
      many_output file (omega arith) ∙ sym (many_output (file ++ more) (omega (arith, count_behind file more block)))

pub start_enough : StartEnough
start_enough file n h = go (dec_le (length file) n) where
  go : Dec (length file ≤ n) → import_output (take n file) ≡ import_output file
  go (yes short) = ap import_output (take_all n file short)
  go (no long) =
      start_same (take n file) (drop n file) (omega (arith, length-take-le n file (omega arith))) ∙ ap import_output (take-append-drop n file)
