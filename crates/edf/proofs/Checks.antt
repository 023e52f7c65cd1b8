-- The checks of a header: what a number that was read says of its text; each check of BadHeader alone, and all of them together; and what the header then
-- gives, by the checks in their order. Assumes nothing.
use mathlib.Core.Path.{◌≡◌, refl, sym, ap, ap₂, ◌∙◌}
use mathlib.Core.Bool.{Bool, true, false, not, ◌&&◌, ◌||◌, cond, true≢false, or-true, and-false}
use mathlib.Core.List.{List, [], ◌∷◌}
use mathlib.Core.Option.{Option as Maybe, none, some}
use mathlib.Core.Logic.{◌≢◌}
use Prim.Native.Nat.{ℕ, zero, suc, ◌+◌, ◌*◌, ◌≤◌, ◌<◌}
use native.Mathlib.Omega.{arith}
use Rattle.std.specs.Prelude.{Option, Some, None}
use Rattle.std.specs.Option.{option_eq}
use lib.Dec.{leb, ltb, eqb, eqb-suc-zero}
use lib.ListN.{length, take, drop}
use borrow.Author.Tests.{leb-true, not-false, lt-ltb, le-ltb, le-leb, lt-leb, eq-eqb, ne_eqb, ltb-false}
use Rattle.edf.specs.Texts.{is_plain, number_of}
use Rattle.fieldset.proofs.Tests.{and_left, and_right, or_left, or_right}
use Rattle.panel.specs.declared.Refusal.{Refusal}
use Rattle.panel.specs.declared.Refusal.TheVariants.{BadHeader, UnclearUnit, FlowCount}
use Rattle.panel.specs.Answers.{refusal_bytes}
use Rattle.panel.proofs.Answers.{refusals_apart}
use Rattle.edf.specs.Header.{length_text, count_text, count_of, header_length, flows_of, is_bad_header, has_unclear, is_bad_count, refusal_for}
use Rattle.edf.specs.Answers.{number_values, number_read, signals_read, header_read}

-- ---- numbers

-- a number that was read
pub plain_read : (s : List ℕ) (n : ℕ) → n ∷ [] ≡ number_read s → (is_plain s ≡ true) × (n ≡ number_of s)
unfolding number_read
plain_read s n e = go (is_plain s) e where
  go : (b : Bool) → n ∷ [] ≡ cond b (number_of s ∷ []) [] → (b ≡ true) × (n ≡ number_of s)
  go true h = (refl, cc)
  go false h = let z : ◌≡◌ {A = ℕ} 0 1 = cc in absurd (omega arith)

pub other_read : (s : List ℕ) → [] ≡ number_read s → is_plain s ≡ false
unfolding number_read
other_read s e = go (is_plain s) e where
  go : (b : Bool) → [] ≡ cond b (number_of s ∷ []) [] → b ≡ false
  go true h = let z : ◌≡◌ {A = ℕ} 0 1 = cc in absurd (omega arith)
  go false h = refl

-- whether a header field says this number
pub says_number : (s : List ℕ) (r : Option ℕ) (m : ℕ) → number_values r ≡ number_read s → option_eq eqb r (Some m) ≡ (is_plain s && eqb (number_of s) m)
says_number s None m e = rw (other_read s e) refl
says_number s (Some n) m e = let r = plain_read s n e in rw r.0 (ap (λ (x : ℕ). eqb x m) r.1)

-- where the number of bytes in the header stands, and whether it is this one
pub length_is : (file : List ℕ) → take 8 (drop 184 file) ≡ length_text file
unfolding length_text
length_is file = refl

pub says_length : (file s : List ℕ) (r : Option ℕ) (n : ℕ) → number_values r ≡ number_read s → s ≡ length_text file → n ≡ count_of file
    → option_eq eqb r (Some (256 * (n + 1))) ≡ (is_plain (length_text file) && eqb (number_of (length_text file)) (256 * (count_of file + 1)))
says_length file s r n h t e =
    says_number s r (256 * (n + 1)) h ∙ ap₂ (λ (x : List ℕ) (k : ℕ). is_plain x && eqb (number_of x) (256 * (k + 1))) t e

-- ---- BadHeader

-- some check applies
bad : (file : List ℕ) → is_bad_header file ≡ true → [] ≡ signals_read file
unfolding signals_read
bad file e = simp e

module _ (file : List ℕ) where
  abbrev short : Bool
  short = ltb (length file) (header_length (count_of file))

  abbrev other : Bool
  other = not (is_plain (length_text file) && eqb (number_of (length_text file)) (256 * (count_of file + 1)))

  pub too_short : length file < header_length (count_of file) → [] ≡ signals_read file
  unfolding is_bad_header
  too_short h = bad file (simp (lt-ltb (length file) (header_length (count_of file)) h))

  pub no_block : length file < 256 → [] ≡ signals_read file
  no_block h = too_short (omega arith)

  -- the signal count
  wrong_count : (is_plain (count_text file) && leb 1 (count_of file) && leb (count_of file) 254) ≡ false → [] ≡ signals_read file
  unfolding is_bad_header
  wrong_count e = bad file (rw e (ap (λ (b : Bool). b || other) (or-true short)))

  pub not_plain : is_plain (count_text file) ≡ false → [] ≡ signals_read file
  not_plain e = wrong_count (simp e)

  pub no_signal : count_of file < 1 → [] ≡ signals_read file
  no_signal h = wrong_count (rw (lt-leb 1 (count_of file) h) (ap (λ (b : Bool). b && leb (count_of file) 254) (and-false (is_plain (count_text file)))))

  pub too_many : 254 < count_of file → [] ≡ signals_read file
  too_many h = wrong_count (rw (lt-leb (count_of file) 254 h) (and-false (is_plain (count_text file) && leb 1 (count_of file))))

  -- the header length
  pub wrong_length : (is_plain (length_text file) && eqb (number_of (length_text file)) (256 * (count_of file + 1))) ≡ false → [] ≡ signals_read file
  unfolding is_bad_header
  wrong_length e =
      bad file (rw e (or-true (short || not (is_plain (count_text file) && leb 1 (count_of file) && leb (count_of file) 254))))

  -- no check applies
  pub record Right : Type 0 where
    pub long : header_length (count_of file) ≤ length file
    pub plain : is_plain (count_text file) ≡ true
    pub some_signal : 1 ≤ count_of file
    pub few_signals : count_of file ≤ 254
    pub bytes : (is_plain (length_text file) && eqb (number_of (length_text file)) (256 * (count_of file + 1))) ≡ true

  pub right_header : Right → is_bad_header file ≡ false
  unfolding is_bad_header
  right_header r =
      rw (
        le-ltb (length file) (header_length (count_of file)) r.long,
        r.plain,
        le-leb 1 (count_of file) r.some_signal,
        le-leb (count_of file) 254 r.few_signals,
        r.bytes,
      )
      refl

  pub header_right : is_bad_header file ≡ false → Right
  unfolding is_bad_header
  header_right e =
      let counted : Bool = is_plain (count_text file) && leb 1 (count_of file) && leb (count_of file) 254 in
      let whole : Bool = is_plain (length_text file) && eqb (number_of (length_text file)) (256 * (count_of file + 1)) in
      let first = or_left (short || not counted) (not whole) e in
      let both = not-false counted (or_right short (not counted) first) in
      let plain_some = and_left (is_plain (count_text file) && leb 1 (count_of file)) (leb (count_of file) 254) both in
      record {
        long = ltb-false (length file) (header_length (count_of file)) (or_left short (not counted) first);
        plain = and_left (is_plain (count_text file)) (leb 1 (count_of file)) plain_some;
        some_signal = leb-true 1 (count_of file) (and_right (is_plain (count_text file)) (leb 1 (count_of file)) plain_some);
        few_signals = leb-true (count_of file) 254 (and_right (is_plain (count_text file) && leb 1 (count_of file)) (leb (count_of file) 254) both);
        bytes = not-false whole (or_right (short || not counted) (not whole) e);
      }

  pub all_right : Right → count_of file ∷ [] ≡ signals_read file
  unfolding signals_read
  all_right r = rw (right_header r) refl

  -- what the number of signals says
  pub no_header : [] ≡ signals_read file → is_bad_header file ≡ true
  unfolding signals_read
  no_header e = go (is_bad_header file) e where
    go : (b : Bool) → [] ≡ cond b [] (count_of file ∷ []) → b ≡ true
    go true h = refl
    go false h = let z : ◌≡◌ {A = ℕ} 0 1 = cc in absurd (omega arith)

  pub some_header : (n : ℕ) → n ∷ [] ≡ signals_read file → (is_bad_header file ≡ false) × (n ≡ count_of file)
  unfolding signals_read
  some_header n e = go (is_bad_header file) e where
    go : (b : Bool) → n ∷ [] ≡ cond b [] (count_of file ∷ []) → (b ≡ false) × (n ≡ count_of file)
    go true h = let z : ◌≡◌ {A = ℕ} 0 1 = cc in absurd (omega arith)
    go false h = (refl, cc)

  -- ---- what a header gives

  abbrev gives : List ℕ
  gives = header_read (refusal_for file) (flows_of file)

  pub bad_header : is_bad_header file ≡ true → 0xFF ∷ refusal_bytes BadHeader ≡ gives
  unfolding refusal_for
  bad_header e = rw e refl

  module _ (good : is_bad_header file ≡ false) where
    pub unclear_unit : has_unclear file ≡ true → 0xFF ∷ refusal_bytes UnclearUnit ≡ gives
    unfolding refusal_for
    unclear_unit u = rw (good, u) refl

    module _ (clear : has_unclear file ≡ false) {k : ℕ} (flows : k ≡ flows_of file) where
      bad_count : is_bad_count k ≡ true → 0xFF ∷ refusal_bytes FlowCount ≡ gives
      unfolding refusal_for
      bad_count h = rw (good, clear, sym flows, h) refl

      pub no_flow : k ≡ 0 → 0xFF ∷ refusal_bytes FlowCount ≡ gives
      no_flow h = bad_count (simp (eq-eqb k 0 h))

      pub many_flows : 32 < k → 0xFF ∷ refusal_bytes FlowCount ≡ gives
      many_flows h = bad_count (rw (lt-ltb 32 k h) (or-true (eqb k 0)))

      pub some_flows : k ≢ 0 → k ≤ 32 → 0x00 ∷ k ∷ [] ≡ gives
      unfolding refusal_for
      some_flows h l = rw (good, clear, sym flows, ne_eqb k 0 h, le-ltb 32 k l) refl

  -- a file that is not refused passes every check
  pub passes_all : refusal_for file ≡ none → (is_bad_header file ≡ false) × (has_unclear file ≡ false) × (is_bad_count (flows_of file) ≡ false)
  unfolding refusal_for
  passes_all h = go (is_bad_header file) (has_unclear file) (is_bad_count (flows_of file)) h where
    go : (a b c : Bool) → cond a (some BadHeader) (cond b (some UnclearUnit) (cond c (some FlowCount) none)) ≡ none → (a ≡ false) × (b ≡ false) × (c ≡ false)
    go true b c e = let z : ◌≡◌ {A = ℕ} 0 1 = cc in absurd (omega arith)
    go false true c e = let z : ◌≡◌ {A = ℕ} 0 1 = cc in absurd (omega arith)
    go false false true e = let z : ◌≡◌ {A = ℕ} 0 1 = cc in absurd (omega arith)
    go false false false e = (refl, refl, refl)

  pub all_passed : is_bad_header file ≡ false → has_unclear file ≡ false → 1 ≤ flows_of file → flows_of file ≤ 32 → refusal_for file ≡ none
  unfolding refusal_for
  all_passed a b l u = rw (a, b, ne_eqb (flows_of file) 0 (λ e. omega arith), le-ltb 32 (flows_of file) u) refl

  -- it has 1 to 32 flows
  pub flow_count : refusal_for file ≡ none → (1 ≤ flows_of file) × (flows_of file ≤ 32)
  flow_count h = counted (flows_of file) (passes_all h).2 where
    counted : (k : ℕ) → is_bad_count k ≡ false → (1 ≤ k) × (k ≤ 32)
    counted zero e = absurd (true≢false e)
    counted (suc k) e = (omega arith, ltb-false 32 (suc k) (rw (eqb-suc-zero k) at e))

-- ---- what was given of a header

pub given_flows : (k n : ℕ) (r : Maybe Refusal) → 0x00 ∷ k ∷ [] ≡ header_read r n → (r ≡ none) × (k ≡ n)
given_flows k n none e = (refl, cc)
given_flows k n (some r) e = let z : ◌≡◌ {A = ℕ} 0 255 = cc in absurd (omega arith)

pub given_refusal : (s : Refusal) (n : ℕ) (r : Maybe Refusal) → 0xFF ∷ refusal_bytes s ≡ header_read r n → r ≡ some s
given_refusal s n none e = let z : ◌≡◌ {A = ℕ} 255 0 = cc in absurd (omega arith)
given_refusal s n (some r) e = ap some (refusals_apart r s (sym (ap (λ (b : List ℕ). drop 1 b) e)))
