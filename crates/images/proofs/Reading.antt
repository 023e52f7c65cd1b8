-- Reading what was written, and writing what was read: "One panel has one text: equal panels exactly when equal bytes, every reachable panel's text is
-- taken back, and a text taken in is written out the same" (document 02, request 7). Assumes nothing.
use Prim.Native.Nat.{ℕ, ◌≤◌, ◌<◌}
use mathlib.Core.Path.{◌≡◌, refl, sym, ap, ◌∙◌}
use mathlib.Core.Bool.{true, false, ◌&&◌, false≢true}
use mathlib.Core.List.{List, [], ◌∷◌}
use mathlib.Core.Option.{none}
use native.Mathlib.Omega.{arith}
use lib.Dec.{eqb}
use lib.ListN.{length}
use borrow.Author.Tests.{le-ltb, eq-eqb, eqb-true, not-false}
use Rattle.fieldset.proofs.Tests.{and_left, and_right, and_both}
use Rattle.panel.specs.Answers.{is_refusal}
use Rattle.panel.specs.Commands.{is_open, check_reply, Passes}
use Rattle.panel.specs.Solution.{least_blocked}
use Rattle.hexadecimal.specs.Hex.{is_hex, is_digit, are_digits, digit_of, bytes_of, hex_of, line_of, char_of}
use Rattle.frames.specs.Texts.{is_too_long, written}
use Rattle.sheet.specs.declared.Sheet.{Sheet}
use Rattle.sheet.specs.Commands.{Answer}
use Rattle.sheet.specs.Legal.{LegalSheet}
use Rattle.sheet.proofs.Legal.{reply_passes}
use Rattle.images.specs.Images.{image_of, frames_of}
use Rattle.images.specs.Entries.{candidate}
use Rattle.images.specs.Forms.{is_formed}
use Rattle.images.specs.Reading.{version, is_unknown, same, is_bad, is_unfit, read_checks, read}
pub use Rattle.images.specs.Reading.{Good}
use Rattle.images.proofs.Rounds.{candidate_image}
use Rattle.images.proofs.Lengths.{image_length}
use Rattle.images.proofs.Legality.{legal_formed, legal_fit, formed_legal, formed_legal_sheet, unfit_loopless, unfit_short, unfit_unblocked}

-- ---- equal texts

pub same_equal : (a b : List ℕ) → same a b ≡ true → a ≡ b
unfolding same
same_equal [] [] e = refl
same_equal [] (y ∷ b) e = absurd (false≢true e)
same_equal (x ∷ a) [] e = absurd (false≢true e)
same_equal (x ∷ a) (y ∷ b) e =
    let h : x ≡ y = eqb-true x y (and_left (eqb x y) (same a b) e) in
    let t : a ≡ b = same_equal a b (and_right (eqb x y) (same a b) e) in
    cc

pub same_self : (a : List ℕ) → same a a ≡ true
unfolding same
same_self [] = refl
same_self (x ∷ a) = and_both (eqb x x) (same a a) (eq-eqb x x refl) (same_self a)

-- equal texts only of equal sheets, in any version
pub image_once : (v : ℕ) (s t : Sheet) → v < 256 → is_formed s ≡ true → is_formed t ≡ true → image_of v s ≡ image_of v t → s ≡ t
image_once v s t h a b e = sym (candidate_image v s h a) ∙ ap candidate e ∙ candidate_image v t h b

-- ---- which texts are no BadImage: those of formed sheets

pub not_bad : (text : List ℕ) → is_bad text ≡ false → Good text (candidate text)
unfolding is_bad
not_bad text e =
    let h = not-false (is_formed (candidate text) && same (image_of version (candidate text)) text) e in
    record {
      formed = and_left (is_formed (candidate text)) _ h;
      is_text = same_equal _ text (and_right (is_formed (candidate text)) _ h);
    }

-- a formed sheet that has the text is the one that the text's lines enter
pub good_candidate : (text : List ℕ) (s : Sheet) → Good text s → candidate text ≡ s
good_candidate text s G = ap candidate (sym G.is_text) ∙ candidate_image version s (omega arith) G.formed

pub good_not_bad : (text : List ℕ) (s : Sheet) → Good text s → is_bad text ≡ false
unfolding is_bad
good_not_bad text s G = rw (good_candidate text s G, G.is_text, G.formed, same_self text)

-- a saved text's version is known
pub image_known : (s : Sheet) → is_unknown (image_of version s) ≡ false
unfolding is_unknown image_of frames_of written line_of hex_of char_of is_hex are_digits is_digit digit_of bytes_of
image_known s = refl

-- ---- reading

abbrev pub taking : Sheet → Answer
taking s = record { sheet = s; reply = 0x00 ∷ 0x00 ∷ [] }

-- the text of a formed sheet that is not unfit is taken, and gives this sheet
pub read_written : (u s : Sheet) → is_open u.panel ≡ false → is_formed s ≡ true → is_unfit s.panel ≡ false → read u (image_of version s) ≡ taking s
unfolding read check_reply
read_written u s closed formed fit =
    let e : candidate (image_of version s) ≡ s = candidate_image version s (omega arith) formed in
    let short : is_too_long (image_of version s) ≡ false = le-ltb 65535 (length (image_of version s)) (omega (arith, image_length version s formed)) in
    let good : is_bad (image_of version s) ≡ false = good_not_bad (image_of version s) s (record { formed = formed; is_text = refl }) in
    rw (short, closed, image_known s, good, e, fit)

-- so is that of every legal sheet of an open panel with nothing blocked
pub read_legal : (u s : Sheet) → is_open u.panel ≡ false → LegalSheet s → 1 ≤ s.panel.size → least_blocked s.panel ≡ none
    → read u (image_of version s) ≡ taking s
read_legal u s closed L some free = read_written u s closed (legal_formed s L some) (legal_fit s.panel L.panel free)

-- ---- what was taken in

pub record Took (u : Sheet) (text : List ℕ) : Type 0 where
  pub passes : Passes (read_checks u text)
  pub sheet : (read u text).sheet ≡ candidate text
  pub good : Good text (candidate text)
  pub legal : LegalSheet (candidate text)
  pub unblocked : least_blocked (candidate text).panel ≡ none

pub took : (u : Sheet) (text : List ℕ) → is_refusal (read u text).reply ≡ false → Took u text
unfolding read
took u text e =
    let p = reply_passes (read_checks u text) e in
    let good = not_bad text p.1.1.1.0 in
    let fit = p.1.1.1.1.0 in
    record {
      passes = p;
      sheet = rw e;
      good = good;
      legal = formed_legal_sheet (candidate text) good.formed
          (formed_legal (candidate text) good.formed (unfit_short (candidate text).panel fit) (unfit_loopless (candidate text).panel fit));
      unblocked = unfit_unblocked (candidate text).panel fit;
    }

-- a refusal changes nothing
pub refused_same : (u : Sheet) (text : List ℕ) → is_refusal (read u text).reply ≡ true → (read u text).sheet ≡ u
unfolding read
refused_same u text e = rw e
