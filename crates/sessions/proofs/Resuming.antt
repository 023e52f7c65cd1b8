-- What is written of a reading and of a text that goes on from it. Assumes nothing.
use Prim.Native.Nat.{ℕ, zero, suc, ◌+◌, ◌-◌, ◌^◌, ◌≤◌, ◌<◌}
use mathlib.Core.Path.{◌≡◌, refl, sym, ap, ap₂, subst, ◌∙◌}
use mathlib.Core.Bool.{true, false}
use mathlib.Core.List.{List, [], ◌∷◌, ◌++◌, append-nil}
use native.Mathlib.Omega.{arith}
use native.Mathlib.Nat.{not-suc-le-zero}
use lib.ListN.{length, take, drop, set, length-append, length-drop}
use lib.Seq.{sets, take_all, drop-length}
use borrow.Rule.Slice.PartMut.{put_mid, post_of, Post-is}
use Rattle.fieldset.proofs.Tables.{sets_append}
use Rattle.panel.specs.Answers.{Reply}
use Rattle.std.specs.Prelude.{Option, Some, None, Ok, Err, is_err}
use Rattle.panel.proofs.Answers.{refusal_length}
use Rattle.panel.specs.declared.Refusal.{Refusal}
use Rattle.panel.specs.declared.Refusal.TheVariants.{TextTooLong as TooLong}
use Rattle.panel.specs.Answers.{refusal_bytes, reply_bytes, is_refusal}
use Rattle.hexadecimal.specs.Hex.{line_of}
use Rattle.hexadecimal.proofs.Bytes.{length_line}
use Rattle.hexadecimal.proofs.Stores.{sets_out}
use Rattle.sheet.specs.declared.Sheet.{Sheet}
use Rattle.sheet.specs.Sheets.{unopened}
use Rattle.sheet.specs.Commands.{Answer}
use Rattle.sheet.specs.Legal.{LegalSheet}
use Rattle.tally.specs.declared.Tally.{Tally}
use Rattle.tally.specs.Tallies.{no_tally}
use Rattle.frames.specs.Texts.{output_of}
use Rattle.frames.specs.Frames.{line_answer}
use Rattle.text.specs.Outcomes.{Bounded, Told, AsWritten}
use Rattle.text.proofs.Outcomes.{told_output}
use Rattle.images.specs.Reading.{read}
use Rattle.images.proofs.Reading.{took}
use Rattle.loading.specs.Loaded.{answer_of}
use Rattle.sessions.specs.Sessions.{resumed_from, resumed_output}

-- ---- the line of a reply

pub reply_line : (reply : Reply) (bytes before after : List ℕ) (n : ℕ) → reply_bytes reply ≡ bytes → after ≡ sets before 0 (line_of bytes) → n ≡ 0 + length (line_of bytes)
    → (after ≡ sets before 0 (line_of (reply_bytes reply))) × (n ≡ length (line_of (reply_bytes reply)))
reply_line reply bytes before after n e put size = (put ∙ ap (λ (b : List ℕ). sets before 0 (line_of b)) (sym e), omega (arith, size, ap (λ (b : List ℕ). length (line_of b)) e))

pub reply_short : (reply : Reply) → length (line_of (reply_bytes reply)) ≤ 9
reply_short (Ok m) = omega (arith, length_line (reply_bytes (Ok m)))
reply_short (Err r) = omega (arith, length_line (reply_bytes (Err r)), (refusal_length r).1)

-- ---- the output of a text from a sheet on

module _ (s : Sheet) (text before after : List ℕ) (u : Tally) (r : Option ℕ) (told : Told line_answer s no_tally text u before after r) where
  pub length_told : (n : ℕ) → r ≡ Some n → Bounded r
      → (after ≡ sets before 0 (output_of line_answer s text)) × ((n ≡ length (output_of line_answer s text)) × (n < 2 ^ 63))
  length_told n e b =
      let w = subst (AsWritten line_answer s text before after) e (told_output line_answer s text u before after r told) in
      (w.1, (w.0, subst Bounded e b))

  pub too_long_told : r ≡ None → (last : List ℕ) (n : ℕ) → last ≡ sets after 0 (line_of (0xFF ∷ refusal_bytes TooLong)) → n ≡ length (line_of (0xFF ∷ refusal_bytes TooLong))
      → (last ≡ sets before 0 (output_of line_answer s text)) × ((n ≡ length (output_of line_answer s text)) × (n < 2 ^ 63))
  too_long_told e last n put size =
      let w = subst (AsWritten line_answer s text before after) e (told_output line_answer s text u before after r told) in (
        put ∙ ap₂ (λ (l v : List ℕ). sets l 0 v) w.1 (sym w.0),
        (size ∙ ap length (sym w.0), omega (arith, size, length_line (0xFF ∷ refusal_bytes TooLong))),
      )

-- ---- a store behind the start of a buffer

sets_next : (n x : ℕ) (l vs : List ℕ) → x ∷ sets l n vs ≡ sets (x ∷ l) (suc n) vs
sets_next n x l [] = refl
sets_next n x l (a ∷ vs) = sets_next (suc n) x (set l n a) vs

sets_behind : (n : ℕ) (l vs : List ℕ) → n ≤ length l → take n l ++ sets (drop n l) 0 vs ≡ sets l n vs
sets_behind zero l vs h = refl
sets_behind (suc n) [] vs h = absurd (not-suc-le-zero h)
sets_behind (suc n) (x ∷ l) vs h = ap (λ (t : List ℕ). x ∷ t) (sets_behind n l vs (omega arith)) ∙ sets_next n x l vs

-- ---- all of it

-- by its first byte a reply tells a refusal
told_refusal : (reply : Reply) → is_refusal (reply_bytes reply) ≡ is_err reply
told_refusal (Ok m) = refl
told_refusal (Err r) = refl

-- a saved text that is refused
pub refused_resumed : (saved text : List ℕ) (reply : Reply) → reply_bytes reply ≡ (read unopened saved).reply → is_err reply ≡ true
    → resumed_output saved text ≡ line_of (reply_bytes reply)
unfolding resumed_output
refused_resumed saved text reply is e = rw (← is, told_refusal reply ∙ e) (append-nil (line_of (reply_bytes reply)))

-- one whose sheet is taken in
module _ (saved text : List ℕ) (s : Sheet) (reply : Reply) (is : answer_of s reply ≡ read unopened saved) (e : is_err reply ≡ false) where
  abbrev line : List ℕ
  line = line_of (reply_bytes reply)

  pub taken_legal : LegalSheet s
  taken_legal =
      let t = took unopened saved (ap (λ (a : Answer). is_refusal a.reply) (sym is) ∙ told_refusal reply ∙ e) in
      subst LegalSheet (sym (ap (λ (a : Answer). a.sheet) is ∙ t.sheet)) t.legal

  pub taken_resumed : resumed_output saved text ≡ line ++ output_of line_answer s text
  unfolding resumed_output
  taken_resumed = ap (λ (a : Answer). resumed_from a text) (sym is) ∙ rw (told_refusal reply ∙ e) refl

  module _ (before middle : List ℕ) (n m : ℕ) (put : middle ≡ sets before 0 line) (size : n ≡ length line) (count : m ≡ length (output_of line_answer s text)) where
    whole : sets middle n (output_of line_answer s text) ≡ sets before 0 (resumed_output saved text)
    whole =
        let behind : n ≡ 0 + length line = omega (arith, size) in
        ap₂ (λ (l : List ℕ) (k : ℕ). sets l k (output_of line_answer s text)) put behind
        ∙ sets_append before 0 line (output_of line_answer s text) ∙ ap (sets before 0) (sym taken_resumed)

    pub resumed_length : n + m ≡ length (resumed_output saved text)
    resumed_length = omega (arith, size, count, ap length taken_resumed, length-append line (output_of line_answer s text))

    pub resumed_behind : n ≤ length middle → (rest : List ℕ) → rest ≡ sets (take (length middle - n) (drop n middle)) 0 (output_of line_answer s text)
        → put_mid n (length middle - n) middle rest ≡ sets before 0 (resumed_output saved text)
    resumed_behind h rest f =
        let part : take (length middle - n) (drop n middle) ≡ drop n middle = take_all (length middle - n) (drop n middle) (omega (arith, length-drop n middle)) in
        let end : post_of n (length middle - n) middle ≡ [] = Post-is n (length middle) middle h ∙ drop-length middle in
        ap (λ (x : List ℕ). take n middle ++ (rest ++ x)) end ∙ ap (λ (x : List ℕ). take n middle ++ x) (append-nil rest ∙ f ∙ ap (λ (x : List ℕ). sets x 0 (output_of line_answer s text)) part)
        ∙ sets_behind n middle (output_of line_answer s text) h ∙ whole

    pub resumed_full : length middle < n → middle ≡ sets before 0 (resumed_output saved text)
    resumed_full h = sym (sets_out middle n (output_of line_answer s text) (omega arith)) ∙ whole
