-- The panel accepts every line of an import. By induction on the flows: each frame is one line more (`taken_more`), which takes the sheet of flows to
-- the next, and its reply is no refusal.
use Prim.Native.Nat.{ℕ, zero, suc, ◌+◌, ◌*◌, ◌≤◌, ◌<◌}
use mathlib.Core.Path.{◌≡◌, refl, ap, ap₂, ◌∙◌}
use mathlib.Core.Bool.{false}
use mathlib.Core.List.{List, [], ◌∷◌, ◌++◌, map, map-append}
use native.Mathlib.Nat.{le_refl}
use native.Mathlib.Numerals.{add-one}
use native.Mathlib.Omega.{arith}
use borrow.Author.Tests.{lt-ltb, le-ltb}
use lib.ListN.{length, length-append}
use lib.Seq.{append_snoc}
use Rattle.fieldset.specs.Lists.{All}
use Rattle.fieldset.proofs.Lists.{all_append}
use Rattle.panel.specs.Answers.{is_refusal}
use Rattle.panel.specs.Commands.{any_of}
use Rattle.sheet.specs.declared.Sheet.{Sheet}
use Rattle.sheet.specs.Sheets.{unopened}
use Rattle.hexadecimal.specs.Hex.{hex_of, line_of}
use Rattle.hexadecimal.proofs.Bytes.{length_line}
use Rattle.lines.specs.Lines.{lines_of}
use Rattle.tally.specs.declared.Tally.{Tally}
use Rattle.tally.specs.Tallies.{cap, more, tallied, no_tally, tally_bytes}
use Rattle.frames.specs.Texts.{Answered, refusal_of, tally_after, written, state_after, replies, output, output_of}
use Rattle.frames.specs.Frames.{fits_formula, fits_kind, is_frame, command_of, answer_to, answered, line_answer, sheet_after, panel_output}
use Rattle.frames.proofs.Outputs.{lines_all, tally_more, written_more, state_more, replies_more}
use Rattle.edf.specs.Header.{flows_of}
use Rattle.edf.proofs.Checks.{flow_count}
use Rattle.importing.specs.Imports.{per_minute, per_second, open_frame, add_frame, ratio_frame, flow_frames, frames_for, import_output}
use Rattle.importing.proofs.Flows.{flows_output}
use Rattle.imported.specs.Imported.{flow_sheet, flow_replies, replies_for, all_accepted, EveryLineAccepted}
use Rattle.imported.proofs.Flows.{byte_frame}
use Rattle.imported.proofs.Sheets.{sheet_opened, sheet_added, sheet_related}
use Rattle.imported.proofs.Lines.{Framed, frame_answer}

-- ---- frames that are taken, from an unopened panel on

-- n frames, all accepted: the sheet after them, their replies, and the length of their text
record Taken (n : ℕ) (fs : List (List ℕ)) (s : Sheet) (rs : List (List ℕ)) : Type 0 where
  after : sheet_after unopened (map hex_of fs) ≡ s
  replied : replies line_answer unopened (map hex_of fs) ≡ rs
  accepted : All (λ reply. is_refusal reply ≡ false) rs
  tally : tally_after no_tally rs ≡ all_accepted n
  short : length (written fs) ≤ 15 * n

taken_none : Taken 0 [] unopened []
unfolding state_after replies tally_after written
taken_none = record { after = refl; replied = refl; accepted = tt; tally = refl; short = omega arith }

-- one accepted frame more
module _ {n : ℕ} {fs : List (List ℕ)} {s : Sheet} {rs : List (List ℕ)} (f : List ℕ) (t : Sheet) (m : ℕ) (was : Taken n fs s rs) (few : n < cap)
    (framed : Framed f) (is : answered s f (command_of f) ≡ record { state = t; reply = 0x00 ∷ m ∷ [] }) where
  now : line_answer (sheet_after unopened (map hex_of fs)) (hex_of f) ≡ record { state = t; reply = 0x00 ∷ m ∷ [] }
  now = ap (λ (q : Sheet). line_answer q (hex_of f)) was.after ∙ frame_answer s f framed ∙ is

  tally_now : tallied (all_accepted n) (refusal_of (0x00 ∷ m ∷ [])) ≡ all_accepted (suc n)
  unfolding tallied refusal_of more
  tally_now = rw (lt-ltb n cap few, add-one n)

  taken_more : Taken (suc n) (fs ++ (f ∷ [])) t (rs ++ ((0x00 ∷ m ∷ []) ∷ []))
  taken_more = record {
    after =
        ap (sheet_after unopened) (map-append hex_of fs (f ∷ [])) ∙ state_more line_answer (map hex_of fs) (hex_of f) unopened
        ∙ ap (λ (a : Answered Sheet). a.state) now;
    replied =
        ap (replies line_answer unopened) (map-append hex_of fs (f ∷ [])) ∙ replies_more line_answer (map hex_of fs) (hex_of f) unopened
        ∙ ap₂ (λ (all : List (List ℕ)) (a : Answered Sheet). all ++ (a.reply ∷ [])) was.replied now;
    accepted = all_append (λ reply. is_refusal reply ≡ false) rs ((0x00 ∷ m ∷ []) ∷ []) was.accepted (refl, tt);
    tally = tally_more rs (0x00 ∷ m ∷ []) no_tally ∙ ap (λ (u : Tally). tallied u (refusal_of (0x00 ∷ m ∷ []))) was.tally ∙ tally_now;
    short = omega (arith, ap length (written_more fs f), length-append (written fs) (line_of f), length_line f, was.short, framed.few);
  }

-- the output of the panel for a text of frames that are taken
taken_output : {n : ℕ} {fs : List (List ℕ)} {s : Sheet} {rs : List (List ℕ)} → Taken n fs s rs → n ≤ 65
    → panel_output (written fs) ≡ written rs ++ line_of (tally_bytes (all_accepted n))
unfolding output_of output
taken_output {n} {fs} {rs = rs} t few =
    let replied : replies line_answer unopened (lines_of (written fs)) ≡ rs = ap (replies line_answer unopened) (lines_all fs) ∙ t.replied in
    rw (le-ltb 65535 (length (written fs)) (omega (arith, t.short)), replied, t.tally, output_of)

-- ---- the frames of an import

module _ (k : ℕ) (pos : 0 < k) (few : k ≤ 32) where
  open_framed : Framed (open_frame k)
  unfolding is_frame fits_kind
  open_framed = record { bytes = (omega arith, (omega arith, tt)); some = omega arith; few = omega arith; fits = refl }

  taken_open : Taken 1 (open_frame k ∷ []) (flow_sheet k 0 0) ((0x00 ∷ 0 ∷ []) ∷ [])
  unfolding command_of
  taken_open = taken_more (open_frame k) (flow_sheet k 0 0) 0 taken_none (omega arith) open_framed (ap answer_to (sheet_opened k pos few))

  module _ (i : ℕ) (l : i < k) where
    add_framed : Framed (add_frame i)
    unfolding is_frame fits_kind any_of
    add_framed = record {
      bytes = (omega arith, (omega arith, (omega arith, (omega arith, (omega arith, tt)))));
      some = omega arith;
      few = omega arith;
      fits = rw (byte_frame (per_minute i) (omega arith), byte_frame (per_second i) (omega arith));
    }

    ratio_framed : Framed (ratio_frame i)
    unfolding is_frame fits_kind fits_formula
    ratio_framed = record {
      bytes = (omega arith, (omega arith, (omega arith, (omega arith, (omega arith, (omega arith, (omega arith, tt)))))));
      some = omega arith;
      few = omega arith;
      fits = refl;
    }

    -- one flow more
    taken_flow : {fs rs : List (List ℕ)} → Taken (1 + 2 * i) fs (flow_sheet k i i) rs
        → Taken (1 + 2 * suc i) (fs ++ (add_frame i ∷ ratio_frame i ∷ [])) (flow_sheet k (suc i) (suc i))
        (rs ++ ((0x00 ∷ 1 ∷ []) ∷ (0x00 ∷ 0 ∷ []) ∷ []))
    unfolding command_of
    taken_flow {fs} {rs} was =
        let e : suc (suc (1 + 2 * i)) ≡ 1 + 2 * suc i = omega arith in
        let added = taken_more (add_frame i) _ 1 was (omega arith) add_framed (ap answer_to (sheet_added k i few l)) in
        let both = taken_more (ratio_frame i) _ 0 added (omega arith) ratio_framed (ap answer_to (sheet_related k i few l)) in
        rw (e, append_snoc fs (add_frame i) (ratio_frame i ∷ []), append_snoc rs (0x00 ∷ 1 ∷ []) ((0x00 ∷ 0 ∷ []) ∷ [])) at both

  taken : (i : ℕ) → i ≤ k → Taken (1 + 2 * i) (open_frame k ∷ flow_frames i) (flow_sheet k i i) (replies_for i)
  unfolding flow_frames flow_replies
  taken zero l = taken_open
  taken (suc i) l = taken_flow i l (taken i (omega arith))

-- ---- a file that is not refused

pub every_line_accepted : EveryLineAccepted
every_line_accepted file h =
    let k = flows_of file in
    let (pos, few) = flow_count file h in
    let t = taken k pos few k (le_refl k) in
    let text = flows_output file h in
    let lines : lines_of (import_output file) ≡ map hex_of (frames_for k) = ap lines_of text ∙ lines_all (frames_for k) in
    let replied : replies line_answer unopened (lines_of (import_output file)) ≡ replies_for k = ap (replies line_answer unopened) lines ∙ t.replied in
    record {
      replied = replied;
      accepted = rw replied t.accepted;
      output = ap panel_output text ∙ taken_output t (omega arith);
      sheet = ap (sheet_after unopened) lines ∙ t.after;
    }
