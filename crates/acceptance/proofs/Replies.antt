-- Every line has one reply of the documents: by cases on the line's command, whose outcome is a refusal or a count or a plan (`outcome`). The bounds
-- are those of a legal sheet, which every command leaves legal; so it goes on over the lines (`replied`).
use Prim.Native.Nat.{ℕ, ◌*◌, ◌≤◌, ◌<◌}
use mathlib.Core.Path.{◌≡◌, refl}
use mathlib.Core.Bool.{Bool, true, false, cond}
use mathlib.Core.List.{List, [], ◌∷◌}
use mathlib.Core.Option.{Option, none, some}
use mathlib.Core.Logic.{inl, inr}
use native.Mathlib.Decide.{ℕ_discrete}
use native.Mathlib.Omega.{arith}
use borrow.Author.Tests.{ltb-true, ne_eqb}
use lib.IntN.{ℤ}
use lib.ListN.{length, get_or, drop}
use Rattle.fieldset.specs.Tables.{at}
use Rattle.fieldset.specs.Lists.{In, All}
use Rattle.fieldset.proofs.Numbers.{clash}
use Rattle.fieldset.proofs.Tests.{and_left}
use Rattle.fieldset.proofs.Fields.{size_le}
use Rattle.fieldset.proofs.Lists.{Whole}
use Rattle.panel.specs.declared.Panel.{Panel}
use Rattle.panel.specs.declared.Refusal.{Refusal}
use Rattle.panel.specs.declared.Refusal.TheVariants.{BadHex, BadFrame, AlreadyOpen, NotOpen, BadSize, BadLink, NoSuchField, LinkTaken, NoSuchLink, Conflict, Loop, TextTooLong, OutOfRange, FieldDriven, BadFormula, BadHeader, UnclearUnit, FlowCount, BadImage, UnknownVersion, Unfit}
use Rattle.panel.specs.Items.{Item, link, stay, in_force}
use Rattle.panel.specs.Answers.{Answer, refusal_bytes}
use Rattle.panel.specs.Solution.{level, strength_of, plan_of, rows_of}
use Rattle.panel.specs.Moved.{moved}
use Rattle.panel.specs.Commands as panel
use Rattle.panel.specs.Commands.{opening, adding, removing, touching, planning, changing, check_reply}
use Rattle.panel.specs.Legal.{Legal}
use Rattle.panel.proofs.Legal.{force_formed}
use Rattle.panel.proofs.Setters.{whole, setter_force}
use Rattle.optimality.proofs.Graphs.{setters_of, legal_whole, strength_least}
use Rattle.optimality.proofs.Held.{plan_whole}
use Rattle.optimality.proofs.Answers.{Outcome, OfChecks, opening_outcome, adding_outcome, changing_outcome, removing_outcome, touching_outcome, planning_outcome}
use Rattle.values.specs.Words.{value_of}
use Rattle.formulas.specs.Formulas.{Rule}
use Rattle.sheet.specs.declared.Sheet.{Sheet}
use Rattle.exactness.specs.Beginnings.{start_of}
use Rattle.exactness.proofs.Beginnings.{begun_legal}
use Rattle.sheet.specs.Commands.{Command, entering, formula_checks, performed}
use Rattle.sheet.specs.Legal.{LegalSheet}
use Rattle.sheet.proofs.Legal.{legal_sheet}
use Rattle.sheet.proofs.Answers.{entering_reply, checks_reply}
use Rattle.hexadecimal.specs.Hex.{is_hex, bytes_of}
use Rattle.frames.specs.Texts.{replies}
use Rattle.frames.specs.Frames.{fits_kind, is_frame, checked_frame, bad_hex, frame_of, word_of, formula_in, command_of, answered, line_answer}
use Rattle.acceptance.specs.Replies.{kind_of, Counts, Form, IsReply, Replied, EveryReply}

-- ---- refusals

refused_reply : (kind : ℕ) (r : ℕ) → 2 ≤ r → r ≤ 11 → IsReply kind (0xFF ∷ r ∷ [])
refused_reply kind r a b = record { form = Form.refusal r a b; bytes = (omega arith, (omega arith, tt)) }

refusal_reply : (kind : ℕ) (r : Refusal) → 2 ≤ get_or (refusal_bytes r) 0 0 → get_or (refusal_bytes r) 0 0 ≤ 11 → IsReply kind (0xFF ∷ refusal_bytes r)
refusal_reply kind (BadHex n) m l = absurd (omega arith)
refusal_reply kind BadFrame m l = refused_reply kind 2 m l
refusal_reply kind AlreadyOpen m l = refused_reply kind 3 m l
refusal_reply kind NotOpen m l = refused_reply kind 4 m l
refusal_reply kind BadSize m l = refused_reply kind 5 m l
refusal_reply kind BadLink m l = refused_reply kind 6 m l
refusal_reply kind NoSuchField m l = refused_reply kind 7 m l
refusal_reply kind LinkTaken m l = refused_reply kind 8 m l
refusal_reply kind NoSuchLink m l = refused_reply kind 9 m l
refusal_reply kind Conflict m l = refused_reply kind 10 m l
refusal_reply kind Loop m l = refused_reply kind 11 m l
refusal_reply kind TextTooLong m l = absurd (omega arith)
refusal_reply kind OutOfRange m l = absurd (omega arith)
refusal_reply kind FieldDriven m l = absurd (omega arith)
refusal_reply kind BadFormula m l = absurd (omega arith)
refusal_reply kind BadHeader m l = absurd (omega arith)
refusal_reply kind UnclearUnit m l = absurd (omega arith)
refusal_reply kind FlowCount m l = absurd (omega arith)
refusal_reply kind BadImage m l = absurd (omega arith)
refusal_reply kind UnknownVersion m l = absurd (omega arith)
refusal_reply kind Unfit m l = absurd (omega arith)

bad_hex_reply : (offset : ℕ) → offset ≤ 0xFFFF → IsReply 0xFF (0xFF ∷ refusal_bytes (BadHex offset))
bad_hex_reply offset h = record { form = Form.bad_hex offset refl; bytes = (omega arith, (omega arith, (omega arith, (omega arith, tt)))) }

-- ---- moved counts

count_reply : (kind m : ℕ) → Counts kind → m ≤ 64 → IsReply kind (0x00 ∷ m ∷ [])
count_reply kind m k l = record { form = Form.count m k l; bytes = (omega arith, (omega arith, tt)) }

moved_reply : (kind : ℕ) (p q : Panel) → Counts kind → IsReply kind (0x00 ∷ moved p q ∷ [])
unfolding moved
moved_reply kind p q k = count_reply kind (moved p q) k (size_le _)

-- ---- plans

module _ (p : Panel) (h : Legal p) where
  -- the weakest level of all: the stay at place 63
  item_level : (c : Item) → in_force p.size p.links c ≡ true → level p c ≤ 79
  item_level (link i) u = omega (arith, (force_formed p.size p.links (whole p h).filled i u).level)
  item_level (stay f) u = omega (arith, h.place_small f (ltb-true f p.size u), h.few)

  strength_small : (f : ℕ) → f < p.size → strength_of p f ≤ 79
  strength_small =
      strength_least (legal_whole p h) (λ f. 79)
      (λ f l. record { level = item_level (setters_of p f) (setter_force p _ (whole p h) f l); outs = λ u lu ou. omega arith })

  rows_length_lem : (fs : List ℕ) → length (rows_of p fs) ≡ 3 * length fs
  unfolding rows_of
  rows_length_lem [] = refl
  rows_length_lem (f ∷ fs) = omega (arith, rows_length_lem fs)

  rows_bytes : (fs : List ℕ) → All (λ f. f < p.size) fs → All (λ b. b < 256) (rows_of p fs)
  unfolding rows_of
  rows_bytes [] a = tt
  rows_bytes (f ∷ fs) (l, a) =
      let low : f < 64 = omega (arith, h.few) in
      (omega arith, (omega (arith, h.setter_small f low), (omega (arith, strength_small f l), rows_bytes fs a)))

  plan_reply : 0 < p.size → IsReply 0x05 (0x00 ∷ p.size ∷ rows_of p (plan_of p))
  plan_reply is_open =
      record {
        form = Form.plan p.size (rows_of p (plan_of p)) refl is_open h.few (omega (arith, rows_length_lem (plan_of p), all.whole));
        bytes = (omega arith, (omega (arith, h.few), rows_bytes (plan_of p) all.below));
      }
    where
      all : Whole p.size (plan_of p)
      all = plan_whole p h.few h.loopless

-- ---- kinds

-- the kind of a frame of the panel's commands
abbrev kind_for : panel.Command → ℕ
kind_for (opening n) = 0x01
kind_for (adding id level bytes) = 0x02
kind_for (removing id) = 0x03
kind_for (touching f) = 0x04
kind_for planning = 0x05
kind_for (changing id level bytes) = 0x06

abbrev Known : ℕ → Type 0
Known kind = In kind (0x01 ∷ 0x02 ∷ 0x03 ∷ 0x04 ∷ 0x05 ∷ 0x06 ∷ 0x07 ∷ 0x08 ∷ [])

fits_kind_lem : (kind form n : ℕ) → fits_kind kind form n ≡ true → Known kind
unfolding fits_kind
fits_kind_lem k form n e =
    go (ℕ_discrete k 0x01) (ℕ_discrete k 0x02) (ℕ_discrete k 0x03) (ℕ_discrete k 0x04) (ℕ_discrete k 0x05) (ℕ_discrete k 0x06) (ℕ_discrete k 0x07)
    (ℕ_discrete k 0x08)
  where
    go : Dec (k ≡ 0x01) → Dec (k ≡ 0x02) → Dec (k ≡ 0x03) → Dec (k ≡ 0x04) → Dec (k ≡ 0x05) → Dec (k ≡ 0x06) → Dec (k ≡ 0x07) → Dec (k ≡ 0x08) → Known k
    go (yes a) b c d f g h i = inl a
    go (no a) (yes b) c d f g h i = inr (inl b)
    go (no a) (no b) (yes c) d f g h i = inr (inr (inl c))
    go (no a) (no b) (no c) (yes d) f g h i = inr (inr (inr (inl d)))
    go (no a) (no b) (no c) (no d) (yes f) g h i = inr (inr (inr (inr (inl f))))
    go (no a) (no b) (no c) (no d) (no f) (yes g) h i = inr (inr (inr (inr (inr (inl g)))))
    go (no a) (no b) (no c) (no d) (no f) (no g) (yes h) i = inr (inr (inr (inr (inr (inr (inl h))))))
    go (no a) (no b) (no c) (no d) (no f) (no g) (no h) (yes i) = inr (inr (inr (inr (inr (inr (inr (inl i)))))))
    go (no a) (no b) (no c) (no d) (no f) (no g) (no h) (no i) =
        absurd
        (clash
        (rw (ne_eqb k 0x01 a, ne_eqb k 0x02 b, ne_eqb k 0x03 c, ne_eqb k 0x04 d, ne_eqb k 0x05 f, ne_eqb k 0x06 g, ne_eqb k 0x07 h, ne_eqb k 0x08 i) at e) refl)

-- ---- commands

module _ (p : Panel) (h : Legal p) where
  abbrev Refuses : ℕ → Refusal → Type 0
  Refuses kind r = IsReply kind (0xFF ∷ refusal_bytes r)

  abbrev Tells : ℕ → Panel → List ℕ → Type 0
  Tells kind q bytes = IsReply kind (0x00 ∷ bytes)

  told : (kind : ℕ) (a : Answer) → Outcome (Refuses kind) (Tells kind) p a → IsReply kind a.reply
  told kind a (Outcome.no r x) = x
  told kind a (Outcome.yes q bytes x) = x

  early : (kind : ℕ) (r : Refusal) → OfChecks r → Refuses kind r
  early kind r l = refusal_reply kind r (omega arith) (omega arith)

  -- a touch, whatever kind of frame asks for it
  touch_outcome : (kind : ℕ) → Counts kind → (f : ℕ) → Outcome (Refuses kind) (Tells kind) p (panel.performed p (touching f))
  touch_outcome kind k f =
      touching_outcome _ _ p (early kind) (λ q. moved_reply kind p q k) (refusal_reply kind Loop (omega arith) (omega arith)) f

  outcome : (c : panel.Command) → Outcome (Refuses (kind_for c)) (Tells (kind_for c)) p (panel.performed p c)
  outcome (opening n) = opening_outcome _ _ p (early 0x01) (λ m. count_reply 0x01 0 (inl (omega arith)) (omega arith)) n
  outcome (adding id level bytes) =
      adding_outcome _ _ p (early 0x02) (λ q. moved_reply 0x02 p q (inl (omega arith))) (refusal_reply 0x02 Loop (omega arith) (omega arith))
      id level bytes (λ e. refusal_reply 0x02 Conflict (omega arith) (omega arith))
  outcome (removing id) =
      removing_outcome _ _ p (early 0x03) (λ q. moved_reply 0x03 p q (inl (omega arith))) (refusal_reply 0x03 Loop (omega arith) (omega arith)) id
  outcome (touching f) = touch_outcome 0x04 (inl (omega arith)) f
  outcome (changing id level bytes) =
      changing_outcome _ _ p (early 0x06) (λ q. moved_reply 0x06 p q (inr (inl refl))) (refusal_reply 0x06 Loop (omega arith) (omega arith))
      id level bytes (λ e. refusal_reply 0x06 Conflict (omega arith) (omega arith))
  outcome planning = planning_outcome _ _ p (early 0x05) (λ e. plan_reply p h (ltb-true 0 p.size e))

  command_reply : (c : panel.Command) → IsReply (kind_for c) (panel.performed p c).reply
  command_reply c = told (kind_for c) (panel.performed p c) (outcome c)

  touch_reply : (kind : ℕ) → Counts kind → (f : ℕ) → IsReply kind (panel.performed p (touching f)).reply
  touch_reply kind k f = told kind (panel.performed p (touching f)) (touch_outcome kind k f)

-- ---- kinds 07 and 08

value_reply : (r : ℕ) → 13 ≤ r → r ≤ 14 → IsReply 0x07 (0xFF ∷ r ∷ [])
value_reply r a b = record { form = Form.no_value r refl a b; bytes = (omega arith, (omega arith, tt)) }

formula_reply : (p : Panel) (id : ℕ) (formula : Rule) → IsReply 0x08 (check_reply (formula_checks p id formula))
formula_reply p id formula =
    checks_reply (IsReply 0x08) (formula_checks p id formula) (
      refused_reply 0x08 4 (omega arith) (omega arith),
      (
        refused_reply 0x08 6 (omega arith) (omega arith),
        (
          refused_reply 0x08 7 (omega arith) (omega arith),
          (refused_reply 0x08 9 (omega arith) (omega arith), (record { form = Form.no_formula refl; bytes = (omega arith, (omega arith, tt)) }, tt)),
        ),
      ),
    ) (record { form = Form.formula refl; bytes = (omega arith, (omega arith, tt)) })

-- ---- lines

module _ (s : Sheet) (h : LegalSheet s) where
  entered_reply : (f : ℕ) (v : ℤ) → IsReply 0x07 (performed s (entering f v)).reply
  entered_reply f v =
      entering_reply (IsReply 0x07) s f v (touch_reply s.panel h.panel 0x07 (inr (inr refl)) f) (value_reply 14 (omega arith) (omega arith))
      (value_reply 13 (omega arith) (omega arith)) (λ m l. count_reply 0x07 m (inr (inr refl)) l)

  -- a frame is answered as the command of its kind
  frame_reply : (bytes : List ℕ) → is_frame bytes ≡ true → IsReply (at bytes 0) (answered s bytes (command_of bytes)).reply
  unfolding is_frame command_of
  frame_reply bytes e = go (fits_kind_lem (at bytes 0) (at bytes 2) (length bytes) (and_left _ _ e))
    where
      go : Known (at bytes 0) → IsReply (at bytes 0) (answered s bytes (command_of bytes)).reply
      go (inr (inr (inr (inr (inr (inr (inr (inr x8)))))))) = elim x8 [ ]
      go (inl k) = rw k (command_reply s.panel h.panel (opening (at bytes 1)))
      go (inr (inl k)) = rw k (command_reply s.panel h.panel (adding (at bytes 1) (at bytes 2) (drop 3 bytes)))
      go (inr (inr (inl k))) = rw k (command_reply s.panel h.panel (removing (at bytes 1)))
      go (inr (inr (inr (inl k)))) = rw k (command_reply s.panel h.panel (touching (at bytes 1)))
      go (inr (inr (inr (inr (inl k))))) = rw k (command_reply s.panel h.panel planning)
      go (inr (inr (inr (inr (inr (inl k)))))) = rw k (command_reply s.panel h.panel (changing (at bytes 1) (at bytes 2) (drop 3 bytes)))
      go (inr (inr (inr (inr (inr (inr (inl k))))))) = rw k (entered_reply (at bytes 1) (value_of (word_of (drop 2 bytes))))
      go (inr (inr (inr (inr (inr (inr (inr (inl k)))))))) = rw k (formula_reply s.panel (at bytes 1) (formula_in (drop 2 bytes)))

  line_reply : (line : List ℕ) → IsReply (kind_of line) (line_answer s line).reply
  unfolding line_answer frame_of checked_frame command_of
  line_reply line = go (is_hex line) (is_frame (bytes_of line)) refl
    where
      go : (x y : Bool) → is_frame (bytes_of line) ≡ y
          → let frame = cond x (cond y (bytes_of line) (0xFF ∷ refusal_bytes BadFrame)) (0xFF ∷ refusal_bytes (bad_hex line)) in
          IsReply (at frame 0) (answered s frame (command_of frame)).reply
      go true true e = frame_reply (bytes_of line) e
      go true false e = refusal_reply 0xFF BadFrame (omega arith) (omega arith)
      go false y e = bad_hex_reply _ (omega arith)

  line_legal : (line : List ℕ) → LegalSheet (line_answer s line).state
  unfolding line_answer
  line_legal line = go (command_of (frame_of line))
    where
      go : (c : Option Command) → LegalSheet (answered s (frame_of line) c).state
      go none = h
      go (some c) = legal_sheet s h c

replied : (s : Sheet) → LegalSheet s → (lines : List (List ℕ)) → Replied lines (replies line_answer s lines)
unfolding replies
replied s h [] = tt
replied s h (l ∷ ls) = (line_reply s h l, replied (line_answer s l).state (line_legal s h l) ls)

pub every_reply : EveryReply
every_reply x = replied (start_of x).state (begun_legal x)
