-- What reading a frame and a line answers. No kind fits no bytes or as many as the buffer has, so a buffer's first bytes decide as the whole frame
-- does (`fits_taken`, `known`); then one law for each way that `read_frame` and `read_line` answer. Assumes nothing.
use mathlib.Core.Path.{◌≡◌, refl, sym, ap, ap₂, ◌∙◌}
use mathlib.Core.Logic.{◌⊎◌, inl, inr, ⊎_elim}
use mathlib.Core.Bool.{Bool, true, false, not, cond, ◌&&◌, ◌||◌, and-false, true≢false}
use mathlib.Core.List.{List, [], ◌∷◌}
use Prim.Native.Nat.{ℕ, zero, suc, ◌+◌, ◌-◌, ◌≤◌, ◌<◌, min}
use native.Mathlib.Decide.{dec_lt}
use native.Mathlib.Omega.{arith}
use lib.Dec.{ltb, leb, eqb}
use lib.ListN.{length, take, drop, replicate, length-take, length-drop}
use lib.Seq.{get_or-take, length-take-le, take_all, take_at, sets, sets-eq, length-sets}
use borrow.Author.Tests.{ltb-true, ltb-false, leb-true, leb-false, lt-leb, eqb-true, ne_eqb}
use Rattle.std.specs.Prelude.{Ok, Err}
use Rattle.std.specs.List.{list_any}
use Rattle.std.proofs.lemmas.List.{drop-take}
use Rattle.fieldset.specs.Tables.{at}
use Rattle.fieldset.proofs.Tests.{and_left}
use Rattle.panel.specs.declared.Refusal.TheVariants.{BadHex, BadFrame}
use Rattle.panel.specs.Answers.{refusal_bytes}
use Rattle.panel.specs.Commands.{has_bit6, any_of}
use Rattle.hexadecimal.specs.Hex.{is_hex, offset_of, bytes_of, frame_room}
use Rattle.hexadecimal.specs.Answers.{decoded_values, decoded, frame_after}
use Rattle.hexadecimal.specs.declared.BadHex.{BadHex as NoHex}
use Rattle.hexadecimal.proofs.Stores.{sets_fit}
use Rattle.frames.specs.declared.Command.{Command}
use Rattle.frames.specs.declared.Command.TheVariants.{Refused}
use Rattle.frames.specs.declared.Line.{Line}
use Rattle.frames.specs.Frames.{fits_formula, fits_kind, has_fields, is_frame, checked_frame, bad_hex, frame_of, command_bytes}
use Rattle.frames.specs.Reading.{tail_of, kept_bytes, LineRead}

-- ---- bit 6 of the field bytes

any_same : (b : List ℕ) → list_any has_bit6 b ≡ any_of has_bit6 b
unfolding any_of
any_same [] = refl
any_same (x ∷ b) = ap (λ (r : Bool). has_bit6 x || r) (any_same b)

-- the field bytes, as a range of the frame that starts behind the third byte, and as its rest
pub field_bytes_any : (f : List ℕ) (n from : ℕ) → from ≡ 3 → 3 ≤ n → list_any has_bit6 (take (n - from) (drop from f)) ≡ any_of has_bit6 (drop 3 (take n f))
field_bytes_any f n from e h =
    let end : 3 + (n - 3) ≡ n = omega arith in
    rw e (any_same (take (n - 3) (drop 3 f)) ∙ ap (any_of has_bit6) (sym (drop-take 3 (n - 3) f) ∙ ap (λ (m : ℕ). drop 3 (take m f)) end))

-- ---- lengths that fit a kind

-- the kinds, as a match on the kind tells them apart
abbrev pub OtherKind : ℕ → Type 0
OtherKind k =
    (((((((Unit {0} × (k ≡ 0x01 → ⊥)) × (k ≡ 0x02 → ⊥)) × (k ≡ 0x03 → ⊥)) × (k ≡ 0x04 → ⊥)) × (k ≡ 0x05 → ⊥)) × (k ≡ 0x06 → ⊥)) × (k ≡ 0x07 → ⊥)) × (k ≡ 0x08 → ⊥)

pub fits_other : (k form n : ℕ) → OtherKind k → false ≡ fits_kind k form n
unfolding fits_kind
fits_other k form n o =
    let ((((((((_, a), b), c), d), e), f), g), h) = o in
    simp (ne_eqb k 1 a, ne_eqb k 2 b, ne_eqb k 3 c, ne_eqb k 4 d, ne_eqb k 5 e, ne_eqb k 6 f, ne_eqb k 7 g, ne_eqb k 8 h)

pub fits_at : (k' k form n : ℕ) → k ≡ k' → fits_kind k' form n ≡ fits_kind k form n
fits_at k' k form n e = ap (λ (x : ℕ). fits_kind x form n) (sym e)

either_false : (b : Bool) → cond b false false ≡ false
either_false true = refl
either_false false = refl

-- no kind has no byte, or as many as the buffer
fits_none : (k form : ℕ) → fits_kind k form 0 ≡ false
unfolding fits_kind fits_formula
fits_none k form = simp either_false

fits_many : (k form n : ℕ) → frame_room ≤ n → fits_kind k form n ≡ false
unfolding fits_kind fits_formula
fits_many k form n h =
    let other : (m : ℕ) → m < frame_room → eqb n m ≡ false = λ m l. ne_eqb n m (λ e. omega arith) in
    simp (other 1 (omega arith), other 2 (omega arith), other 4 (omega arith), other 6 (omega arith), other 7 (omega arith), lt-leb n 11 (omega arith), and-false, either_false)

-- the third byte counts only where it is there
fits_two : (k form form' n : ℕ) → n < 3 → fits_kind k form n ≡ fits_kind k form' n
unfolding fits_kind fits_formula
fits_two k form form' n h = simp (ne_eqb n 4 (λ e. omega arith), ne_eqb n 7 (λ e. omega arith), either_false)

pub fits_short : (k form n : ℕ) → fits_kind k form n ≡ true → n < frame_room
fits_short k form n e = go (ltb n frame_room) refl where
  go : (b : Bool) → ltb n frame_room ≡ b → n < frame_room
  go true t = ltb-true n frame_room t
  go false t = absurd (true≢false (sym e ∙ fits_many k form n (ltb-false n frame_room t)))

-- a link, a value and a formula have more than three bytes
pub long_link : (k : ℕ) → (k ≡ 0x02) ⊎ (k ≡ 0x06) → (form n : ℕ) → fits_kind k form n ≡ true → 4 ≤ n
unfolding fits_kind
long_link k kind form n e = leb-true 4 n (and_left (leb 4 n) (leb n 11) (⊎_elim (λ a. rw a at e) (λ a. rw a at e) kind))

-- so have the kinds with field bytes
pub fields_reach : (k form n : ℕ) → fits_kind k form n ≡ true → has_fields k ≡ true → 4 ≤ n
fields_reach k form n e h = go (eqb k 0x02) refl h where
  go : (b : Bool) → eqb k 0x02 ≡ b → b || eqb k 0x06 ≡ true → 4 ≤ n
  go true t h = long_link k (inl (eqb-true k 0x02 t)) form n e
  go false t h = long_link k (inr (eqb-true k 0x06 h)) form n e

pub long_value : (form n : ℕ) → fits_kind 0x07 form n ≡ true → 4 ≤ n
unfolding fits_kind
long_value form n e = omega (arith, eqb-true n 6 e)

pub long_formula : (form n : ℕ) → fits_kind 0x08 form n ≡ true → 4 ≤ n
unfolding fits_kind fits_formula
long_formula form n e = go (eqb form 0x01) (eqb form 0x02) e where
  go : (b c : Bool) → cond b (eqb n 7) (cond c (eqb n 4) false) ≡ true → 4 ≤ n
  go true c e = omega (arith, eqb-true n 7 e)
  go false true e = omega (arith, eqb-true n 4 e)
  go false false e = absurd (true≢false (sym e))

-- a full buffer's first bytes fit their kind as their number does the buffer's first byte
fits_taken : (f : List ℕ) (n : ℕ) → length f ≡ frame_room
    → fits_kind (at (take n f) 0) (at (take n f) 2) (length (take n f)) ≡ fits_kind (at f 0) (at f 2) n
fits_taken f zero size = fits_none 0 0 ∙ sym (fits_none (at f 0) (at f 2))
fits_taken f (suc n) size = go (ltb (suc n) frame_room) refl where
  third : Dec (suc n < 3) → fits_kind (at f 0) (at (take (suc n) f) 2) (suc n) ≡ fits_kind (at f 0) (at f 2) (suc n)
  third (yes l) = fits_two (at f 0) (at (take (suc n) f) 2) (at f 2) (suc n) l
  third (no l) = ap (λ (x : ℕ). fits_kind (at f 0) x (suc n)) (get_or-take (suc n) f 2 0 (omega arith))

  go : (b : Bool) → ltb (suc n) frame_room ≡ b
      → fits_kind (at (take (suc n) f) 0) (at (take (suc n) f) 2) (length (take (suc n) f)) ≡ fits_kind (at f 0) (at f 2) (suc n)
  go true e =
      ap₂ (λ (k : ℕ) (m : ℕ). fits_kind k (at (take (suc n) f) 2) m) (get_or-take (suc n) f 0 0 (omega arith))
      (length-take-le (suc n) f (omega (arith, ltb-true (suc n) frame_room e)))
      ∙ third (dec_lt (suc n) 3)
  go false e =
      let h : frame_room ≤ suc n = ltb-false (suc n) frame_room e in
      fits_many _ _ _ (omega (arith, length-take (suc n) f)) ∙ sym (fits_many (at f 0) (at f 2) (suc n) h)

-- ---- which bytes are a frame

unfit : (b : List ℕ) → fits_kind (at b 0) (at b 2) (length b) ≡ false → is_frame b ≡ false
unfolding is_frame
unfit b e = simp e

pub refused_frame : (b : List ℕ) → is_frame b ≡ false → 0xFF ∷ refusal_bytes BadFrame ≡ checked_frame b
unfolding checked_frame
refused_frame b e = sym (simp e)

-- a frame is known by as many bytes as the buffer has
known : (b : List ℕ) → checked_frame (take frame_room b) ≡ checked_frame b
known b = go (leb (length b) frame_room) refl where
  go : (t : Bool) → leb (length b) frame_room ≡ t → checked_frame (take frame_room b) ≡ checked_frame b
  go true e = ap checked_frame (take_all frame_room b (leb-true (length b) frame_room e))
  go false e =
      let h : frame_room < length b = leb-false (length b) frame_room e in
      sym (refused_frame (take frame_room b) (unfit (take frame_room b) (fits_many _ _ _ (omega (arith, length-take frame_room b)))))
      ∙ refused_frame b (unfit b (fits_many _ _ _ (omega arith)))

parts : (f : List ℕ) → 3 ≤ length f → at f 0 ∷ at f 1 ∷ at f 2 ∷ drop 3 f ≡ f
parts [] h = absurd (omega arith)
parts (x ∷ []) h = absurd (omega arith)
parts (x ∷ y ∷ []) h = absurd (omega arith)
parts (x ∷ y ∷ z ∷ s) h = refl

-- ---- the first n bytes of a buffer

module _ (f : List ℕ) (n : ℕ) (size : length f ≡ frame_room) where
  pub unfit_taken : fits_kind (at f 0) (at f 2) n ≡ false → false ≡ is_frame (take n f)
  unfit_taken e = sym (unfit (take n f) (fits_taken f n size ∙ e))

  -- bytes that fit their kind have one
  kind_taken : fits_kind (at f 0) (at f 2) n ≡ true → at (take n f) 0 ≡ at f 0
  kind_taken fits = go n refl where
    go : (m : ℕ) → n ≡ m → at (take n f) 0 ≡ at f 0
    go zero e = absurd (true≢false (sym fits ∙ ap (fits_kind (at f 0) (at f 2)) e ∙ fits_none (at f 0) (at f 2)))
    go (suc m) e = get_or-take n f 0 0 (omega arith)

  -- they are a frame where no field byte has bit 6 set
  pub fit_taken : fits_kind (at f 0) (at f 2) n ≡ true → (b : Bool) → has_fields (at f 0) && any_of has_bit6 (drop 3 (take n f)) ≡ b
      → not b ≡ is_frame (take n f)
  unfolding is_frame
  fit_taken fits b e =
      let low : has_fields (at (take n f) 0) && any_of has_bit6 (drop 3 (take n f)) ≡ b = ap (λ (k : ℕ). has_fields k && any_of has_bit6 (drop 3 (take n f))) (kind_taken fits) ∙ e in
      sym (ap₂ (λ (x : Bool) (y : Bool). x && not y) (fits_taken f n size ∙ fits) low)

  module _ (frame : is_frame (take n f) ≡ true) where
    taken_fits : fits_kind (at (take n f) 0) (at (take n f) 2) (length (take n f)) ≡ true
    unfolding is_frame
    taken_fits = and_left _ (not (has_fields (at (take n f) 0) && any_of has_bit6 (drop 3 (take n f)))) frame

    pub frame_fits : fits_kind (at f 0) (at f 2) n ≡ true
    frame_fits = sym (fits_taken f n size) ∙ taken_fits

    frame_read : take n f ≡ checked_frame (take n f)
    unfolding checked_frame
    frame_read = sym (simp frame)

    module _ (k : ℕ) (kind : at f 0 ≡ k) where
      kind_fits : fits_kind k (at f 2) n ≡ true
      kind_fits = fits_at k (at f 0) (at f 2) n kind ∙ frame_fits

      -- a kind with one length m: its first m bytes
      pub exact_read : (m : ℕ) → fits_kind k (at f 2) n ≡ eqb n m → take m (k ∷ at f 1 ∷ at f 2 ∷ drop 3 f) ≡ checked_frame (take n f)
      exact_read m one =
          let e : n ≡ m = eqb-true n m (sym one ∙ kind_fits) in
          ap₂ (λ (i : ℕ) (x : ℕ). take i (x ∷ at f 1 ∷ at f 2 ∷ drop 3 f)) (sym e) (sym kind) ∙ ap (take n) (parts f (omega arith)) ∙ frame_read

      -- a kind with two values and further bytes
      pub long_read : ((form n : ℕ) → fits_kind k form n ≡ true → 4 ≤ n) → k ∷ at f 1 ∷ at f 2 ∷ drop 3 (take n f) ≡ checked_frame (take n f)
      long_read long =
          let b : List ℕ = take n f in
          let h : 4 ≤ n = long (at f 2) n kind_fits in
          ap₂ (λ (x : ℕ) (y : ℕ). x ∷ y ∷ at f 2 ∷ drop 3 b) (sym (kind_taken frame_fits ∙ kind)) (sym (get_or-take n f 1 0 (omega arith)))
          ∙ ap (λ (z : ℕ). at b 0 ∷ at b 1 ∷ z ∷ drop 3 b) (sym (get_or-take n f 2 0 (omega arith)))
          ∙ parts b (omega (arith, length-take n f)) ∙ frame_read

-- ---- a line

-- what decoding tells
pub bad_told : (s : List ℕ) (e : NoHex) → decoded_values (Err e) ≡ decoded s → (is_hex s ≡ false) × (e.offset ≡ offset_of s)
unfolding decoded
bad_told s e told = go (is_hex s) refl told where
  go : (b : Bool) → is_hex s ≡ b → decoded_values (Err e) ≡ cond b (0x00 ∷ length (bytes_of s) ∷ []) (0xFF ∷ offset_of s ∷ [])
      → (is_hex s ≡ false) × (e.offset ≡ offset_of s)
  go true t told = let z : ◌≡◌ {A = ℕ} 255 0 = ap (λ (l : List ℕ). at l 0) told in absurd (omega arith)
  go false t told = (t, ap (λ (l : List ℕ). at l 1) told)

pub frame_told : (s : List ℕ) (n : ℕ) → decoded_values (Ok n) ≡ decoded s → (is_hex s ≡ true) × (n ≡ length (bytes_of s))
unfolding decoded
frame_told s n told = go (is_hex s) refl told where
  go : (b : Bool) → is_hex s ≡ b → decoded_values (Ok n) ≡ cond b (0x00 ∷ length (bytes_of s) ∷ []) (0xFF ∷ offset_of s ∷ [])
      → (is_hex s ≡ true) × (n ≡ length (bytes_of s))
  go true t told = (t, ap (λ (l : List ℕ). at l 1) told)
  go false t told = let z : ◌≡◌ {A = ℕ} 0 255 = ap (λ (l : List ℕ). at l 0) told in absurd (omega arith)

-- a full buffer with bytes put at its start has as many of them as fit
sets_front : (f b : List ℕ) → length f ≡ frame_room → take (min (length b) frame_room) (sets f 0 b) ≡ take frame_room b
sets_front f b size =
    let front : List ℕ = take frame_room b in
    let long : length front ≡ min (length b) frame_room = omega (arith, length-take frame_room b) in
    ap (take (min (length b) frame_room)) (sym (sets_fit frame_room f 0 b (omega arith)) ∙ sets-eq front f 0 (omega arith))
    ∙ take_at front (drop (0 + length front) f) (min (length b) frame_room) long

-- the buffer keeps its length
after_full : (s f : List ℕ) → length f ≡ frame_room → length (frame_after s f) ≡ frame_room
unfolding frame_after
after_full s f size = go (is_hex s) where
  go : (b : Bool) → length (cond b (sets f 0 (bytes_of s)) f) ≡ frame_room
  go true = length-sets f 0 (bytes_of s) ∙ size
  go false = size

module _ (s g : List ℕ) (left : g ≡ frame_after s (replicate frame_room 0)) where
  pub read_bad : (e : NoHex) → decoded_values (Err e) ≡ decoded s → (offset : ℕ) → offset ≡ min e.offset 0xFFFF
      → LineRead s (record { command = Refused (BadHex offset); frame = g; len = 0 })
  unfolding frame_of kept_bytes
  read_bad e told offset is =
      let t = bad_told s e told in
      let same : offset ≡ min (offset_of s) 0xFFFF = is ∙ ap (λ (k : ℕ). min k 0xFFFF) t.1 in
      record { bytes = ap (λ (k : ℕ). 0xFF ∷ refusal_bytes (BadHex k)) same ∙ sym (simp t.0); frame = left; len = sym (simp t.0) }

  pub read_good : (n : ℕ) → decoded_values (Ok n) ≡ decoded s → (len : ℕ) → len ≡ min n frame_room → (c : Command)
      → command_bytes c (drop 3 (take len g)) ≡ checked_frame (take len g) → LineRead s (record { command = c; frame = g; len = len })
  unfolding frame_of frame_after kept_bytes
  read_good n told len is c read =
      let t = frame_told s n told in
      let kept : g ≡ sets (replicate frame_room 0) 0 (bytes_of s) = left ∙ simp t.0 in
      let short : len ≡ min (length (bytes_of s)) frame_room = is ∙ ap (λ (k : ℕ). min k frame_room) t.1 in
      let front : take len g ≡ take frame_room (bytes_of s) = ap₂ take short kept ∙ sets_front (replicate frame_room 0) (bytes_of s) refl in
      record { bytes = read ∙ ap checked_frame front ∙ known (bytes_of s) ∙ sym (simp t.0); frame = left; len = short ∙ sym (simp t.0) }

-- the buffer of a line that is read is full, and no more bytes count than it has
module _ (s : List ℕ) (r : Line) (l : LineRead s r) where
  pub read_full : length r.frame ≡ frame_room
  read_full = ap length l.frame ∙ after_full s (replicate frame_room 0) refl

  pub read_short : r.len ≤ frame_room
  unfolding kept_bytes
  read_short = go (is_hex s) l.len where
    go : (b : Bool) → r.len ≡ cond b (min (length (bytes_of s)) frame_room) 0 → r.len ≤ frame_room
    go true e = omega arith
    go false e = omega arith

-- bytes that are no refusal fit their kind
abbrev Fits : List ℕ → Type 0
Fits b = (at b 0 ≡ 0xFF → ⊥) → fits_kind (at b 0) (at b 2) (length b) ≡ true

checked_fits : (b : List ℕ) → Fits (checked_frame b)
unfolding checked_frame is_frame
checked_fits b = go (fits_kind (at b 0) (at b 2) (length b)) (not (has_fields (at b 0) && any_of has_bit6 (drop 3 b))) refl where
  go : (x y : Bool) → fits_kind (at b 0) (at b 2) (length b) ≡ x → Fits (cond (x && y) b (0xFF ∷ refusal_bytes BadFrame))
  go true true e h = e
  go true false e h = absurd (h refl)
  go false y e h = absurd (h refl)

line_fits : (s : List ℕ) → Fits (frame_of s)
unfolding frame_of
line_fits s = go (is_hex s) where
  go : (x : Bool) → Fits (cond x (checked_frame (bytes_of s)) (0xFF ∷ refusal_bytes (bad_hex s)))
  go true = checked_fits (bytes_of s)
  go false = λ h. absurd (h refl)

-- a line whose command has two values of its frame has more than three bytes
module _ (s : List ℕ) (r : Line) (k a b : ℕ) (known : k < 0xFF) (l : LineRead s r) (is : command_bytes r.command (tail_of r) ≡ k ∷ a ∷ b ∷ tail_of r) where
  tail_fits : fits_kind k b (length (k ∷ a ∷ b ∷ tail_of r)) ≡ true
  tail_fits =
      let e : k ∷ a ∷ b ∷ tail_of r ≡ frame_of s = sym is ∙ l.bytes in
      ap (λ (f : List ℕ). fits_kind (at f 0) (at f 2) (length f)) e ∙ line_fits s (λ z. let q : k ≡ 255 = ap (λ (f : List ℕ). at f 0) e ∙ z in omega arith)

  pub tail_reaches : ((n : ℕ) → fits_kind k b n ≡ true → 4 ≤ n) → 3 ≤ r.len
  tail_reaches long =
      omega (arith, long (length (k ∷ a ∷ b ∷ tail_of r)) tail_fits, length-drop 3 (take r.len r.frame), length-take r.len r.frame)
