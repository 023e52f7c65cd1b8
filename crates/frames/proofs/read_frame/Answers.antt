-- `frames::read_frame` meets its contract. Bytes that are no frame are refused (`refused_frame`). Of a frame, a kind of one or two bytes has its first
-- bytes (`exact_read`), a longer one all of them (`long_read`); another kind would not have fitted (`fits_other`). Assumes nothing.
use mathlib.Core.Path.{◌≡◌, refl, sym, ◌∙◌}
use mathlib.Core.Bool.{true, true≢false}
use mathlib.Core.Logic.{inl, inr}
use mathlib.Core.List.{◌∷◌}
use lib.Dec.{eqb}
use lib.ListN.{length, take, drop}
use Prim.Native.Nat.{ℕ, ◌≤◌}
use borrow.Author.Rules.{rules}
use Rattle.fieldset.specs.Tables.{at}
use Rattle.hexadecimal.specs.Hex.{frame_room}
use Rattle.frames.specs.Frames.{fits_kind, checked_frame}
use Rattle.frames.proofs.Reading.{fits_other, long_link, long_value, long_formula, refused_frame, frame_fits, exact_read, long_read}
use Rattle.frames.proofs.read_frame.Goals as goal
use Rattle.frames.proofs.read_frame.Goals.{Else-not-is_frame}

-- a kind with one length
exactly : (c : Else-not-is_frame) → let s = c.args in (k : ℕ) → at s.frame.now 0 ≡ k → (m : ℕ) → fits_kind k (at s.frame.now 2) s.n ≡ eqb s.n m
    → take m (k ∷ at s.frame.now 1 ∷ at s.frame.now 2 ∷ drop 3 s.frame.now) ≡ checked_frame (take s.n s.frame.now)
exactly c =
    let full : length c.args.frame.now ≡ frame_room = search rules in
    exact_read c.args.frame.now c.args.n full (sym c.is_frame.ensures ∙ c.if-not-is_frame.false)

-- a kind with two values and further bytes
further : (c : Else-not-is_frame) → let s = c.args in (k : ℕ) → at s.frame.now 0 ≡ k → ((form n : ℕ) → fits_kind k form n ≡ true → 4 ≤ n)
    → k ∷ at s.frame.now 1 ∷ at s.frame.now 2 ∷ drop 3 (take s.n s.frame.now) ≡ checked_frame (take s.n s.frame.now)
further c =
    let full : length c.args.frame.now ≡ frame_room = search rules in
    long_read c.args.frame.now c.args.n full (sym c.is_frame.ensures ∙ c.if-not-is_frame.false)

pub returns-then-not-is_frame : goal.returns-then-not-is_frame
returns-then-not-is_frame c = refused_frame _ (sym c.is_frame.ensures ∙ c.if-not-is_frame.true)

pub returns-in-1 : goal.returns-in-1
unfolding fits_kind
returns-in-1 c = exactly (goal.at.returns-in-1 c).Else-not-is_frame 0x01 c.in-1.is 2 refl

pub returns-in-2 : goal.returns-in-2
returns-in-2 c = further (goal.at.returns-in-2 c).Else-not-is_frame 0x02 c.in-2.is (long_link 0x02 (inl refl))

pub returns-in-3 : goal.returns-in-3
unfolding fits_kind
returns-in-3 c = exactly (goal.at.returns-in-3 c).Else-not-is_frame 0x03 c.in-3.is 2 refl

pub returns-in-4 : goal.returns-in-4
unfolding fits_kind
returns-in-4 c = exactly (goal.at.returns-in-4 c).Else-not-is_frame 0x04 c.in-4.is 2 refl

pub returns-in-5 : goal.returns-in-5
unfolding fits_kind
returns-in-5 c = exactly (goal.at.returns-in-5 c).Else-not-is_frame 0x05 c.in-5.is 1 refl

pub returns-in-6 : goal.returns-in-6
returns-in-6 c = further (goal.at.returns-in-6 c).Else-not-is_frame 0x06 c.in-6.is (long_link 0x06 (inr refl))

pub returns-in-7 : goal.returns-in-7
returns-in-7 c = further (goal.at.returns-in-7 c).Else-not-is_frame 0x07 c.in-7.is long_value

pub returns-in-8 : goal.returns-in-8
returns-in-8 c = further (goal.at.returns-in-8 c).Else-not-is_frame 0x08 c.in-8.is long_formula

pub returns-in_default : goal.returns-in_default
returns-in_default c =
    let full : length c.args.frame.now ≡ frame_room = search rules in
    let fits = frame_fits c.args.frame.now c.args.n full (sym c.is_frame.ensures ∙ c.if-not-is_frame.false) in
    absurd (true≢false (sym fits ∙ sym (fits_other _ _ _ (search rules))))
