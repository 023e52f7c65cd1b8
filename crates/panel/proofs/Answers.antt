-- The numbers and values of an answer: how many there are, and that they tell its cases apart. A refusal is read back from its number and values
-- (`refusal_at_lem`).
use mathlib.Core.Path.{◌≡◌, refl, sym, ap, ◌∙◌}
use mathlib.Core.Bool.{true, false, true≢false}
use mathlib.Core.List.{List, [], ◌∷◌}
use Prim.Native.Nat.{ℕ, ◌+◌, ◌*◌, ◌/◌, ◌%◌, ◌≤◌}
use native.Mathlib.Omega.{arith}
use lib.ListN.{length, get_or, drop}
use Rattle.panel.specs.declared.Refusal.{Refusal}
use Rattle.panel.specs.declared.Refusal.TheVariants.{BadHex, BadFrame, AlreadyOpen, NotOpen, BadSize, BadLink, NoSuchField, LinkTaken, NoSuchLink, Conflict, Loop, TextTooLong, OutOfRange, FieldDriven, BadFormula, BadHeader, UnclearUnit, FlowCount, BadImage, UnknownVersion, Unfit}
use Rattle.panel.specs.Answers.{Reply}
use Rattle.std.specs.Prelude.{Ok, Err, is_err}
use Rattle.panel.specs.Answers.{refusal_bytes, reply_bytes}

-- the refusal of a number and values
abbrev pub refusal_at : List ℕ → Refusal
refusal_at b =
    let bad_hex = BadHex (get_or b 1 0 * 256 + get_or b 2 0) in
    get_or
    (bad_hex ∷ bad_hex ∷ BadFrame ∷ AlreadyOpen ∷ NotOpen ∷ BadSize ∷ BadLink ∷ NoSuchField ∷ LinkTaken ∷ NoSuchLink ∷ Conflict ∷ Loop ∷ TextTooLong ∷ OutOfRange
    ∷ FieldDriven ∷ BadFormula ∷ BadHeader ∷ UnclearUnit ∷ FlowCount ∷ BadImage ∷ UnknownVersion ∷ Unfit ∷ [])
    (get_or b 0 0) bad_hex

pub refusal_at_lem : (r : Refusal) → refusal_at (refusal_bytes r) ≡ r
refusal_at_lem (BadHex n) = let e : n / 256 * 256 + n % 256 ≡ n = omega arith in ap BadHex e
refusal_at_lem BadFrame = refl
refusal_at_lem AlreadyOpen = refl
refusal_at_lem NotOpen = refl
refusal_at_lem BadSize = refl
refusal_at_lem BadLink = refl
refusal_at_lem NoSuchField = refl
refusal_at_lem LinkTaken = refl
refusal_at_lem NoSuchLink = refl
refusal_at_lem Conflict = refl
refusal_at_lem Loop = refl
refusal_at_lem TextTooLong = refl
refusal_at_lem OutOfRange = refl
refusal_at_lem FieldDriven = refl
refusal_at_lem BadFormula = refl
refusal_at_lem BadHeader = refl
refusal_at_lem UnclearUnit = refl
refusal_at_lem FlowCount = refl
refusal_at_lem BadImage = refl
refusal_at_lem UnknownVersion = refl
refusal_at_lem Unfit = refl

-- a refusal has its number and at most two values
pub refusal_length : (r : Refusal) → (1 ≤ length (refusal_bytes r)) × (length (refusal_bytes r) ≤ 3)
refusal_length (BadHex n) = (omega arith, omega arith)
refusal_length BadFrame = (omega arith, omega arith)
refusal_length AlreadyOpen = (omega arith, omega arith)
refusal_length NotOpen = (omega arith, omega arith)
refusal_length BadSize = (omega arith, omega arith)
refusal_length BadLink = (omega arith, omega arith)
refusal_length NoSuchField = (omega arith, omega arith)
refusal_length LinkTaken = (omega arith, omega arith)
refusal_length NoSuchLink = (omega arith, omega arith)
refusal_length Conflict = (omega arith, omega arith)
refusal_length Loop = (omega arith, omega arith)
refusal_length TextTooLong = (omega arith, omega arith)
refusal_length OutOfRange = (omega arith, omega arith)
refusal_length FieldDriven = (omega arith, omega arith)
refusal_length BadFormula = (omega arith, omega arith)
refusal_length BadHeader = (omega arith, omega arith)
refusal_length UnclearUnit = (omega arith, omega arith)
refusal_length FlowCount = (omega arith, omega arith)
refusal_length BadImage = (omega arith, omega arith)
refusal_length UnknownVersion = (omega arith, omega arith)
refusal_length Unfit = (omega arith, omega arith)

-- a reply's first two bytes are there
pub reply_two : (r : Reply) → 2 ≤ length (reply_bytes r)
reply_two (Ok m) = omega arith
reply_two (Err r) = omega (arith, (refusal_length r).0)

pub refusals_apart : (r s : Refusal) → refusal_bytes r ≡ refusal_bytes s → r ≡ s
refusals_apart r s e = sym (refusal_at_lem r) ∙ ap refusal_at e ∙ refusal_at_lem s

pub replies_apart : (r s : Reply) → reply_bytes r ≡ reply_bytes s → r ≡ s
replies_apart (Ok m) (Ok n) e = cc
replies_apart (Ok m) (Err s) e = let z : ◌≡◌ {A = ℕ} 0 255 = ap (λ (b : List ℕ). get_or b 0 0) e in absurd (omega arith)
replies_apart (Err r) (Ok n) e = let z : ◌≡◌ {A = ℕ} 255 0 = ap (λ (b : List ℕ). get_or b 0 0) e in absurd (omega arith)
replies_apart (Err r) (Err s) e = ap Err (refusals_apart r s (ap (λ (b : List ℕ). drop 1 b) e))

-- ---- by the code's test

pub is_refused : (r : Reply) → is_err r ≡ true → (x : Refusal) × (r ≡ Err x)
is_refused (Err x) e = (x, refl)
is_refused (Ok m) e = absurd (true≢false (sym e))

pub is_accepted : (r : Reply) → is_err r ≡ false → (m : ℕ) × (r ≡ Ok m)
is_accepted (Err x) e = absurd (true≢false e)
is_accepted (Ok m) e = (m, refl)
