-- The values of an answer tell its cases apart: a digit from another character, a frame from a refusal, by cases on both answers; lists of other
-- lengths or heads clash. Assumes nothing.
use mathlib.Core.Path.{◌≡◌, refl, ap}
use Prim.Native.Nat.{ℕ}
use native.Mathlib.Omega.{arith}
use Rattle.std.specs.Prelude.{Option, Some, None, Result, Ok, Err}
use Rattle.hexadecimal.specs.declared.BadHex.{BadHex}
use Rattle.hexadecimal.specs.Answers.{digit_values, decoded_values}

pub digits_apart : (a b : Option ℕ) → digit_values a ≡ digit_values b → a ≡ b
digits_apart (Some x) (Some y) e = cc
digits_apart (Some x) None e = let z : ◌≡◌ {A = ℕ} 0 1 = cc in absurd (omega arith)
digits_apart None (Some y) e = let z : ◌≡◌ {A = ℕ} 0 1 = cc in absurd (omega arith)
digits_apart None None e = refl

pub decoded_apart : (a b : Result ℕ BadHex) → decoded_values a ≡ decoded_values b → a ≡ b
decoded_apart (Ok m) (Ok n) e = cc
decoded_apart (Ok m) (Err b) e = let z : ◌≡◌ {A = ℕ} 0 255 = cc in absurd (omega arith)
decoded_apart (Err a) (Ok n) e = let z : ◌≡◌ {A = ℕ} 255 0 = cc in absurd (omega arith)
decoded_apart (Err a) (Err b) e = let same : a.offset ≡ b.offset = cc in ap (λ (x : ℕ). Err (record { offset = x })) same
