-- What each way through the reading answers, and BadImage by the sheet's own text in a buffer.
use Prim.Native.Nat.{ℕ, ◌≤◌, ◌<◌}
use mathlib.Core.Path.{◌≡◌, sym, ap, ◌∙◌}
use mathlib.Core.Bool.{Bool, true, false, not}
use mathlib.Core.List.{List, [], ◌∷◌}
use native.Mathlib.Omega.{arith}
use borrow.Author.Tests.{lt-ltb, le-ltb}
use lib.ListN.{length, take}
use lib.Seq.{sets}
use Rattle.panel.specs.declared.Refusal.TheVariants.{TextTooLong, AlreadyOpen, UnknownVersion, BadImage, Unfit}
use Rattle.panel.specs.Commands.{is_open, check_reply}
use Rattle.hexadecimal.proofs.Stores.{start_fits, start_is}
use Rattle.frames.specs.Texts.{is_too_long}
use Rattle.sheet.specs.declared.Sheet.{Sheet}
use Rattle.sheet.specs.Commands.{refused}
use Rattle.images.specs.Images.{image_of}
use Rattle.images.specs.Entries.{candidate}
use Rattle.images.specs.Forms.{is_formed}
use Rattle.images.specs.Reading.{version, longest, is_unknown, same, is_bad, is_unfit, read}
use Rattle.images.proofs.Lengths.{image_length}
use Rattle.images.proofs.Reading.{not_bad}
use Rattle.images.proofs.Facts.{formed_facts}

-- ---- BadImage

module _ (text : List ℕ) (c : Sheet) (is : c ≡ candidate text) where
  pub unformed_bad : is_formed c ≡ false → true ≡ is_bad text
  unfolding is_bad
  unformed_bad e = rw (← is, e)

  module _ (e : is_formed c ≡ true) where
    pub formed_few : c.panel.size ≤ 64
    formed_few = (formed_facts c e).few

    -- the text of the sheet, in a buffer that has room for it
    module _ (before after : List ℕ) (n : ℕ) (full : length before ≡ longest) (wrote : after ≡ sets before 0 (image_of version c)) (size : n ≡ length (image_of version c)) where
      fits : length (image_of version c) ≤ length before
      fits = omega (arith, image_length version c e)

      pub text_fits : n ≤ length after
      text_fits = start_fits before after (image_of version c) n fits wrote size

      pub compared_bad : (b : Bool) → b ≡ same (take n after) text → not b ≡ is_bad text
      unfolding is_bad
      compared_bad b g = rw (← is, e) (ap not (g ∙ ap (λ (x : List ℕ). same x text) (start_is before after (image_of version c) n fits wrote size)))

-- ---- the order of the refusals

module _ (s : Sheet) (text : List ℕ) where
  pub too_long : is_too_long text ≡ true → refused s TextTooLong ≡ read s text
  unfolding read check_reply
  too_long e = rw e

  module _ (short : is_too_long text ≡ false) where
    pub already_open_lem : 0 < s.panel.size → refused s AlreadyOpen ≡ read s text
    unfolding read check_reply
    already_open_lem l = rw (short, lt-ltb 0 s.panel.size l)

    module _ (closed : s.panel.size ≤ 0) where
      shut : is_open s.panel ≡ false
      shut = le-ltb 0 s.panel.size closed

      pub unknown : is_unknown text ≡ true → refused s UnknownVersion ≡ read s text
      unfolding read check_reply
      unknown e = rw (short, shut, e)

      module _ (known : is_unknown text ≡ false) where
        pub bad : is_bad text ≡ true → refused s BadImage ≡ read s text
        unfolding read check_reply
        bad e = rw (short, shut, known, e)

        module _ (good : is_bad text ≡ false) (c : Sheet) (is : c ≡ candidate text) where
          pub taken_formed : is_formed c ≡ true
          taken_formed = ap is_formed is ∙ (not_bad text good).formed

          pub unfit : is_unfit c.panel ≡ true → refused s Unfit ≡ read s text
          unfolding read check_reply
          unfit e = let f : is_unfit (candidate text).panel ≡ true = ap (λ (x : Sheet). is_unfit x.panel) (sym is) ∙ e in rw (short, shut, known, good, f)

          pub taken : is_unfit c.panel ≡ false → record { sheet = c; reply = 0x00 ∷ 0x00 ∷ [] } ≡ read s text
          unfolding read check_reply
          taken e = let f : is_unfit (candidate text).panel ≡ false = ap (λ (x : Sheet). is_unfit x.panel) (sym is) ∙ e in rw (short, shut, known, good, f, is)
