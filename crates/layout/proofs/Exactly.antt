-- A text is no BadImage exactly when it is the text of a well-formed image: it is that of the formed sheet that its lines enter, whose image is
-- well-formed; and a well-formed image is that of a formed sheet. Assumes nothing.
use mathlib.Core.Path.{ap, sym, ◌∙◌}
use Rattle.images.specs.Entries.{candidate}
use Rattle.images.proofs.Facts.{formed_facts, facts_formed}
use Rattle.images.proofs.Reading.{not_bad, good_not_bad}
use Rattle.layout.specs.Layout.{text_of, ImagesExactly}
use Rattle.layout.proofs.Images.{image_from, image_text, image_formed}
use Rattle.layout.proofs.Sheets.{sheet_from, sheet_facts, image_back}

pub images_exactly : ImagesExactly
images_exactly text = (
  (λ e.
      let G = not_bad text e in
      let s = candidate text in
      (image_from s, image_formed s (formed_facts s G.formed), image_text s ∙ G.is_text)),
  (λ (x, W, e).
      good_not_bad text (sheet_from x)
      (record {
        formed = facts_formed (sheet_from x) (sheet_facts x W);
        is_text = sym (image_text (sheet_from x)) ∙ ap text_of (image_back x W) ∙ e;
      })),
)
