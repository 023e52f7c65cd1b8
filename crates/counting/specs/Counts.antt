-- The counts of the scans that a run makes.
use Rattle.std.specs.Prelude.{ℕ, ◌≡◌, cond, List, [], ◌∷◌, eqb}
use Rattle.fieldset.specs.Lists.{All}
use Rattle.sheet.specs.declared.Sheet.{Sheet}
use Rattle.sheet.specs.Sheets.{unopened}
use Rattle.lines.specs.Lines.{lines_of}
use Rattle.frames.specs.Texts.{is_too_long}
use Rattle.frames.specs.Frames.{line_answer}
use Rattle.answering.specs.Scans.{line_scan}
use Rattle.text.specs.Outcomes.{fields_after}

-- how many strengths each scan works out, from a sheet on, in the order of the lines; a line that works out none makes no scan
unfoldable pub scan_counts : Sheet → List (List ℕ) → List ℕ
scan_counts s [] = []
scan_counts s (l ∷ ls) =
    let rest = scan_counts (line_answer s l).state ls in
    cond (eqb (line_scan 0 s l) 0) rest (line_scan 0 s l ∷ rest)

-- of a text, from an unopened panel on; of one that is too long "No line is treated"
unfoldable pub scans_of : List ℕ → List ℕ
scans_of text = cond (is_too_long text) [] (scan_counts unopened (lines_of text))

-- each scan of a text works out as many strengths as the panel has fields: after the text as at the scan, since an open panel keeps its fields
abbrev pub CountsExactly : Type 0
CountsExactly = (text : List ℕ) → All (λ n. n ≡ fields_after text) (scans_of text)
