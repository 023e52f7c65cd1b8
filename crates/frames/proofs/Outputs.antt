-- The answers to lines that stand one after the other: state, replies, tally and output of `ls ++ ms` are those of `ls` and then of `ms` from where
-- `ls` leaves off. By induction on `ls`, whatever answers the lines; one line more is the case of a single one. Assumes nothing.
use mathlib.Core.Path.{◌≡◌, refl, sym, ap, ap₂, ◌∙◌}
use mathlib.Core.List.{List, [], ◌∷◌, ◌++◌, map, append_assoc, append-nil}
use Prim.Native.Nat.{ℕ}
use Rattle.tally.specs.declared.Tally.{Tally}
use Rattle.tally.specs.Tallies.{tallied, tally_bytes}
use Rattle.hexadecimal.specs.Hex.{hex_of, line_of}
use Rattle.lines.specs.Lines.{lines_of}
use Rattle.lines.proofs.Lines.{lines_none, lines_line}
use Rattle.frames.specs.Texts.{LineAnswer, refusal_of, state_after, replies, tally_after, written, output}

-- ---- replies

tally_append : (rs ss : List (List ℕ)) (t : Tally) → tally_after t (rs ++ ss) ≡ tally_after (tally_after t rs) ss
unfolding tally_after
tally_append [] ss t = refl
tally_append (r ∷ rs) ss t = tally_append rs ss (tallied t (refusal_of r))

pub written_append : (rs ss : List (List ℕ)) → written (rs ++ ss) ≡ written rs ++ written ss
unfolding written
written_append [] ss = refl
written_append (r ∷ rs) ss = ap (λ (w : List ℕ). line_of r ++ w) (written_append rs ss) ∙ sym (append_assoc (line_of r) (written rs) (written ss))

-- the text of replies has a line for each
pub lines_written : (rs : List (List ℕ)) (rest : List ℕ) → lines_of (written rs ++ rest) ≡ map hex_of rs ++ lines_of rest
unfolding written
lines_written [] rest = refl
lines_written (r ∷ rs) rest =
    ap lines_of (append_assoc (line_of r) (written rs) rest) ∙ lines_line r (written rs ++ rest)
    ∙ ap (λ (ls : List (List ℕ)). hex_of r ∷ ls) (lines_written rs rest)

pub lines_all : (rs : List (List ℕ)) → lines_of (written rs) ≡ map hex_of rs
lines_all rs =
    ap lines_of (sym (append-nil (written rs))) ∙ lines_written rs [] ∙ ap (λ (ls : List (List ℕ)). map hex_of rs ++ ls) lines_none
    ∙ append-nil (map hex_of rs)

-- one reply more
pub tally_more : (rs : List (List ℕ)) (r : List ℕ) (t : Tally) → tally_after t (rs ++ (r ∷ [])) ≡ tallied (tally_after t rs) (refusal_of r)
unfolding tally_after
tally_more rs r t = tally_append rs (r ∷ []) t

pub written_more : (rs : List (List ℕ)) (r : List ℕ) → written (rs ++ (r ∷ [])) ≡ written rs ++ line_of r
unfolding written
written_more rs r = written_append rs (r ∷ []) ∙ ap (λ (w : List ℕ). written rs ++ w) (append-nil (line_of r))

-- ---- lines

module _ {S : Type 0} (answer : LineAnswer S) where
  state_append : (ls ms : List (List ℕ)) (s : S) → state_after answer s (ls ++ ms) ≡ state_after answer (state_after answer s ls) ms
  unfolding state_after
  state_append [] ms s = refl
  state_append (l ∷ ls) ms s = state_append ls ms (answer s l).state

  replies_append : (ls ms : List (List ℕ)) (s : S) → replies answer s (ls ++ ms) ≡ replies answer s ls ++ replies answer (state_after answer s ls) ms
  unfolding state_after replies
  replies_append [] ms s = refl
  replies_append (l ∷ ls) ms s = ap (λ (rs : List (List ℕ)). (answer s l).reply ∷ rs) (replies_append ls ms (answer s l).state)

  -- the output to lines is what the first of them are answered, and the output to the others from there
  pub output_append : (ls ms : List (List ℕ)) (s : S) (t : Tally)
      → output answer s t (ls ++ ms) ≡ written (replies answer s ls) ++ output answer (state_after answer s ls) (tally_after t (replies answer s ls)) ms
  unfolding output
  output_append ls ms s t =
      let rs = replies answer s ls in
      let ss = replies answer (state_after answer s ls) ms in
      ap (λ (all : List (List ℕ)). written all ++ line_of (tally_bytes (tally_after t all))) (replies_append ls ms s)
      ∙ ap₂ (λ (w : List ℕ) (u : Tally). w ++ line_of (tally_bytes u)) (written_append rs ss) (tally_append rs ss t)
      ∙ append_assoc (written rs) (written ss) (line_of (tally_bytes (tally_after (tally_after t rs) ss)))

  -- one line more
  pub state_more : (ls : List (List ℕ)) (l : List ℕ) (s : S) → state_after answer s (ls ++ (l ∷ [])) ≡ (answer (state_after answer s ls) l).state
  unfolding state_after
  state_more ls l s = state_append ls (l ∷ []) s

  pub replies_more : (ls : List (List ℕ)) (l : List ℕ) (s : S) → replies answer s (ls ++ (l ∷ [])) ≡ replies answer s ls ++ ((answer (state_after answer s ls) l).reply ∷ [])
  unfolding replies
  replies_more ls l s = replies_append ls (l ∷ []) s
