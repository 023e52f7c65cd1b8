-- Where runs begin, all is sound: the lines of a formed sheet's text enter its links, its stays and its formulas, by induction over the lines of each
-- number (`folded_gather`); of what reading took in the sheet is legal and nothing is blocked (`took`). Assumes nothing.
use Prim.Native.Nat.{ℕ, suc, ◌≤◌, ◌<◌, zero-le}
use mathlib.Core.Path.{◌≡◌, refl, sym, ap, ap₂, subst, ◌∙◌}
use mathlib.Core.Bool.{Bool, true, false, cond}
use mathlib.Core.List.{List, [], ◌∷◌, ◌++◌, map}
use mathlib.Core.Logic.{inl, inr, ◌≢◌}
use mathlib.Core.Option.{Option, none, some}
use native.Mathlib.Decide.{ℕ_discrete, dec_lt}
use native.Mathlib.Omega.{arith}
use borrow.Author.Tests.{lt-ltb, le-ltb, eq-eqb, ne_eqb, eqb-true}
use lib.Dec.{eqb, ltb}
use lib.ListN.{length, get_or, get_or-eq_default}
use Rattle.std.specs.Prelude.{Some, None}
use Rattle.fieldset.specs.Tables.{at, tabulate}
use Rattle.fieldset.specs.Lists.{In, All, place}
use Rattle.fieldset.proofs.Tables.{length_tabulate, get_d_tabulate}
use Rattle.fieldset.proofs.Numbers.{ltb_suc, Lowest, lowest_is}
use Rattle.fieldset.proofs.Lists.{in_all, all_map, place_at, place_found, pigeonhole, tabulate_distinct, tabulate_below}
use Rattle.panel.specs.declared.Link.{Link}
use Rattle.panel.specs.declared.Panel.{Panel}
use Rattle.panel.specs.Items.{Item, link_at, no_link}
use Rattle.panel.specs.Panels.{opened}
use Rattle.panel.specs.Solution.{is_blocked, least_blocked}
use Rattle.panel.specs.Legal.{Legal}
use Rattle.panel.proofs.InForce.{used_force, unused_off}
use Rattle.panel.proofs.Changes.{legal_opened}
use Rattle.panel.proofs.Least.{LeastBlocked, least_blocked_lem}
use Rattle.values.specs.Limits.{value_at}
use Rattle.values.specs.Words.{bits_of}
use Rattle.formulas.specs.Formulas.{Rule}
use Rattle.formulas.specs.declared.Formula.TheVariants.{Ratio, Sum}
use Rattle.sheet.specs.declared.Sheet.{Sheet}
use Rattle.sheet.specs.Sheets.{unopened, formula_at}
use Rattle.sheet.specs.Legal.{LegalSheet}
use Rattle.sheet.proofs.Legal.{blank_none, legal_blank}
use Rattle.optimality.specs.Condition3 as store
use Rattle.optimality.specs.Condition3.{Entry, Store, empty}
use Rattle.optimality.specs.Agreement.{entry_for, entry_of, Agrees, Sound}
use Rattle.optimality.proofs.Runs.{after_sound}
use Rattle.images.specs.Images.{gather, field_at, stay_order, link_frame, link_piece, formula_frames, formula_piece, four_bytes, value_piece, frames_of, image_of}
use Rattle.lines.specs.Lines.{lines_of}
use Rattle.images.specs.Entries.{folded, line_bytes, candidate}
use Rattle.images.specs.Reading.{version, Good}
use Rattle.images.proofs.Lines.{frames_written, formula_back}
use Rattle.images.proofs.Folds.{folded_append, folded_gather}
use Rattle.images.proofs.FieldBytes.{covered_back, outputs_back}
use Rattle.images.proofs.Facts.{Facts, formed_facts}
use Rattle.images.proofs.Rounds.{frames_bytes}
use Rattle.images.proofs.Reading.{took}
use Rattle.exactness.specs.Beginnings.{line_store, store_of, line_gives, formulas_of, Beginning, from_unopened, from_text, start_of, given_of}

-- ---- a table that is entered number by number

module _ {A : Type 0} (d : A) (g : ℕ → A) where
  -- below i it is g, from there on d
  abbrev UpTo : ℕ → (ℕ → A) → Type 0
  UpTo i f = (k : ℕ) → f k ≡ cond (ltb k i) (g k) d

  up_none : UpTo 0 (λ k. d)
  up_none k = rw (le-ltb k 0 zero-le) refl

  -- the entry of i comes in
  up_more : (f : ℕ → A) (i : ℕ) (x : A) → x ≡ g i → UpTo i f → UpTo (suc i) (λ k. cond (eqb k i) x (f k))
  up_more f i x e u k = go (ℕ_discrete k i)
    where
      go : Dec (k ≡ i) → cond (eqb k i) x (f k) ≡ cond (ltb k (suc i)) (g k) d
      go (yes h) = rw (h, eq-eqb i i refl, lt-ltb i (suc i) (omega arith)) e
      go (no h) = rw (ne_eqb k i h, ← ltb_suc k i h) (u k)

  -- or it is d
  up_keep : (f : ℕ → A) (i : ℕ) → g i ≡ d → UpTo i f → UpTo (suc i) f
  up_keep f i e u k = go (ℕ_discrete k i)
    where
      go : Dec (k ≡ i) → f k ≡ cond (ltb k (suc i)) (g k) d
      go (yes h) = u k ∙ rw (h, le-ltb i i (omega arith), lt-ltb i (suc i) (omega arith)) (sym e)
      go (no h) = rw (← ltb_suc k i h) (u k)

  up_all : (f : ℕ → A) (n : ℕ) → ((k : ℕ) → n ≤ k → g k ≡ d) → UpTo n f → (k : ℕ) → f k ≡ g k
  up_all f n past u k = go (dec_lt k n)
    where
      go : Dec (k < n) → f k ≡ g k
      go (yes l) = u k ∙ rw (lt-ltb k n l) refl
      go (no l) = u k ∙ rw (le-ltb k n (omega arith)) (sym (past k (omega arith)))

-- ---- the lines of a formed sheet

module _ (s : Sheet) (F : Facts s) where
  abbrev p : Panel
  p = s.panel

  abbrev order : List ℕ
  order = stay_order p.place p.size

  abbrev entries : ℕ → Option Entry
  entries k = entry_of (link_at p.links k)

  abbrev formulas : ℕ → Rule
  formulas k = formula_at s.formulas k

  -- the store after the links below i
  record Stored (i : ℕ) (b : Store) : Type 0 where
    stays : b.stays ≡ order
    links : UpTo none entries i b.links

  unused_entry : (l : Link) → l.used ≡ false → entry_of l ≡ none
  unused_entry l u = rw (unused_off l u) refl

  link_stored : (i : ℕ) → i < 128 → (b : Store) → Stored i b → Stored (suc i) (folded line_store b (link_piece p.links i))
  link_stored i l b x = go (link_at p.links i).used refl
    where
      go : (u : Bool) → (link_at p.links i).used ≡ u → Stored (suc i) (folded line_store b (cond u (link_frame i (link_at p.links i) ∷ []) []))
      go true u =
          let f = F.formed i l u in
          let same : entry_of (link_at p.links i) ≡ some (entry_for (link_at p.links i)) = rw (used_force (link_at p.links i) u) refl in
          record {
            stays = x.stays;
            links = up_more none entries b.links i _
                (ap₂ (λ (c o : ℕ). some (record { level = (link_at p.links i).level; covered = c; outputs = o }))
                (covered_back (link_at p.links i).covered (link_at p.links i).outputs f.small)
                (outputs_back (link_at p.links i).covered (link_at p.links i).outputs f.outputs_small f.subset)
                ∙ sym same) x.links;
          }
      go false u = record { stays = x.stays; links = up_keep none entries b.links i (unused_entry (link_at p.links i) u) x.links }

  -- the other lines enter nothing
  formula_stored : (P : Store → Type 0) (i : ℕ) (b : Store) → P b → P (folded line_store b (formula_piece s.formulas i))
  formula_stored P i b h = go (formulas i)
    where
      go : (r : Rule) → P (folded line_store b (formula_frames i r))
      go None = h
      go (Some (Ratio x y)) = h
      go (Some (Sum f)) = h

  value_stored : (P : Store → Type 0) (f : ℕ) (b : Store) → P b → P (folded line_store b (value_piece s.values f))
  value_stored P f b h = go (eqb (bits_of (value_at s.values f)) 0)
    where
      go : (t : Bool) → P (folded line_store b (cond t [] ((0x0D ∷ f ∷ four_bytes (bits_of (value_at s.values f))) ∷ [])))
      go true = h
      go false = h

  frames_stored : Stored 128 (folded line_store empty (frames_of version s))
  unfolding frames_of
  frames_stored =
      let L = gather (link_piece p.links) 128 in
      let R = gather (formula_piece s.formulas) 128 in
      let Q = gather (value_piece s.values) p.size in
      let b : Store = folded line_store empty ((0x0A ∷ version ∷ p.size ∷ []) ∷ (0x0B ∷ order) ∷ []) in
      rw (folded_append line_store b L (R ++ Q), folded_append line_store (folded line_store b L) R Q)
      (folded_gather line_store (λ i. Stored 128) (value_piece s.values) p.size (λ i l. value_stored (Stored 128) i) _
      (folded_gather line_store (λ i. Stored 128) (formula_piece s.formulas) 128 (λ i l. formula_stored (Stored 128) i) _
      (folded_gather line_store Stored (link_piece p.links) 128 link_stored b (record { stays = refl; links = up_none none entries }))))

  -- ---- the formulas

  link_gives : (P : (ℕ → Rule) → Type 0) (i : ℕ) (given : ℕ → Rule) → P given → P (folded line_gives given (link_piece p.links i))
  link_gives P i given h = go (link_at p.links i).used
    where
      go : (u : Bool) → P (folded line_gives given (cond u (link_frame i (link_at p.links i) ∷ []) []))
      go true = h
      go false = h

  formula_gives : (i : ℕ) → i < 128 → (given : ℕ → Rule) → UpTo None formulas i given → UpTo None formulas (suc i) (folded line_gives given (formula_piece s.formulas i))
  formula_gives i l given h = go (formulas i) refl
    where
      go : (r : Rule) → formulas i ≡ r → UpTo None formulas (suc i) (folded line_gives given (formula_frames i r))
      go None e = up_keep None formulas given i e h
      go (Some (Ratio x y)) e = up_more None formulas given i _ (formula_back (Some (Ratio x y)) ∙ sym e) h
      go (Some (Sum f)) e = up_more None formulas given i _ (formula_back (Some (Sum f)) ∙ sym e) h

  value_gives : (P : (ℕ → Rule) → Type 0) (f : ℕ) (given : ℕ → Rule) → P given → P (folded line_gives given (value_piece s.values f))
  value_gives P f given h = go (eqb (bits_of (value_at s.values f)) 0)
    where
      go : (t : Bool) → P (folded line_gives given (cond t [] ((0x0D ∷ f ∷ four_bytes (bits_of (value_at s.values f))) ∷ [])))
      go true = h
      go false = h

  frames_give : UpTo None formulas 128 (folded line_gives (λ i. None) (frames_of version s))
  unfolding frames_of
  frames_give =
      let L = gather (link_piece p.links) 128 in
      let R = gather (formula_piece s.formulas) 128 in
      let Q = gather (value_piece s.values) p.size in
      rw (folded_append line_gives (λ i. None) L (R ++ Q), folded_append line_gives (folded line_gives (λ i. None) L) R Q)
      (folded_gather line_gives (λ i. UpTo None formulas 128) (value_piece s.values) p.size (λ i l. value_gives (UpTo None formulas 128) i) _
      (folded_gather line_gives (UpTo None formulas) (formula_piece s.formulas) 128 formula_gives _
      (folded_gather line_gives (λ i. UpTo None formulas 0) (link_piece p.links) 128 (λ i l. link_gives (UpTo None formulas 0) i) _ (up_none None formulas))))

  -- ---- the store agrees with the panel

  first : (f : ℕ) → f < p.size → field_at p.place p.size (at p.place f) ≡ f
  first = F.place_first

  order_at : (i : ℕ) → i < p.size → get_or order i 0 ≡ field_at p.place p.size i
  unfolding stay_order
  order_at i l = get_d_tabulate (field_at p.place p.size) p.size i 0 l

  order_length : length order ≡ p.size
  unfolding stay_order
  order_length = length_tabulate (field_at p.place p.size) p.size

  -- only f's own place has f
  only_place : (f i : ℕ) → f < p.size → field_at p.place p.size i ≡ f → at p.place f ≡ i
  unfolding field_at
  only_place f i l e = go (field_at p.place p.size i) (lowest_is (λ g. eqb (at p.place g) i) p.size 64) e
    where
      go : (g : ℕ) → Lowest (λ g. eqb (at p.place g) i) p.size 64 g → g ≡ f → at p.place f ≡ i
      go g (inl h) d = rw (← d) (eqb-true (at p.place g) i h.1)
      go g (inr h) d = absurd (omega (arith, h.0, F.few))

  order_places : (f : ℕ) → f < p.size → place order f ≡ at p.place f
  order_places f l =
      let low : at p.place f < p.size = F.place_small f l in
      place_at f order (at p.place f) (omega (arith, order_length))
      (λ j k e. omega (arith, only_place f j l (sym (order_at j (omega arith)) ∙ e)))
      (order_at (at p.place f) low ∙ first f l)

  order_in : (f : ℕ) → f < p.size → In f order
  order_in f l = place_found f order (omega (arith, order_places f l, order_length, F.place_small f l))

  order_below : All (λ f. f < p.size) order
  order_below = in_all (λ f. f < p.size) order (λ f m. go f m (dec_lt f p.size))
    where
      go : (f : ℕ) → In f order → Dec (f < p.size) → f < p.size
      go f m (yes l) = l
      go f m (no l) = absurd (omega (
        arith,
        order_length,
        length_tabulate (λ (k : ℕ). k) p.size,
        pigeonhole (f ∷ tabulate (λ k. k) p.size) order
            (all_map (λ k. k < p.size) (λ k. f ≢ k) (λ k h e. omega arith) (tabulate (λ k. k) p.size) (tabulate_below p.size), tabulate_distinct p.size)
            (m, all_map (λ k. k < p.size) (λ k. In k order) order_in (tabulate (λ k. k) p.size) (tabulate_below p.size)),
      ))

  stored_agrees : (b : Store) → Stored 128 b → Agrees b p
  stored_agrees b x = record {
    links = up_all none entries b.links 128 past x.links;
    stays = λ f l. rw x.stays (order_in f l);
    below = rw x.stays order_below;
    places = λ f l. rw x.stays (order_places f l);
  }
    where
      past : (k : ℕ) → 128 ≤ k → entries k ≡ none
      past k h = rw (get_or-eq_default p.links no_link {n = k} (omega (arith, F.links_long))) (unused_entry no_link refl)

  formulas_past : (k : ℕ) → 128 ≤ k → formulas k ≡ None
  formulas_past k h = get_or-eq_default s.formulas None {n = k} (omega (arith, F.rules_long))

-- ---- the lines of a text are those of the formed sheet that has it

module _ (text : List ℕ) (s : Sheet) (G : Good text s) where
  lines_are : map line_bytes (lines_of text) ≡ frames_of version s
  unfolding image_of
  lines_are =
      ap (λ (x : List ℕ). map line_bytes (lines_of x)) (sym G.is_text)
      ∙ frames_written (frames_of version s) (frames_bytes s (formed_facts s G.formed) version (omega arith))

  pub text_agrees : Agrees (store_of text) s.panel
  unfolding store_of
  text_agrees = stored_agrees s (formed_facts s G.formed) _ (rw lines_are (frames_stored s (formed_facts s G.formed)))

  pub text_formulas : (k : ℕ) → formula_at s.formulas k ≡ formulas_of text k
  unfolding formulas_of
  text_formulas k =
      sym (up_all None (formulas s (formed_facts s G.formed)) (formulas_of text) 128 (formulas_past s (formed_facts s G.formed)) (rw lines_are (frames_give s (formed_facts s G.formed))) k)

-- ---- beginnings

-- where nothing is found nothing is blocked
pub none_blocked : (p : Panel) → Legal p → least_blocked p ≡ none → (c : Item) → is_blocked p c ≡ false
none_blocked p h e = subst (LeastBlocked p) e (least_blocked_lem p h)

pub begun_legal : (x : Beginning) → LegalSheet (start_of x).state
begun_legal from_unopened = legal_blank (opened 0) (legal_opened 0 zero-le)
begun_legal (from_text text taken) = let t = took unopened text taken in rw t.sheet t.legal

pub begun_sound : (x : Beginning) → Sound (start_of x).store (start_of x).state.panel
unfolding store.after
begun_sound from_unopened = after_sound []
begun_sound (from_text text taken) =
    let t = took unopened text taken in
    rw t.sheet
    (record {
      legal = t.legal.panel;
      agrees = text_agrees text (candidate text) t.good;
      unblocked = none_blocked (candidate text).panel t.legal.panel t.unblocked;
    })

pub begun_given : (x : Beginning) (k : ℕ) → formula_at (start_of x).state.formulas k ≡ given_of x k
begun_given from_unopened k = blank_none (opened 0) k
begun_given (from_text text taken) k = let t = took unopened text taken in rw t.sheet (text_formulas text (candidate text) t.good k)
