-- What `path_from` keeps from one round of its loop to the next. `Way`: the fields passed stand in the buffer, and they with the path from the
-- field at hand are the whole path. Where the level is not the strength, the path goes on (`path_onto`), so the scan of the other outputs finds the
-- next field (`Scan`, `way_reversal`); where it is, the path ends (`way_stop`).
use Prim.Native.Nat.{ℕ, zero, suc, ◌+◌, ◌-◌, ◌<◌}
use mathlib.Core.Path.{◌≡◌, refl, sym, ap, ◌∙◌}
use mathlib.Core.Logic.{◌≢◌}
use mathlib.Core.Bool.{true}
use mathlib.Core.List.{List, [], ◌∷◌, ◌++◌}
use native.Mathlib.Omega.{arith}
use lib.ListN.{length, set, drop, length-append, length-drop}
use lib.Seq.{append_snoc, get_or-set_same}
use Rattle.fieldset.specs.Tables.{at}
use Rattle.fieldset.specs.Fields.{member, without, lowest_of, First}
use Rattle.fieldset.proofs.Tables.{store_next}
use Rattle.strength.specs.Strength.{strength, lowest_at, path}
use Rattle.strength.specs.Filling.{Acyclic, Strengths, PathFound}
use Rattle.strength.proofs.Paths.{Tie, lowest_at_cong, lowest_at_empty, lowest_at_hit, lowest_at_pass, path_stop, path_go, path_onto}

-- the path from v at the strength s, with fuel k
abbrev pub path_from : List ℕ → List ℕ → ℕ → ℕ → ℕ → ℕ → List ℕ
path_from levels others n s k v = path (at levels) (at others) (strength (at levels) (at others) n) s k v

-- `count` fields of the path from v stand at the start of the buffer, and the path goes on from the field `here`
pub record Way (levels others : List ℕ) (n known v s : ℕ) (before buffer : List ℕ) (here count : ℕ) : Type 0 where
  pub acyclic : Acyclic others n
  pub field : here < n
  pub is_known : member known here ≡ true
  pub strong : strength (at levels) (at others) n here ≡ s
  pub room : count + acyclic.rank here < n
  pub size : length before ≡ 64
  pub passed : List ℕ
  pub counted : length passed ≡ count
  pub stored : buffer ≡ passed ++ drop count before
  pub done : passed ++ path_from levels others n s (n - count) here ≡ path_from levels others n s n v

-- the scan of the other outputs: the field sought is among those that are left
pub record Scan (table : List ℕ) (s set rest : ℕ) : Type 0 where
  pub same : lowest_at (at table) s rest ≡ lowest_at (at table) s set
  pub some : lowest_at (at table) s set < 64

module _ {table : List ℕ} {s set rest : ℕ} (C : Scan table s set rest) where
  pub scan_pos : 0 < rest
  scan_pos = go rest C.same
    where
      go : (m : ℕ) → lowest_at (at table) s m ≡ lowest_at (at table) s set → 0 < m
      go zero e = absurd (omega (arith, C.some, lowest_at_empty (at table) s))
      go (suc m) e = omega arith

  pub scan_pass : {u rest' : ℕ} → First rest u → at table u ≢ s → rest' ≡ without rest (lowest_of rest) → Scan table s set rest'
  scan_pass {u} U h e = rw (e, ← U.is_lowest) (record { same = lowest_at_pass (at table) s rest u h ∙ C.same; some = C.some })

  pub scan_found : {u : ℕ} → First rest u → at table u ≡ s → u ≡ lowest_at (at table) s set
  scan_found U h = sym (lowest_at_hit (at table) s U h) ∙ C.same

module _ {levels others table : List ℕ} {n known v : ℕ} {before : List ℕ} (A : Acyclic others n) (S : Strengths levels others n known table) where
  pub way_start : v < n → member known v ≡ true → length before ≡ 64 → Way levels others n known v (at table v) before before v 0
  way_start l e h = record {
    acyclic = A;
    field = l;
    is_known = e;
    strong = sym (S.right v (omega (arith, A.few)) e);
    room = omega (arith, A.ranked.small v l);
    size = h;
    passed = [];
    counted = refl;
    stored = refl;
    done = ap (λ (k : ℕ). path_from levels others n (at table v) k v) (omega arith);
  }

module _ {levels others table : List ℕ} {n known v s : ℕ} {before buffer : List ℕ} {here count : ℕ} (S : Strengths levels others n known table)
    (W : Way levels others n known v s before buffer here count) where
  small : here < 64
  small = omega (arith, W.field, W.acyclic.few)

  stored_next : set buffer count here ≡ (W.passed ++ (here ∷ [])) ++ drop (count + 1) before
  stored_next =
      ap (λ (l : List ℕ). set l count here) W.stored
      ∙ store_next before W.passed count here W.counted (omega (arith, W.room, W.size, W.acyclic.few))

  counted_next : length (W.passed ++ (here ∷ [])) ≡ count + 1
  counted_next = length-append W.passed (here ∷ []) ∙ omega (arith, W.counted)

  fuel : n - count ≡ suc (n - (count + 1))
  fuel = omega (arith, W.room)

  -- the setter's level is another: the path goes on
  module _ (h : at levels here ≢ s) where
    onto : Tie (strength (at levels) (at others) n) s (at others here) (lowest_at (strength (at levels) (at others) n) s (at others here))
    onto = (path_onto (at levels) (at others) W.acyclic.rank W.acyclic.ranked.falls n s here small (omega (arith, W.room)) W.strong h).1

    same_table : lowest_at (at table) s (at others here) ≡ lowest_at (strength (at levels) (at others) n) s (at others here)
    same_table =
        lowest_at_cong (at table) (strength (at levels) (at others) n) s (at others here)
        (λ u l e. S.right u l (S.closed here u small l W.is_known e))

    pub scan_start : Scan table s (at others here) (at others here)
    scan_start = record { same = refl; some = rw same_table onto.field }

    pub way_reversal : {u : ℕ} → u ≡ lowest_at (at table) s (at others here) → Way levels others n known v s before (set buffer count here) u (count + 1)
    way_reversal {u} e = rw (e ∙ same_table) (go (lowest_at (strength (at levels) (at others) n) s (at others here)) refl onto)
      where
        go : (w : ℕ) → w ≡ lowest_at (strength (at levels) (at others) n) s (at others here) → Tie (strength (at levels) (at others) n) s (at others here) w
            → Way levels others n known v s before (set buffer count here) w (count + 1)
        go w q T = record {
          acyclic = W.acyclic;
          field = W.acyclic.inside here w W.field T.field T.is_in;
          is_known = S.closed here w small T.field W.is_known T.is_in;
          strong = T.strong;
          room = omega (arith, W.room, W.acyclic.ranked.falls here w small T.field T.is_in);
          size = W.size;
          passed = W.passed ++ (here ∷ []);
          counted = counted_next;
          stored = stored_next;
          done =
              append_snoc W.passed here (path_from levels others n s (n - (count + 1)) w)
              ∙ ap (λ (l : List ℕ). W.passed ++ l)
              (ap (λ (x : ℕ). here ∷ path_from levels others n s (n - (count + 1)) x) q
              ∙ sym (ap (λ (k : ℕ). path_from levels others n s k here) fuel
              ∙ path_go (at levels) (at others) (strength (at levels) (at others) n) s (n - (count + 1)) here h))
              ∙ W.done;
        }

  fits : count < length buffer
  fits = omega (arith, simp (length-append, length-drop) at (ap length W.stored), W.counted, W.size, W.room, W.acyclic.few)

  -- the setter's level is the strength: the path ends
  pub way_stop : s ≡ strength (at levels) (at others) n v → at levels here ≡ s → PathFound levels others n v before (set buffer count here) (count + 1)
  way_stop es h = record {
    fields = W.passed ++ (here ∷ []);
    is_path =
        ap (λ (l : List ℕ). W.passed ++ l)
        (sym (ap (λ (k : ℕ). path_from levels others n s k here) fuel
        ∙ path_stop (at levels) (at others) (strength (at levels) (at others) n) s (n - (count + 1)) here h))
        ∙ W.done ∙ ap (λ (x : ℕ). path_from levels others n x n v) es;
    stored = stored_next ∙ ap (λ (k : ℕ). (W.passed ++ (here ∷ [])) ++ drop k before) (sym counted_next);
    ended = sym counted_next;
    stops =
        let last : count + 1 - 1 ≡ count = omega arith in
        ap (λ (i : ℕ). at levels (at (set buffer count here) i)) last ∙ ap (at levels) (get_or-set_same buffer count here 0 fits) ∙ h ∙ es;
  }
