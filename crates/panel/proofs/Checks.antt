-- What holds where no check applies, and what a reply of checks says. `checks_say` goes along two lists of checks that agree, check by check; the
-- laws of field bytes go along the list of bytes. `addable`, `removable`, `changeable`, `touchable` and `openable` then read off what a command needs
-- that passes its checks.
use Prim.Native.Nat.{ℕ, zero, suc, ◌+◌, ◌%◌, ◌^◌, ◌≤◌, ◌<◌}
use mathlib.Core.Path.{◌≡◌, refl, sym, ap, ◌∙◌, subst}
use mathlib.Core.Bool.{Bool, true, false, not, ◌&&◌, ◌||◌, or-false, or_comm}
use mathlib.Core.List.{List, [], ◌∷◌}
use native.Mathlib.Nat.{mod-eq_of_lt}
use native.Mathlib.Omega.{arith}
use borrow.Author.Tests.{ltb-true, ltb-false, le-ltb, leb-true, leb-false, eqb-true, eqb-false, eq-eqb, not-false}
use lib.Dec.{eqb, leb, ltb}
use lib.ListN.{length}
use Rattle.fieldset.specs.Fields.{member, with, without, size}
use Rattle.fieldset.proofs.Numbers.{clash}
use Rattle.fieldset.proofs.Fields.{member_with, member_with_same, member_without_same, member_without_other, member_empty, member_some, with_lt, size_without, size_mono, size_empty}
use Rattle.fieldset.proofs.Tests.{and_left, and_right, or_left, or_right}
use Rattle.panel.specs.declared.Link.{Link}
use Rattle.panel.specs.declared.Panel.{Panel}
use Rattle.panel.specs.declared.Refusal.{Refusal}
use Rattle.panel.specs.declared.Refusal.TheVariants.{LinkTaken, NoSuchLink}
use Rattle.panel.specs.Answers.{Reply}
use Rattle.std.specs.Prelude.{Ok, Err}
use Rattle.panel.specs.Items.{link_at}
use Rattle.panel.specs.Answers.{Answer, is_refusal, refused, reply_bytes}
use Rattle.panel.specs.Panels.{waiting_link}
use Rattle.panel.specs.Commands.{field_of, is_output, has_bit6, any_of, fields_in, covered_in, outputs_in, is_rising, are_field_bytes, Check, checked, check_reply, Passes, is_open, open_checks, link_checks, add_checks, remove_checks, change_checks, touch_checks, check}
use Rattle.panel.specs.Legal.{Formed}
use Rattle.panel.proofs.Answers.{replies_apart}

-- ---- checks in turn

-- where no check applies the step is carried out
pub checked_step : (p : Panel) (cs : List Check) (step : Answer) → Passes cs → checked p cs step ≡ step
unfolding checked
checked_step p [] step n = refl
checked_step p (c ∷ cs) step n = rw n.0 (checked_step p cs step n.1)

-- where one does the answer is its refusal
pub checked_refusal : (p : Panel) (cs : List Check) (step : Answer) → is_refusal (check_reply cs) ≡ true → checked p cs step ≡ record { panel = p; reply = check_reply cs }
unfolding checked check_reply
checked_refusal p [] step e = absurd (clash e refl)
checked_refusal p (c ∷ cs) step e = go c.applies refl (checked_refusal p cs step)
  where
    go : (b : Bool) → c.applies ≡ b → (is_refusal (check_reply cs) ≡ true → checked p cs step ≡ record { panel = p; reply = check_reply cs })
        → checked p (c ∷ cs) step ≡ record { panel = p; reply = check_reply (c ∷ cs) }
    go true f ih = rw f refl
    go false f ih = rw f (ih (rw f at e))

-- where no check applies the reply is 00 00
pub passes_reply : (cs : List Check) → Passes cs → check_reply cs ≡ 0x00 ∷ 0 ∷ []
unfolding check_reply
passes_reply [] n = refl
passes_reply (c ∷ cs) n = rw n.0 (passes_reply cs n.1)

-- what holds of the panel before, and of that after the step where no check applies, holds of that after the command
pub checked_panel : (P : Panel → Type 0) (p : Panel) (cs : List Check) (step : Answer) → P p → (Passes cs → P step.panel)
    → P (checked p cs step).panel
unfolding checked
checked_panel P p [] step h k = k tt
checked_panel P p (c ∷ cs) step h k = go c.applies refl (λ e. checked_panel P p cs step h (λ n. k (e, n)))
  where
    go : (b : Bool) → c.applies ≡ b → (c.applies ≡ false → P (checked p cs step).panel) → P (checked p (c ∷ cs) step).panel
    go true e ih = rw e h
    go false e ih = rw e (ih e)

-- ---- the reply of checks

-- the same refusals in turn, of which each applies in both lists or in neither; only where no earlier one applies does this matter
abbrev pub Agree : List Check → List Check → Type 0
Agree [] [] = Unit {0}
Agree [] (d ∷ ds) = ⊥
Agree (c ∷ cs) [] = ⊥
Agree (c ∷ cs) (d ∷ ds) = (c.applies ≡ d.applies) × (c.refusal ≡ d.refusal) × (d.applies ≡ false → Agree cs ds)

pub agree_same : (cs : List Check) → Agree cs cs
agree_same [] = tt
agree_same (c ∷ cs) = (refl, refl, λ e. agree_same cs)

-- so they reply the same
pub agree_reply : (cs ds : List Check) → Agree cs ds → check_reply cs ≡ check_reply ds
unfolding check_reply
agree_reply [] [] a = refl
agree_reply [] (d ∷ ds) a = absurd a
agree_reply (c ∷ cs) [] a = absurd a
agree_reply (c ∷ cs) (d ∷ ds) (b, x, a) = go d.applies refl (λ e. agree_reply cs ds (a e))
  where
    go : (t : Bool) → d.applies ≡ t → (d.applies ≡ false → check_reply cs ≡ check_reply ds) → check_reply (c ∷ cs) ≡ check_reply (d ∷ ds)
    go true e ih = rw (b, e, x) refl
    go false e ih = rw (b, e) (ih e)

-- what a reply of checks says of an answer: a refusal is the answer, and acceptance is that the step is carried out
abbrev Says : Panel → List Check → Answer → Reply → Type 0
Says p ds step (Err x) = refused p x ≡ checked p ds step
Says p ds step (Ok m) = (m ≡ 0) × Passes ds × (checked p ds step ≡ step)

says_same : (p : Panel) (ds : List Check) (step : Answer) (r s : Reply) → reply_bytes r ≡ reply_bytes s → Says p ds step s → Says p ds step r
says_same p ds step r s e h = subst (Says p ds step) (sym (replies_apart r s e)) h

-- one check more, which does not apply
says_more : (p : Panel) (d : Check) (ds : List Check) (step : Answer) (r : Reply) → d.applies ≡ false → Says p ds step r → Says p (d ∷ ds) step r
unfolding checked
says_more p d ds step (Err x) e h = rw e h
says_more p d ds step (Ok m) e (z, n, h) = (z, (e, n), rw e h)

checks_say : (p : Panel) (cs ds : List Check) (step : Answer) (r : Reply) → Agree cs ds → reply_bytes r ≡ check_reply cs → Says p ds step r
unfolding checked check_reply
checks_say p [] [] step r a e = says_same p [] step r (Ok 0) e (refl, tt, refl)
checks_say p [] (d ∷ ds) step r a e = absurd a
checks_say p (c ∷ cs) [] step r a e = absurd a
checks_say p (c ∷ cs) (d ∷ ds) step r (b, x, a) e = go d.applies refl (λ f. checks_say p cs ds step r (a f))
  where
    go : (t : Bool) → d.applies ≡ t → (d.applies ≡ false → reply_bytes r ≡ check_reply cs → Says p ds step r) → Says p (d ∷ ds) step r
    go true f ih = says_same p (d ∷ ds) step r (Err d.refusal) (rw (b, f, x) at e) (rw f refl)
    go false f ih = says_more p d ds step r f (ih f (rw (b, f) at e))

-- the checks of an operation, which has the numbers alone, agree with the command's: its reply is the command's refusal, or the command passes
module _ (p : Panel) (cs ds : List Check) (step : Answer) (agree : Agree cs ds) (r : Reply) (bytes : reply_bytes r ≡ check_reply cs) where
  pub reply_refused : (x : Refusal) → r ≡ Err x → refused p x ≡ checked p ds step
  reply_refused x e = subst (Says p ds step) e (checks_say p cs ds step r agree bytes)

  pub reply_accepted : (m : ℕ) → r ≡ Ok m → (m ≡ 0) × Passes ds × (checked p ds step ≡ step)
  reply_accepted m e = subst (Says p ds step) e (checks_say p cs ds step r agree bytes)

-- the link that an operation is given under its number
pub named_link : (links : List Link) (id : ℕ) (old : Link) → old ≡ link_at links (id % 128) → id < 128 → old ≡ link_at links id
named_link links id old same l = same ∙ ap (link_at links) (mod-eq_of_lt l)

-- ---- field bytes

-- some byte b of the list passes: it fails every test that all bytes fail
pub record Found (q : ℕ → Bool) (bytes : List ℕ) : Type 0 where
  pub byte : ℕ
  pub passes : q byte ≡ true
  pub of : (r : ℕ → Bool) → any_of r bytes ≡ false → r byte ≡ false

pub any_of_found : (q : ℕ → Bool) (bytes : List ℕ) → any_of q bytes ≡ true → Found q bytes
unfolding any_of
any_of_found q [] e = absurd (clash e refl)
any_of_found q (b ∷ bs) e = go (q b) refl (any_of_found q bs)
  where
    go : (x : Bool) → q b ≡ x → (any_of q bs ≡ true → Found q bs) → Found q (b ∷ bs)
    go true f ih = record { byte = b; passes = f; of = λ r g. or_left (r b) (any_of r bs) g }
    go false f ih =
        let found = ih (rw f at e) in
        record { byte = found.byte; passes = found.passes; of = λ r g. found.of r (or_right (r b) (any_of r bs) g) }

-- a test that the found byte passes is passed by some byte
pub found_any : (q r : ℕ → Bool) (bytes : List ℕ) (b : Found q bytes) → r b.byte ≡ true → any_of r bytes ≡ true
found_any q r bytes b e = go (any_of r bytes) refl
  where
    go : (x : Bool) → any_of r bytes ≡ x → x ≡ true
    go true f = refl
    go false f = absurd (clash e (b.of r f))

pub field_small : (b : ℕ) → field_of b < 64
field_small b = omega arith

fields_pass : (q : ℕ → Bool) (b : ℕ) (bs : List ℕ) → q b ≡ true → fields_in q (b ∷ bs) ≡ with (fields_in q bs) (field_of b)
unfolding fields_in
fields_pass q b bs e = rw (e, fields_in)

fields_fail : (q : ℕ → Bool) (b : ℕ) (bs : List ℕ) → q b ≡ false → fields_in q (b ∷ bs) ≡ fields_in q bs
unfolding fields_in
fields_fail q b bs e = rw (e, fields_in)

pub fields_lt : (q : ℕ → Bool) (bytes : List ℕ) → fields_in q bytes < 2 ^ 64
unfolding fields_in
fields_lt q [] = omega arith
fields_lt q (b ∷ bs) = go (q b) refl (fields_lt q bs)
  where
    go : (x : Bool) → q b ≡ x → fields_in q bs < 2 ^ 64 → fields_in q (b ∷ bs) < 2 ^ 64
    go true e ih = rw (fields_pass q b bs e) (with_lt (fields_in q bs) (field_of b))
    go false e ih = rw (fields_fail q b bs e) ih

-- u is the field of a byte that passes
pub member_fields : (q : ℕ → Bool) (bytes : List ℕ) (u : ℕ) → u < 64 → member (fields_in q bytes) u ≡ any_of (λ b. q b && eqb u (field_of b)) bytes
unfolding fields_in any_of
member_fields q [] u l = member_empty u
member_fields q (b ∷ bs) u l = go (q b) refl (member_fields q bs u l)
  where
    r : ℕ → Bool
    r = λ b. q b && eqb u (field_of b)

    go : (x : Bool) → q b ≡ x → member (fields_in q bs) u ≡ any_of r bs → member (fields_in q (b ∷ bs)) u ≡ (r b || any_of r bs)
    go true e ih =
        rw (fields_pass q b bs e, e)
        (member_with (fields_in q bs) (field_of b) u l ∙ ap (λ (x : Bool). x || eqb u (field_of b)) ih ∙ or_comm (any_of r bs) (eqb u (field_of b)))
    go false e ih = rw (fields_fail q b bs e, e) ih

size_with : (m i : ℕ) → i < 64 → size (with m i) ≤ size m + 1
size_with m i l =
    omega (
      arith,
      size_without (with m i) (with_lt m i) i (member_with_same m i l),
      size_mono (without (with m i) i) m sub,
    )
  where
    sub : (j : ℕ) → j < 64 → member (without (with m i) i) j ≡ true → member m j ≡ true
    sub j k e = go (eqb j i) refl
      where
        go : (x : Bool) → eqb j i ≡ x → member m j ≡ true
        go true f = absurd (clash e (rw (eqb-true j i f) (member_without_same (with m i) i)))
        go false f =
            let d = sym (member_without_other (with m i) i j k (eqb-false j i f)) ∙ e in
            sym (member_with m i j k ∙ rw f (or-false (member m j))) ∙ d

pub size_fields : (q : ℕ → Bool) (bytes : List ℕ) → size (fields_in q bytes) ≤ length bytes
unfolding fields_in
size_fields q [] = omega (arith, size_empty)
size_fields q (b ∷ bs) = go (q b) refl (size_fields q bs)
  where
    go : (x : Bool) → q b ≡ x → size (fields_in q bs) ≤ length bs → size (fields_in q (b ∷ bs)) ≤ length (b ∷ bs)
    go true e ih = rw (fields_pass q b bs e) (omega (arith, size_with (fields_in q bs) (field_of b) (field_small b)))
    go false e ih = rw (fields_fail q b bs e) (omega arith)

-- ---- an add that passes

-- the link that an add makes
abbrev pub new_link : ℕ → List ℕ → Link
new_link level bytes = waiting_link level (covered_in bytes) (outputs_in bytes)

pub new_formed : (n level : ℕ) (bytes : List ℕ) → level ≤ 15 → length bytes ≤ 8 → any_of is_output bytes ≡ true
    → any_of (λ b. leb n (field_of b)) bytes ≡ false → Formed n (new_link level bytes)
new_formed n level bytes low few some inside = record {
  level = low;
  small = fields_lt (λ b. true) bytes;
  outputs_small = fields_lt is_output bytes;
  inside = λ u l e. covered_inside u (any_of_found (λ b. true && eqb u (field_of b)) bytes (sym (member_fields (λ b. true) bytes u l) ∙ e));
  subset = λ u l e. outputs_covered u l (any_of_found (λ b. is_output b && eqb u (field_of b)) bytes (sym (member_fields is_output bytes u l) ∙ e));
  some_output = member_some (outputs_in bytes) f (member_fields is_output bytes f (field_small out.byte) ∙ output_any);
  few = omega (arith, size_fields (λ b. true) bytes);
}
  where
    out : Found is_output bytes
    out = any_of_found is_output bytes some

    f : ℕ
    f = field_of out.byte

    covered_inside : (u : ℕ) → Found (λ b. true && eqb u (field_of b)) bytes → u < n
    covered_inside u b =
        let g = field_of b.byte in
        rw (eqb-true u g b.passes) (leb-false n g (b.of (λ b. leb n (field_of b)) inside))

    outputs_covered : (u : ℕ) → u < 64 → Found (λ b. is_output b && eqb u (field_of b)) bytes → member (covered_in bytes) u ≡ true
    outputs_covered u l b =
        member_fields (λ b. true) bytes u l
        ∙ found_any (λ b. is_output b && eqb u (field_of b)) (λ b. true && eqb u (field_of b)) bytes b
        (and_right (is_output b.byte) (eqb u (field_of b.byte)) b.passes)

    output_any : any_of (λ b. is_output b && eqb f (field_of b)) bytes ≡ true
    output_any = found_any is_output (λ b. is_output b && eqb f (field_of b)) bytes out (rw out.passes (eq-eqb f f refl))

-- the numbers and fields of a link that is added or changed
pub record Linkable (p : Panel) (id level : ℕ) (bytes : List ℕ) : Type 0 where
  pub is_open : 0 < p.size
  pub number : id < 128
  pub rising : is_rising bytes ≡ true
  pub formed : Formed p.size (new_link level bytes)

pub linkable : (p : Panel) (id level : ℕ) (bytes : List ℕ) (number : Check) → Passes (link_checks p id level bytes number) → Linkable p id level bytes
unfolding are_field_bytes
linkable p id level bytes number (a, (b, (c, _))) = record {
  is_open = ltb-true 0 p.size (not-false (is_open p) a);
  number = omega (arith, ltb-false 127 id parts.0);
  rising = not-false (is_rising bytes) parts.3;
  formed =
      new_formed p.size level bytes (ltb-false 15 level parts.1)
      (leb-true (length bytes) 8
      (and_right (leb 1 (length bytes)) (leb (length bytes) 8) (and_left _ (not (any_of has_bit6 bytes)) (not-false (are_field_bytes bytes) parts.2))))
      (not-false (any_of is_output bytes) parts.4) c;
}
  where
    none_of : (a b c d e : Bool) → (a || b || c || d || e) ≡ false → (a ≡ false) × (b ≡ false) × (c ≡ false) × (d ≡ false) × (e ≡ false)
    none_of true b c d e h = absurd (clash refl h)
    none_of false true c d e h = absurd (clash refl h)
    none_of false false true d e h = absurd (clash refl h)
    none_of false false false true e h = absurd (clash refl h)
    none_of false false false false e h = (refl, refl, refl, refl, h)

    parts : (ltb 127 id ≡ false) × (ltb 15 level ≡ false) × (not (are_field_bytes bytes) ≡ false) × (not (is_rising bytes) ≡ false)
        × (not (any_of is_output bytes) ≡ false)
    parts = none_of (ltb 127 id) (ltb 15 level) (not (are_field_bytes bytes)) (not (is_rising bytes)) (not (any_of is_output bytes)) b

pub record Addable (p : Panel) (id level : ℕ) (bytes : List ℕ) : Type 0 where
  pub link : Linkable p id level bytes
  pub free : (link_at p.links id).used ≡ false

pub addable : (p : Panel) (id level : ℕ) (bytes : List ℕ) → Passes (add_checks p id level bytes) → Addable p id level bytes
addable p id level bytes passed =
    record { link = linkable p id level bytes (check (link_at p.links id).used LinkTaken) passed; free = passed.1.1.1.0 }

pub record Removable (p : Panel) (id : ℕ) : Type 0 where
  pub is_open : 0 < p.size
  pub number : id < 128
  pub used : (link_at p.links id).used ≡ true

pub removable : (p : Panel) (id : ℕ) → Passes (remove_checks p id) → Removable p id
removable p id (a, (b, (c, _))) = record {
  is_open = ltb-true 0 p.size (not-false (is_open p) a);
  number = omega (arith, ltb-false 127 id b);
  used = not-false (link_at p.links id).used c;
}

-- ---- a change that passes

module _ (p : Panel) (id level : ℕ) (bytes : List ℕ) (passed : Passes (change_checks p id level bytes)) where
  pub changeable : Linkable p id level bytes
  changeable = linkable p id level bytes (check (not (link_at p.links id).used) NoSuchLink) passed

  -- the removal passes
  pub change_removes : Passes (remove_checks p id)
  change_removes = (passed.0, (le-ltb 127 id (omega (arith, changeable.number)), (passed.1.1.1.0, tt)))

  -- and so does the adding to a panel of as many fields in which the number is not in use
  pub change_adds : (q : Panel) → q.size ≡ p.size → (link_at q.links id).used ≡ false → Passes (add_checks q id level bytes)
  change_adds q same free = (rw same passed.0, (passed.1.0, (rw same passed.1.1.0, (free, tt))))

pub touchable : (p : Panel) (f : ℕ) → Passes (touch_checks p f) → f < p.size
touchable p f (a, (b, _)) = leb-false p.size f b

pub openable : (p : Panel) (n : ℕ) → Passes (open_checks p n) → (p.size ≡ 0) × (0 < n) × (n ≤ 64)
openable p n (a, (b, _)) = (
  omega (arith, ltb-false 0 p.size a),
  positive n (eqb-false n 0 (or_left (eqb n 0) (ltb 64 n) b)),
  ltb-false 64 n (or_right (eqb n 0) (ltb 64 n) b),
)
  where
    positive : (n : ℕ) → (n ≡ 0 → ⊥) → 0 < n
    positive zero h = absurd (h refl)
    positive (suc n) h = omega arith
