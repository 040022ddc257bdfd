-- Each kind of list read back from its bytes, and written again.
use Rattle.std.proofs.Common.{◌≡◌, ℕ, suc, ◌+◌, ◌<◌, ◌≤◌, Bool, true, false, cond, ◌||◌, eqb, ltb, List, [], ◌∷◌, ◌++◌, length, get_or, drop, replicate, Some, None, Ok, Err, Option, Result, sym, refl, ap, ◌∙◌, subst, add-zero, arith}
use Rattle.std.proofs.lemmas.Bool.{eqb-true, ltb-false, or_parts, le-ltb}
use Rattle.game.specs.declared.terms.Right.{Right}
use Rattle.sheet.specs.declared.fault.SheetFault.{SheetFault}
use Rattle.sheet.specs.Faults.{tested}
use Rattle.sheet.specs.Edits.{coupon_fault, right_fault}
use Rattle.record.specs.declared.fault.RecordFault.{RecordFault}
use Rattle.record.specs.declared.fault.RecordFault.TheVariants.{Form}
use Rattle.record.specs.Decode.{word, yields, under, checked, coupon_form, right_form, granted, list_at}
use Rattle.record.specs.Encode.{coupon_bytes, right_bytes, entered, entries_of, nonzero, some, list_bytes}
use Rattle.record.specs.Enters.{coupon_low, right_low}
use Rattle.record.proofs.Tables.{filled, Climbs, filled_entries, entries_from_blank}
use Rattle.record.proofs.Listing.{then_ok, bytes4_word, word_says, Bytes, list_read, list_back}

pub cond_ok : {X : Type 0} (b : Bool) (d : RecordFault) (q : Result X RecordFault) (y : X) → cond b (Err d) q ≡ Ok y → (b ≡ false) × (q ≡ Ok y)
cond_ok true d q y e = absurd cc
cond_ok false d q y e = (refl, e)

-- a part that both the form and the sheet accept
pub checked_ok : {X : Type 0} (fault : X → Option SheetFault) (form : ℕ → List ℕ → Result X RecordFault) (place : ℕ) (bs : List ℕ) (x : X) → checked fault form place bs ≡ Ok x → (form place bs ≡ Ok x) × (fault x ≡ None)
checked_ok {X} fault form place bs x e =
    let w = then_ok (form place bs) _ x e in
    let v = way w.0 (fault w.0) refl w.2 in
    (w.1 ∙ ap (λ y. Ok y) v.1, ap fault (sym v.1) ∙ v.0)
  where
    way : (y : X) (o : Option SheetFault) → fault y ≡ o → yields (under place (tested o)) y ≡ Ok x → (fault y ≡ None) × (y ≡ x)
    way y None z e = (z, cc)
    way y (Some f) z e = absurd cc

-- the entries of a table climb
climb : {E A : Type 0} (held : A → Option E) (d : A) (Good : ℕ × E → Type 0) (xs : List A) (floor t : ℕ) → floor ≤ t → ((i : ℕ) (e : E) → held (get_or xs i d) ≡ Some e → Good (t + i, e)) → Climbs Good floor (entries_of held t xs)
unfolding entries_of
climb held d Good [] floor t h all = tt
climb {E} {A} held d Good (a ∷ xs) floor t h all = way (held a) refl (climb held d Good xs floor (t + 1) (omega arith) later) (climb held d Good xs (t + 1) (t + 1) (omega arith) later)
  where
    later : (i : ℕ) (e : E) → held (get_or xs i d) ≡ Some e → Good (t + 1 + i, e)
    later i e o =
        let z : t + suc i ≡ t + 1 + i = omega arith in
        let P : ℕ → Type 0 = λ k. Good (k, e) in
        subst P z (all (suc i) e o)

    way : (o : Option E) → held a ≡ o → Climbs Good floor (entries_of held (t + 1) xs) → Climbs Good (t + 1) (entries_of held (t + 1) xs) → Climbs Good floor (entered t o (entries_of held (t + 1) xs))
    way None z skip on = skip
    way (Some x) z skip on = let P : ℕ → Type 0 = λ k. Good (k, x) in (h, subst P (add-zero t) (all 0 x z), on)

-- a kind of list: its entries in a record, and its table
pub record ListKind (E A : Type 0) : Type 0 where
  pub size : ℕ
  pub form : ℕ → ℕ → List ℕ → Result (ℕ × E) RecordFault
  pub fault : ℕ × E → Option SheetFault
  pub bytes : ℕ × E → List ℕ
  pub held : A → Option E
  pub cell : E → A
  pub blank : A
  pub top : ℕ
  pub some_size : 0 < size
  pub long : (e : ℕ × E) → length (bytes e) ≡ size
  pub form_bytes : (floor place : ℕ) (e : ℕ × E) → floor ≤ e.0 → held (cell e.1) ≡ Some e.1 → fault e ≡ None → form floor place (bytes e) ≡ Ok e
  pub form_back : (floor place : ℕ) (bs : List ℕ) (e : ℕ × E) → Bytes bs → length bs ≡ size → form floor place bs ≡ Ok e → (floor ≤ e.0) × (held (cell e.1) ≡ Some e.1) × (bytes e ≡ bs)
  pub empty : (a : A) → held a ≡ None → a ≡ blank
  pub full : (a : A) (e : E) → held a ≡ Some e → cell e ≡ a
  pub nothing : held blank ≡ None

module _ {E A : Type 0} (l : ListKind E A) (src : List ℕ) where
  abbrev Good : ℕ × E → Type 0
  Good e = (l.held (l.cell e.1) ≡ Some e.1) × (l.fault e ≡ None)

  abbrev says : ℕ → ℕ → List ℕ → Result (ℕ × E) RecordFault
  says floor = checked l.fault (l.form floor)

  says_bytes : (floor place : ℕ) (e : ℕ × E) → floor ≤ e.0 → Good e → says floor place (l.bytes e) ≡ Ok e
  says_bytes floor place e h g = rw (l.form_bytes floor place e h g.0 g.1, g.1)

  says_back : (floor place : ℕ) (bs : List ℕ) (e : ℕ × E) → Bytes bs → length bs ≡ l.size → says floor place bs ≡ Ok e → (floor ≤ e.0) × Good e × (l.bytes e ≡ bs)
  says_back floor place bs e h n r =
      let w = checked_ok l.fault (l.form floor) place bs e r in
      let b = l.form_back floor place bs e h n w.0 in
      (b.0, (b.1, w.1), b.2)

  -- a table is what its field in a record means
  pub table_read : (xs : List A) (tail : List ℕ) (at : ℕ) → length xs ≡ l.top → ((t : ℕ) (e : E) → l.held (get_or xs t l.blank) ≡ Some e → l.fault (t, e) ≡ None) → drop at src ≡ list_bytes l.bytes (entries_of l.held 0 xs) ++ tail → list_at l.size says l.cell (replicate l.top l.blank) (some (entries_of l.held 0 xs)) src at ≡ Ok (xs, at + length (list_bytes l.bytes (entries_of l.held 0 xs)))
  table_read xs tail at n ok d =
      let es : List (ℕ × E) = entries_of l.held 0 xs in
      let good : (i : ℕ) (e : E) → l.held (get_or xs i l.blank) ≡ Some e → Good (0 + i, e) = λ i e h. (ap l.held (l.full _ e h) ∙ h, (let z : 0 + i ≡ i = omega arith in ap (λ k. l.fault (k, e)) z ∙ ok i e h)) in
      list_read l.size l.some_size says l.cell l.bytes Good src l.long says_bytes (replicate l.top l.blank) es tail at d (climb l.held l.blank Good xs 0 0 (omega arith) good)
      ∙ ap (λ x. Ok (x, at + length (list_bytes l.bytes es))) (ap (λ k. filled l.cell (replicate k l.blank) es) (sym n) ∙ filled_entries l.held l.cell l.blank l.empty l.full [] xs)

  -- and a field that means a table is the table's
  pub table_back : Bytes src → ((e : ℕ × E) → l.fault e ≡ None → e.0 < l.top) → (present : Bool) (at : ℕ) (xs : List A) (next : ℕ) → list_at l.size says l.cell (replicate l.top l.blank) present src at ≡ Ok (xs, next) → (some (entries_of l.held 0 xs) ≡ present) × (drop at src ≡ list_bytes l.bytes (entries_of l.held 0 xs) ++ drop next src)
  table_back small low present at xs next r =
      let b = list_back l.size l.some_size says l.cell l.bytes Good src small says_back (replicate l.top l.blank) present at xs next r in
      let same = ap (entries_of l.held 0) b.fill ∙ entries_from_blank l.held l.cell l.blank l.nothing Good l.top (λ e g. (g.0, low e g.1)) b.entries b.climbs in
      (ap some same ∙ b.shows, b.split ∙ ap (λ es. list_bytes l.bytes es ++ drop next src) (sym same))

-- coupons
pub nonzero_is : (a e : ℕ) → nonzero a ≡ Some e → (eqb e 0 ≡ false) × (e ≡ a)
nonzero_is a e h = way (eqb a 0) refl h
  where
    way : (b : Bool) → eqb a 0 ≡ b → cond b None (Some a) ≡ Some e → (eqb e 0 ≡ false) × (e ≡ a)
    way true z h = absurd cc
    way false z h = let s : a ≡ e = cc in (ap (λ x. eqb x 0) (sym s) ∙ z, sym s)

pub nonzero_none : (a : ℕ) → nonzero a ≡ None → a ≡ 0
nonzero_none a h = way (eqb a 0) refl h
  where
    way : (b : Bool) → eqb a 0 ≡ b → cond b None (Some a) ≡ None → a ≡ 0
    way true z h = eqb-true a 0 z
    way false z h = absurd cc

pub coupon_form_bytes : (n floor place : ℕ) (e : ℕ × ℕ) → floor ≤ e.0 → nonzero e.1 ≡ Some e.1 → coupon_fault n e.0 e.1 ≡ None → coupon_form floor place (coupon_bytes e) ≡ Ok e
coupon_form_bytes n floor place e f g z =
    let h = coupon_low n e.0 e.1 z in
    let w = bytes4_word e.1 (omega arith) in
    let form : ℕ → Result (ℕ × ℕ) RecordFault = λ x. cond (ltb e.0 floor || eqb x 0) (Err (Form place)) (Ok (e.0, x)) in
    ap form w ∙ rw (le-ltb e.0 floor f, (nonzero_is e.1 e.1 g).0)

pub coupon_form_back : (floor place : ℕ) (bs : List ℕ) (e : ℕ × ℕ) → Bytes bs → length bs ≡ 5 → coupon_form floor place bs ≡ Ok e → (floor ≤ e.0) × (nonzero e.1 ≡ Some e.1) × (coupon_bytes e ≡ bs)
coupon_form_back floor place [] e h l r = absurd (omega arith)
coupon_form_back floor place (s ∷ bs) e h l r =
    let v : ℕ = word 0 bs in
    let c = cond_ok (ltb s floor || eqb v 0) (Form place) (Ok (s, v)) e r in
    let same : (s, v) ≡ e = cc c.1 in
    let o = or_parts (ltb s floor) (eqb v 0) c.0 in
    let P : ℕ × ℕ → Type 0 = λ x. (floor ≤ x.0) × (nonzero x.1 ≡ Some x.1) × (coupon_bytes x ≡ s ∷ bs) in
    subst P same (ltb-false s floor o.0, rw o.1, ap (λ l. s ∷ l) (word_says bs (λ i. h (suc i)) (omega arith)))

abbrev pub coupons_listed : ℕ → ListKind ℕ ℕ
coupons_listed n = record {
  size = 5;
  form = coupon_form;
  fault = λ e. coupon_fault n e.0 e.1;
  bytes = coupon_bytes;
  held = nonzero;
  cell = λ a. a;
  blank = 0;
  top = 65;
  some_size = omega arith;
  long = λ e. refl;
  form_bytes = coupon_form_bytes n;
  form_back = coupon_form_back;
  empty = nonzero_none;
  full = λ a e h. (nonzero_is a e h).1;
  nothing = refl;
}

-- rights
pub right_form_bytes : (n floor place : ℕ) (e : ℕ × Right) → floor ≤ e.0 → Some e.1 ≡ Some e.1 → right_fault n e.0 e.1.price e.1.notice ≡ None → right_form floor place (right_bytes e) ≡ Ok e
right_form_bytes n floor place e f g z =
    let h = right_low n e.0 e.1.price e.1.notice z in
    let w = bytes4_word e.1.price (omega arith) in
    let form : ℕ → Result (ℕ × Right) RecordFault = λ x. cond (ltb e.0 floor) (Err (Form place)) (Ok (e.0, granted e.1.notice x)) in
    ap form w ∙ rw (le-ltb e.0 floor f)

pub right_form_back : (floor place : ℕ) (bs : List ℕ) (e : ℕ × Right) → Bytes bs → length bs ≡ 6 → right_form floor place bs ≡ Ok e → (floor ≤ e.0) × (Some e.1 ≡ Some e.1) × (right_bytes e ≡ bs)
right_form_back floor place [] e h l r = absurd (omega arith)
right_form_back floor place (s ∷ []) e h l r = absurd (omega arith)
right_form_back floor place (s ∷ k ∷ bs) e h l r =
    let v : ℕ = word 0 bs in
    let c = cond_ok (ltb s floor) (Form place) (Ok (s, granted k v)) e r in
    let same : (s, granted k v) ≡ e = cc c.1 in
    let P : ℕ × Right → Type 0 = λ x. (floor ≤ x.0) × (Some x.1 ≡ Some x.1) × (right_bytes x ≡ s ∷ k ∷ bs) in
    subst P same (ltb-false s floor c.0, refl, ap (λ l. s ∷ k ∷ l) (word_says bs (λ i. h (suc (suc i))) (omega arith)))

abbrev pub rights_listed : ℕ → ListKind Right (Option Right)
rights_listed n = record {
  size = 6;
  form = right_form;
  fault = λ e. right_fault n e.0 e.1.price e.1.notice;
  bytes = right_bytes;
  held = λ r. r;
  cell = Some;
  blank = None;
  top = 64;
  some_size = omega arith;
  long = λ e. refl;
  form_bytes = right_form_bytes n;
  form_back = right_form_back;
  empty = λ a h. h;
  full = λ a e h. sym h;
  nothing = refl;
}
