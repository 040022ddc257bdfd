-- The parts of a record that is made of bytes p and then a tail, and the lists in it.
use Rattle.std.proofs.Common.{◌≡◌, ℕ, zero, suc, ◌+◌, ◌<◌, ◌≤◌, Bool, true, false, not, eqb, List, [], ◌∷◌, ◌++◌, length, get_or, take, drop, set, Ok, Err, Result, sym, refl, ap, ◌∙◌, ⊎_elim, add-zero, arith}
use Rattle.std.proofs.lemmas.List.{append_assoc, length-drop, length-append, length-take, length-take-le, get_or-take, get_or-drop, get_or_past, take_at, drop_at, drop-drop, take-append-drop}
use Rattle.std.proofs.lemmas.Bool.{cases_lt, ne_eqb}
use Rattle.std.proofs.lemmas.Bool.Decides.{nat_tests}
use Rattle.std.proofs.lemmas.Nat.{be_bytes_4, from_be_bytes-to_be_bytes_4}
use Rattle.std.specs.List.{flat_map}
use Rattle.record.specs.declared.fault.RecordFault.{RecordFault}
use Rattle.record.specs.Decode.{part_at, reads, then, entries_from, list_at, count_form, word_at, word}
use Rattle.record.specs.Encode.{list_bytes, some, bytes4, word_bytes}
use Rattle.record.proofs.Cutting.{part_whole, part_short}
use Rattle.record.proofs.Tables.{filled, Climbs}

-- what a run of steps came to, step by step back
pub then_ok : {X Y : Type 0} (q : Result X RecordFault) (f : X → Result Y RecordFault) (y : Y) → then q f ≡ Ok y → (x : X) × (q ≡ Ok x) × (f x ≡ Ok y)
then_ok (Ok x) f y e = (x, refl, e)
then_ok (Err d) f y e = absurd cc

pub read_ok : {X : Type 0} (r : Result X RecordFault) (next : ℕ) (x : X) (at : ℕ) → reads r next ≡ Ok (x, at) → (r ≡ Ok x) × (at ≡ next)
read_ok {X} (Ok y) next x at e = let p : ◌≡◌ {A = X × ℕ} (y, next) (x, at) = cc in (ap (λ z. Ok z.0) p, sym (ap (λ z. z.1) p))
read_ok {X} (Err d) next x at e = absurd cc

pub past : (src p tail : List ℕ) (at : ℕ) → drop at src ≡ p ++ tail → drop (at + length p) src ≡ tail
past src p tail at e = sym (drop-drop (length p) at src) ∙ ap (drop (length p)) e ∙ drop_at p tail (length p) refl

module _ {X : Type 0} (k : ℕ) (says : ℕ → List ℕ → Result X RecordFault) (src : List ℕ) (at : ℕ) where
  pub part_of : (p tail : List ℕ) (x : X) → 0 < k → drop at src ≡ p ++ tail → length p ≡ k → says at p ≡ Ok x → part_at k says src at ≡ Ok (x, at + k)
  part_of p tail x pos e l h =
      let long = ap length e ∙ length-append p tail in
      let fits : at + k ≤ length src = omega (arith, long, length-drop at src) in
      part_whole k says src at fits ∙ ap (λ b. reads (says at b) (at + k)) (ap (take k) e ∙ take_at p tail k l) ∙ ap (λ r. reads r (at + k)) h

  pub record Took (x : X) (next : ℕ) : Type 0 where
    pub fits : at + k ≤ length src
    pub said : says at (take k (drop at src)) ≡ Ok x
    pub ends : next ≡ at + k
    pub split : drop at src ≡ take k (drop at src) ++ drop next src
    pub long : length (take k (drop at src)) ≡ k

  pub part_back : (x : X) (next : ℕ) → part_at k says src at ≡ Ok (x, next) → Took x next
  part_back x next e = ⊎_elim short whole (cases_lt (length src) (at + k))
    where
      short : length src < at + k → Took x next
      short h = absurd (let s = part_short k says src at (refl, h) in let z : ◌≡◌ {A = ℕ} 0 1 = cc (s, e) in omega arith)

      whole : at + k ≤ length src → Took x next
      whole h =
          let r = read_ok (says at (take k (drop at src))) (at + k) x next (sym (part_whole k says src at h) ∙ e) in
          record {
            fits = h;
            said = r.0;
            ends = r.1;
            split = sym (take-append-drop k (drop at src)) ∙ ap (λ l. take k (drop at src) ++ l) (drop-drop k at src ∙ ap (λ n. drop n src) (sym r.1));
            long = length-take-le k (drop at src) (omega (arith, length-drop at src));
          }

-- four bytes and their number
pub bytes4_word : (v : ℕ) → v < 4294967296 → word 0 (bytes4 v) ≡ v
bytes4_word v h = omega (arith, from_be_bytes-to_be_bytes_4 v h)

abbrev pub Bytes : List ℕ → Type 0
Bytes bs = (i : ℕ) → get_or bs i 0 < 256

pub word_says : (bs : List ℕ) → Bytes bs → length bs ≡ 4 → bytes4 (word 0 bs) ≡ bs
word_says bs h l = be_bytes_4 bs (word 0 bs) l h (omega arith)

pub bytes_part : (k at : ℕ) (bs : List ℕ) → Bytes bs → Bytes (take k (drop at bs))
bytes_part k at bs h i =
    ⊎_elim
    (λ l. omega (arith, get_or-take k (drop at bs) i 0 l, get_or-drop at bs i 0, h (at + i)))
    (λ l. omega (arith, get_or_past (take k (drop at bs)) i 0 (omega (arith, length-take k (drop at bs)))))
    (cases_lt i k)

-- a field of four bytes
module _ (says : ℕ → List ℕ → Result ℕ RecordFault) (default : ℕ) (src : List ℕ) where
  pub word_read : (present : Bool) (v at : ℕ) (tail : List ℕ) → drop at src ≡ word_bytes present v ++ tail → (present ≡ false → v ≡ default) → (present ≡ true → says at (bytes4 v) ≡ Ok v) → word_at says default present src at ≡ Ok (v, at + length (word_bytes present v))
  unfolding word_at
  word_read false v at tail d absent there = ap (λ n. Ok (default, n)) (sym (add-zero at)) ∙ ap (λ x. Ok (x, at + 0)) (sym (absent refl))
  word_read true v at tail d absent there = part_of 4 says src at (bytes4 v) tail v (omega arith) d refl (there refl)

  pub word_back : (present : Bool) (v at next : ℕ) → Bytes src → ((bs : List ℕ) → Bytes bs → length bs ≡ 4 → says at bs ≡ Ok v → (bytes4 v ≡ bs) × (eqb v default ≡ false)) → eqb default default ≡ true → word_at says default present src at ≡ Ok (v, next) → (drop at src ≡ word_bytes present v ++ drop next src) × (not (eqb v default) ≡ present)
  unfolding word_at
  word_back false v at next small back same e =
      let p : ◌≡◌ {A = ℕ × ℕ} (default, at) (v, next) = cc in
      (ap (λ n. drop n src) (ap (λ z. z.1) p), ap (λ x. not (eqb x default)) (sym (ap (λ z. z.0) p)) ∙ ap not same)
  word_back true v at next small back same e =
      let t = part_back 4 says src at v next e in
      let b = back (take 4 (drop at src)) (bytes_part 4 at src small) t.long t.said in
      (t.split ∙ ap (λ l. l ++ drop next src) (sym b.0), ap not b.1)

pub count_back : (place : ℕ) (bs : List ℕ) (c : ℕ) → length bs ≡ 1 → count_form place bs ≡ Ok c → (0 < c) × (bs ≡ c ∷ [])
count_back place [] c l e = absurd (omega arith)
count_back place (b ∷ d ∷ bs) c l e = absurd (omega arith)
count_back place (b ∷ []) c l e = way b refl
  where
    way : (x : ℕ) → b ≡ x → (0 < c) × (b ∷ [] ≡ c ∷ [])
    way zero h = absurd cc
    way (suc x) h = let s : b ≡ c = grind (arith, nat_tests) in (omega arith, ap (λ v. v ∷ []) s)

-- a list
module _ {E A : Type 0} (k : ℕ) (pos : 0 < k) (says : ℕ → ℕ → List ℕ → Result (ℕ × E) RecordFault) (cell : E → A) (bytes : ℕ × E → List ℕ) (Good : ℕ × E → Type 0) (src : List ℕ) where
  module _ (long : (e : ℕ × E) → length (bytes e) ≡ k) (says_bytes : (floor place : ℕ) (e : ℕ × E) → floor ≤ e.0 → Good e → says floor place (bytes e) ≡ Ok e) where
    entries_read : (es : List (ℕ × E)) (tail : List ℕ) (floor at : ℕ) (table : List A) → drop at src ≡ flat_map bytes es ++ tail → Climbs Good floor es → entries_from k says cell src (length es) floor table at ≡ Ok (filled cell table es, at + length (flat_map bytes es))
    unfolding entries_from
    entries_read [] tail floor at table d c = ap (λ n. Ok (table, n)) (sym (add-zero at))
    entries_read (e ∷ es) tail floor at table d c =
        let d1 : drop at src ≡ bytes e ++ (flat_map bytes es ++ tail) = d ∙ append_assoc (bytes e) (flat_map bytes es) tail in
        let one = part_of k (says floor) src at (bytes e) (flat_map bytes es ++ tail) e pos d1 (long e) (says_bytes floor at e c.0 c.1) in
        let next : drop (at + k) src ≡ flat_map bytes es ++ tail = ap (λ n. drop (at + n) src) (sym (long e)) ∙ past src (bytes e) (flat_map bytes es ++ tail) at d1 in
        let n : at + k + length (flat_map bytes es) ≡ at + length (bytes e ++ flat_map bytes es) = omega (arith, length-append (bytes e) (flat_map bytes es), long e) in
        ap (λ q. then q (λ x. entries_from k says cell src (length es) (x.0.0 + 1) (set table x.0.0 (cell x.0.1)) x.1)) one
        ∙ entries_read es tail (e.0 + 1) (at + k) (set table e.0 (cell e.1)) next c.2
        ∙ ap (λ n. Ok (filled cell table (e ∷ es), n)) n

    pub list_read : (blank : List A) (es : List (ℕ × E)) (tail : List ℕ) (at : ℕ) → drop at src ≡ list_bytes bytes es ++ tail → Climbs Good 0 es → list_at k says cell blank (some es) src at ≡ Ok (filled cell blank es, at + length (list_bytes bytes es))
    unfolding list_at
    list_read blank [] tail at d c = ap (λ n. Ok (blank, n)) (sym (add-zero at))
    list_read blank (e ∷ es) tail at d c =
        let count = part_of 1 count_form src at (length (e ∷ es) ∷ []) (flat_map bytes (e ∷ es) ++ tail) (length (e ∷ es)) (omega arith) d refl (rw (ne_eqb (suc (length es)) 0 (λ z. absurd (omega arith)))) in
        let next = past src (length (e ∷ es) ∷ []) (flat_map bytes (e ∷ es) ++ tail) at d in
        let n : at + 1 + length (flat_map bytes (e ∷ es)) ≡ at + suc (length (flat_map bytes (e ∷ es))) = omega arith in
        ap (λ q. then q (λ x. entries_from k says cell src x.0 0 blank x.1)) count
        ∙ entries_read (e ∷ es) tail 0 (at + 1) blank next c
        ∙ ap (λ n. Ok (filled cell blank (e ∷ es), n)) n

  module _ (small : Bytes src) (SaysBack : (floor place : ℕ) (bs : List ℕ) (e : ℕ × E) → Bytes bs → length bs ≡ k → says floor place bs ≡ Ok e → (floor ≤ e.0) × Good e × (bytes e ≡ bs)) where
    -- the entries that were read into a table
    pub record Back (floor at j : ℕ) (table after : List A) (next : ℕ) : Type 0 where
      pub entries : List (ℕ × E)
      pub count : length entries ≡ j
      pub climbs : Climbs Good floor entries
      pub fill : after ≡ filled cell table entries
      pub split : drop at src ≡ flat_map bytes entries ++ drop next src

    entries_back : (j floor at : ℕ) (table after : List A) (next : ℕ) → entries_from k says cell src j floor table at ≡ Ok (after, next) → Back floor at j table after next
    unfolding entries_from
    entries_back zero floor at table after next e =
        let p : ◌≡◌ {A = List A × ℕ} (table, at) (after, next) = cc in
        record { entries = []; count = refl; climbs = tt; fill = sym (ap (λ z. z.0) p); split = ap (λ n. drop n src) (ap (λ z. z.1) p) }
    entries_back (suc j) floor at table after next e =
        let q = then_ok (part_at k (says floor) src at) _ (after, next) e in
        let t = part_back k (says floor) src at q.0.0 q.0.1 q.1 in
        let b = SaysBack floor at (take k (drop at src)) q.0.0 (bytes_part k at src small) t.long t.said in
        let r = entries_back j (q.0.0.0 + 1) q.0.1 (set table q.0.0.0 (cell q.0.0.1)) after next q.2 in
        record {
          entries = q.0.0 ∷ r.entries;
          count = ap suc r.count;
          climbs = (b.0, b.1, r.climbs);
          fill = r.fill;
          split = t.split ∙ (λ i. sym b.2 i ++ r.split i) ∙ sym (append_assoc (bytes q.0.0) (flat_map bytes r.entries) (drop next src));
        }

    pub record ListBack (present : Bool) (at : ℕ) (blank after : List A) (next : ℕ) : Type 0 where
      pub entries : List (ℕ × E)
      pub shows : some entries ≡ present
      pub climbs : Climbs Good 0 entries
      pub fill : after ≡ filled cell blank entries
      pub split : drop at src ≡ list_bytes bytes entries ++ drop next src

    pub list_back : (blank : List A) (present : Bool) (at : ℕ) (after : List A) (next : ℕ) → list_at k says cell blank present src at ≡ Ok (after, next) → ListBack present at blank after next
    unfolding list_at
    list_back blank false at after next e =
        let p : ◌≡◌ {A = List A × ℕ} (blank, at) (after, next) = cc in
        record { entries = []; shows = refl; climbs = tt; fill = sym (ap (λ z. z.0) p); split = ap (λ n. drop n src) (ap (λ z. z.1) p) }
    list_back blank true at after next e =
        let q = then_ok (part_at 1 count_form src at) _ (after, next) e in
        let t = part_back 1 count_form src at q.0.0 q.0.1 q.1 in
        let c = count_back at (take 1 (drop at src)) q.0.0 t.long t.said in
        let r = entries_back q.0.0 0 q.0.1 blank after next q.2 in
        record {
          entries = r.entries;
          shows = shown r.entries (omega (arith, r.count, c.0));
          climbs = r.climbs;
          fill = r.fill;
          split = t.split ∙ (λ i. c.1 i ++ r.split i) ∙ field r.entries (omega (arith, r.count, c.0)) q.0.0 r.count;
        }
      where
        shown : (es : List (ℕ × E)) → 0 < length es → some es ≡ true
        shown [] h = absurd (omega arith)
        shown (e ∷ es) h = refl

        field : (es : List (ℕ × E)) → 0 < length es → (c : ℕ) → length es ≡ c → (c ∷ []) ++ (flat_map bytes es ++ drop next src) ≡ list_bytes bytes es ++ drop next src
        field [] h c e = absurd (omega arith)
        field (x ∷ es) h c e = ap (λ n. n ∷ (flat_map bytes (x ∷ es) ++ drop next src)) (sym e)
