-- A table and the entries in it.
use Rattle.std.proofs.Common.{◌≡◌, ℕ, zero, suc, ◌+◌, ◌-◌, ◌<◌, ◌≤◌, List, [], ◌∷◌, ◌++◌, length, take, drop, set, replicate, Some, None, Option, sym, refl, ap, ◌∙◌, subst, add-zero, add-one, arith}
use Rattle.std.proofs.lemmas.List.{append-nil, append_assoc, length-set, length_push, length-take-le, length-replicate, set_at, set_split, take-append-drop, drop-set-lt, drop-drop, drop-replicate}
use Rattle.record.specs.Encode.{entered, entries_of}

-- the table with each entry written at its step
abbrev pub filled : {E A : Type 0} → (E → A) → List A → List (ℕ × E) → List A
filled cell table [] = table
filled cell table (e ∷ es) = filled cell (set table e.0 (cell e.1)) es

-- the steps rise from a floor, and each entry is good
abbrev pub Climbs : {E : Type 0} → (ℕ × E → Type 0) → ℕ → List (ℕ × E) → Type 0
Climbs Good floor [] = Unit {0}
Climbs Good floor (e ∷ es) = (floor ≤ e.0) × Good e × Climbs Good (e.0 + 1) es

module _ {E A : Type 0} (held : A → Option E) (cell : E → A) (empty : A) where
  module _ (none : (a : A) → held a ≡ None → a ≡ empty) (one : (a : A) (e : E) → held a ≡ Some e → cell e ≡ a) where
    pub filled_entries : (pre suf : List A) → filled cell (pre ++ replicate (length suf) empty) (entries_of held (length pre) suf) ≡ pre ++ suf
    unfolding entries_of
    filled_entries pre [] = refl
    filled_entries pre (a ∷ rest) =
        way (held a) refl
        (rw (← (length_push pre a), ← (append_assoc pre (a ∷ []) (replicate (length rest) empty)), ← (append_assoc pre (a ∷ []) rest)) (filled_entries (pre ++ a ∷ []) rest))
      where
        way : (o : Option E) → held a ≡ o → filled cell (pre ++ a ∷ replicate (length rest) empty) (entries_of held (length pre + 1) rest) ≡ pre ++ a ∷ rest → filled cell (pre ++ empty ∷ replicate (length rest) empty) (entered (length pre) o (entries_of held (length pre + 1) rest)) ≡ pre ++ a ∷ rest
        way None e on = ap (λ b. filled cell (pre ++ b ∷ replicate (length rest) empty) (entries_of held (length pre + 1) rest)) (sym (none a e)) ∙ on
        way (Some x) e on = ap (λ l. filled cell l (entries_of held (length pre + 1) rest)) (set_at pre empty (replicate (length rest) empty) (cell x) (length pre) refl ∙ ap (λ b. pre ++ b ∷ replicate (length rest) empty) (one a x e)) ∙ on

  pub entries_append : (t : ℕ) (xs ys : List A) → entries_of held t (xs ++ ys) ≡ entries_of held t xs ++ entries_of held (t + length xs) ys
  unfolding entries_of
  entries_append t [] ys = rw (add-zero t)
  entries_append t (x ∷ xs) ys =
      let e : t + 1 + length xs ≡ t + suc (length xs) = omega arith in
      way (held x) _ _ (subst (λ (k : ℕ). entries_of held (t + 1) (xs ++ ys) ≡ entries_of held (t + 1) xs ++ entries_of held k ys) e (entries_append (t + 1) xs ys))
    where
      way : (o : Option E) {l : List (ℕ × E)} (r s : List (ℕ × E)) → l ≡ r ++ s → entered t o l ≡ entered t o r ++ s
      way None r s e = e
      way (Some x) r s e = ap (λ l. (t, x) ∷ l) e

  module _ (blank : held empty ≡ None) where
    pub entries_blank : (t m : ℕ) → entries_of held t (replicate m empty) ≡ []
    unfolding entries_of
    entries_blank t zero = refl
    entries_blank t (suc m) = rw blank (entries_blank (t + 1) m)

    -- the table is empty from the floor on
    abbrev Free : ℕ → List A → Type 0
    Free floor table = drop floor table ≡ replicate (length table - floor) empty

    free_on : (floor s : ℕ) (table : List A) (a : A) → floor ≤ s → Free floor table → Free (s + 1) (set table s a)
    free_on floor s table a h f =
        let e : floor + (s + 1 - floor) ≡ s + 1 = omega arith in
        let d = sym (drop-drop (s + 1 - floor) floor table) ∙ ap (drop (s + 1 - floor)) f ∙ drop-replicate (s + 1 - floor) (length table - floor) empty in
        let n : length table - floor - (s + 1 - floor) ≡ length table - (s + 1) = omega arith in
        drop-set-lt (s + 1) table s a (omega arith) ∙ ap (λ k. drop k table) (sym e) ∙ d ∙ ap (λ k. replicate k empty) (n ∙ ap (λ k. k - (s + 1)) (sym (length-set table s a)))

    entries_set : (s : ℕ) (table : List A) (x : E) → held (cell x) ≡ Some x → s < length table → Free s table → entries_of held 0 (set table s (cell x)) ≡ entries_of held 0 table ++ (s, x) ∷ []
    unfolding entries_of
    entries_set s table x h l f =
        let n : length (take s table) ≡ s = length-take-le s table (omega arith) in
        let z : 0 + length (take s table) ≡ s = omega arith in
        let m : ℕ = length table - s - 1 in
        let d : drop (suc s) table ≡ replicate m empty = ap (λ k. drop k table) (sym (add-one s)) ∙ sym (drop-drop 1 s table) ∙ ap (drop 1) f ∙ drop-replicate 1 (length table - s) empty in
        let last : entries_of held (0 + length (take s table)) (cell x ∷ replicate m empty) ≡ (s, x) ∷ [] = rw (z, h, entries_blank (s + 1) m) in
        let after = ap (entries_of held 0) (set_split table s (cell x) l ∙ ap (λ r. take s table ++ cell x ∷ r) d) ∙ entries_append 0 (take s table) (cell x ∷ replicate m empty) ∙ ap (λ es. entries_of held 0 (take s table) ++ es) last in
        let before = ap (entries_of held 0) (sym (take-append-drop s table)) ∙ entries_append 0 (take s table) (drop s table) ∙ ap (λ es. entries_of held 0 (take s table) ++ es) (ap (entries_of held (0 + length (take s table))) f ∙ entries_blank _ _) ∙ append-nil _ in
        after ∙ ap (λ es. es ++ (s, x) ∷ []) (sym before)

    free_later : (floor s : ℕ) (table : List A) → floor ≤ s → Free floor table → Free s table
    free_later floor s table h f =
        let e : floor + (s - floor) ≡ s = omega arith in
        let n : length table - floor - (s - floor) ≡ length table - s = omega arith in
        ap (λ k. drop k table) (sym e) ∙ sym (drop-drop (s - floor) floor table) ∙ ap (drop (s - floor)) f ∙ drop-replicate (s - floor) (length table - floor) empty ∙ ap (λ k. replicate k empty) n

    pub entries_filled : (Good : ℕ × E → Type 0) (top : ℕ) → ((e : ℕ × E) → Good e → (held (cell e.1) ≡ Some e.1) × (e.0 < top)) → (floor : ℕ) (table : List A) (es : List (ℕ × E)) → length table ≡ top → Free floor table → Climbs Good floor es → entries_of held 0 (filled cell table es) ≡ entries_of held 0 table ++ es
    entries_filled Good top ok floor table [] l f c = sym (append-nil _)
    entries_filled Good top ok floor table (e ∷ es) l f c =
        let g = ok e c.1 in
        entries_filled Good top ok (e.0 + 1) (set table e.0 (cell e.1)) es (length-set table e.0 (cell e.1) ∙ l) (free_on floor e.0 table (cell e.1) c.0 f) c.2
        ∙ ap (λ l. l ++ es) (entries_set e.0 table e.1 g.0 (omega (arith, g.1)) (free_later floor e.0 table c.0 f))
        ∙ append_assoc (entries_of held 0 table) (e ∷ []) es

    pub entries_from_blank : (Good : ℕ × E → Type 0) (top : ℕ) → ((e : ℕ × E) → Good e → (held (cell e.1) ≡ Some e.1) × (e.0 < top)) → (es : List (ℕ × E)) → Climbs Good 0 es → entries_of held 0 (filled cell (replicate top empty) es) ≡ es
    entries_from_blank Good top ok es c =
        let l = length-replicate top empty in
        let z : length (replicate top empty) - 0 ≡ top = omega arith in
        entries_filled Good top ok 0 (replicate top empty) es l (ap (λ k. replicate k empty) (sym z)) c ∙ ap (λ r. r ++ es) (entries_blank 0 top)
