-- Bytes written one after another.
use Rattle.std.proofs.Common.{◌≡◌, ℕ, suc, ◌+◌, ◌*◌, ◌<◌, ◌≤◌, cond, is_some, ltb, List, [], ◌∷◌, ◌++◌, length, get_or, take, drop, Some, None, Option, sym, refl, ap, ◌∙◌, add-zero, add_comm, mul-zero, mul-suc, arith}
use Rattle.std.proofs.lemmas.List.{append_assoc, length-append, length-take-le, take_at, drop_at, drop-drop, take-append-drop, drop_more, drop_all}
use Rattle.std.proofs.lemmas.Bool.{lt-ltb}
use Rattle.std.proofs.lemmas.List.Sums.{sum_by-cons, count_by-le-length}
use Rattle.std.specs.List.{flat_map, count_by}
use Rattle.record.specs.Encode.{entered, entries_of, list_bytes, some}
use Rattle.record.specs.Cuts.{written, Wrote}

pub written_none : (at : ℕ) (out : List ℕ) → written at [] out ≡ out
written_none at out = ap (λ n. take at out ++ drop n out) (add-zero at) ∙ take-append-drop at out

pub written_more : (at : ℕ) (a b out : List ℕ) → at + length a ≤ length out → written (at + length a) b (written at a out) ≡ written at (a ++ b) out
written_more at a b out h =
    let q : List ℕ = drop (at + length a) out in
    let l : length (take at out ++ a) ≡ at + length a = omega (arith, length-append (take at out) a, length-take-le at out (omega arith)) in
    let g = sym (append_assoc (take at out) a q) in
    let front = ap (take (at + length a)) g ∙ take_at (take at out ++ a) q (at + length a) l in
    let mid = ap (drop (at + length a)) g ∙ drop_at (take at out ++ a) q (at + length a) l in
    let rest = sym (drop-drop (length b) (at + length a) (written at a out)) ∙ ap (drop (length b)) mid ∙ drop-drop (length b) (at + length a) out in
    let n : at + length a + length b ≡ at + length (a ++ b) = omega (arith, length-append a b) in
    (λ i. front i ++ (b ++ rest i))
    ∙ append_assoc (take at out) a (b ++ drop (at + length a + length b) out)
    ∙ ap (λ l. take at out ++ l) (sym (append_assoc a b (drop (at + length a + length b) out)) ∙ ap (λ k. (a ++ b) ++ drop k out) n)

pub wrote_none : (at : ℕ) (out : List ℕ) → Wrote [] at out out at
wrote_none at out = record { all = sym (written_none at out); end = sym (add-zero at) }

pub wrote_more : (a b : List ℕ) (at : ℕ) (before mid after : List ℕ) (next last : ℕ) → at + length (a ++ b) ≤ length before → Wrote a at before mid next → Wrote b next mid after last → Wrote (a ++ b) at before after last
wrote_more a b at before mid after next last h u v =
    let n = length-append a b in
    record {
      all = v.all ∙ (λ i. written (u.end i) b (u.all i)) ∙ written_more at a b before (omega arith);
      end = omega (arith, u.end, v.end);
    }

-- the entries from a place of a table on
module _ {E A : Type 0} (held : A → Option E) (xs : List A) (i : ℕ) where
  pub entries_on : (d : A) → i < length xs → entries_of held i (drop i xs) ≡ entered i (held (get_or xs i d)) (entries_of held (i + 1) (drop (i + 1) xs))
  unfolding entries_of
  entries_on d h = ap (entries_of held i) (drop_more xs i d h)

  pub entries_end : length xs ≤ i → entries_of held i (drop i xs) ≡ []
  unfolding entries_of
  entries_end h = ap (entries_of held i) (drop_all i xs h)

  pub entry_there : (d : A) (e : E) → i < length xs → held (get_or xs i d) ≡ Some e → entries_of held i (drop i xs) ≡ (i, e) ∷ entries_of held (i + 1) (drop (i + 1) xs)
  entry_there d e h o = entries_on d h ∙ ap (λ x. entered i x (entries_of held (i + 1) (drop (i + 1) xs))) o

  pub entry_not : (d : A) → i < length xs → held (get_or xs i d) ≡ None → entries_of held i (drop i xs) ≡ entries_of held (i + 1) (drop (i + 1) xs)
  entry_not d h o = entries_on d h ∙ ap (λ x. entered i x (entries_of held (i + 1) (drop (i + 1) xs))) o

-- how long a list is
joined_long : {E : Type 0} (f : ℕ × E → List ℕ) (k : ℕ) → ((e : ℕ × E) → length (f e) ≡ k) → (es : List (ℕ × E)) → length (flat_map f es) ≡ k * length es
joined_long f k h [] = sym (mul-zero k)
joined_long f k h (e ∷ es) = length-append (f e) (flat_map f es) ∙ (λ i. h e i + joined_long f k h es i) ∙ sym (mul-suc k (length es) ∙ add_comm (k * length es) k)

pub list_long : {E : Type 0} (f : ℕ × E → List ℕ) (k : ℕ) → ((e : ℕ × E) → length (f e) ≡ k) → (es : List (ℕ × E)) → 0 < length es → length (list_bytes f es) ≡ 1 + k * length es
list_long f k h [] z = absurd (omega arith)
list_long f k h (e ∷ es) z = let l = joined_long f k h (e ∷ es) in omega arith

pub some_long : {X : Type 0} (xs : List X) → ltb 0 (length xs) ≡ some xs
some_long [] = refl
some_long (x ∷ xs) = lt-ltb 0 (suc (length xs)) (omega arith)

-- how many cells hold something is how many entries there are
pub entries_counted : {E A : Type 0} (held : A → Option E) (t : ℕ) (xs : List A) → count_by (λ a. is_some (held a)) xs ≡ length (entries_of held t xs)
unfolding entries_of
entries_counted held t [] = refl
entries_counted {E} held t (x ∷ xs) = sum_by-cons _ x xs ∙ way (held x) _ (entries_counted held (t + 1) xs)
  where
    way : (o : Option E) {n : ℕ} (es : List (ℕ × E)) → n ≡ length es → cond (is_some o) 1 0 + n ≡ length (entered t o es)
    way None es e = omega (arith, e)
    way (Some x) es e = omega (arith, e)

-- a table has no more entries than cells
pub entries_few : {E A : Type 0} (held : A → Option E) (t : ℕ) (xs : List A) → length (entries_of held t xs) ≤ length xs
entries_few held t xs = omega (arith, entries_counted held t xs, count_by-le-length (λ a. is_some (held a)) xs)
