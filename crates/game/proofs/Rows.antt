-- Where the entries of a step stand in a row, and what a rewritten row holds. Assumes nothing.
use Rattle.std.proofs.Common.{◌≡◌, ℕ, zero, suc, ◌+◌, ◌-◌, ◌*◌, ◌<◌, ◌≤◌, List, map, ◌++◌, length, get_or, take, drop, sym, refl, ap, ◌∙◌, ⊎_elim, append_assoc, add-one, arith}
use Rattle.std.specs.List.{sum, range_with_len}
use Rattle.std.proofs.lemmas.List.FromFn.{length-map-range_with_len, get_or-map-range_with_len, sum_by-map-range_with_len_more}
use Rattle.std.proofs.lemmas.List.{length-append, length-take-le, get_or_append_left, get_or-append_right, get_or-drop, take-append-drop, take-append-le, take-take, drop_at}
use Rattle.std.proofs.lemmas.Bool.{cases_lt, cases_order}
use Rattle.rates.specs.Model.{Model, Lawful}
use Rattle.game.specs.Stored.{offset, all_nodes, stored, step_row, laid, rewritten}

pub offset_more : (m : Model) (t : ℕ) → offset m (t + 1) ≡ offset m t + m.count t
offset_more m t = ap (offset m) (add-one t)

pub count_few : {m : Model} → Lawful m → (t : ℕ) → m.count t ≤ 129
count_few {m} laws t = ⊎_elim (λ (l : m.steps < t). omega (arith, laws.no_nodes t l)) (λ (l : t ≤ m.steps). laws.few_nodes t l) (cases_lt m.steps t)

pub offset_small : {m : Model} → Lawful m → (t : ℕ) → offset m t ≤ 129 * t
offset_small {m} laws zero = omega arith
offset_small {m} laws (suc t) = omega (arith, offset_small laws t, count_few laws t)

-- the same as a sum over the steps before
pub offset_sum : (m : Model) (t : ℕ) → sum (map m.count (range_with_len 0 t)) ≡ offset m t
offset_sum m zero = refl
offset_sum m (suc t) =
    ap (λ n. sum (map m.count (range_with_len 0 n))) (sym (add-one t))
    ∙ sum_by-map-range_with_len_more (λ x. x) m.count 0 t t (omega arith)
    ∙ ap (λ n. n + m.count t) (offset_sum m t)

pub offset_within : (m : Model) (t u : ℕ) → t < u → offset m t + m.count t ≤ offset m u
offset_within m t zero h = absurd (omega arith)
offset_within m t (suc u) h =
    ⊎_elim
    (λ e. omega (arith, ap (offset m) e, ap m.count e))
    (⊎_elim (λ l. omega (arith, offset_within m t u l)) (λ l. absurd (omega arith)))
    (cases_order t u)

pub offset_mono : (m : Model) (t u : ℕ) → t ≤ u → offset m t ≤ offset m u
offset_mono m t u h =
    ⊎_elim
    (λ (l : t < u). omega (arith, offset_within m t u l))
    (λ (l : u ≤ t). let e : t ≡ u = omega arith in omega (arith, ap (offset m) e))
    (cases_lt t u)

-- no step ends past the last node, not even one past the last step
pub offset_top : {m : Model} → Lawful m → (u : ℕ) → offset m u + m.count u ≤ all_nodes m
offset_top {m} laws zero = offset_within m zero (m.steps + 1) (omega arith)
offset_top {m} laws (suc u) =
    ⊎_elim
    (λ (l : suc u < m.steps + 1). offset_within m (suc u) (m.steps + 1) l)
    (λ (l : m.steps + 1 ≤ suc u). omega (arith, laws.no_nodes (suc u) (omega arith), offset_top laws u))
    (cases_lt (suc u) (m.steps + 1))

module _ (m : Model) (f : ℕ → ℕ → ℕ) where
  pub step_length : (t : ℕ) → length (step_row m f t) ≡ m.count t
  step_length t = length-map-range_with_len (f t) 0 (m.count t)

  laid_length : (n t : ℕ) → offset m t + length (laid m f t n) ≡ offset m (t + n)
  laid_length zero t = let e : t + 0 ≡ t = omega arith in omega (arith, ap (offset m) e)
  laid_length (suc n) t =
      let e : t + suc n ≡ (t + 1) + n = omega arith in
      omega (arith, ap (offset m) e, laid_length n (t + 1), offset_more m t, length-append (step_row m f t) (laid m f (t + 1) n), step_length t)

  laid_at : (rest : List ℕ) (n t u j i : ℕ) → t ≤ u → u < t + n → j < m.count u → offset m t + i ≡ offset m u + j → get_or (laid m f t n ++ rest) i 0 ≡ f u j
  laid_at rest zero t u j i a c h e = absurd (omega arith)
  laid_at rest (suc n) t u j i a c h e =
      ap (λ xs. get_or xs i 0) (append_assoc (step_row m f t) (laid m f (t + 1) n) rest)
      ∙ ⊎_elim
      (λ (l : t < u).
      let o = offset_within m t u l in
      get_or-append_right (step_row m f t) (laid m f (t + 1) n ++ rest) (m.count t) i 0 (step_length t) (omega arith)
      ∙ laid_at rest n (t + 1) u j (i - m.count t) (omega arith) (omega arith) h (omega (arith, offset_more m t)))
      (λ (l : u ≤ t).
      let q : u ≡ t = omega arith in
      let k : i ≡ j = omega (arith, ap (offset m) q) in
      let w : i < m.count t = omega (arith, ap m.count q) in
      get_or_append_left (step_row m f t) (laid m f (t + 1) n ++ rest) 0 i (omega (arith, step_length t))
      ∙ get_or-map-range_with_len (f t) 0 (m.count t) i j 0 w (omega arith)
      ∙ ap (λ v. f v j) (sym q))
      (cases_lt t u)

  -- the nodes of the rewritten steps
  pub rewritten_here : (row : List ℕ) (n t u j : ℕ) → offset m t ≤ length row → t ≤ u → u < t + n → j < m.count u → stored m (rewritten m row f t n) u j ≡ f u j
  rewritten_here row n t u j l a c h =
      let o = offset_mono m t u a in
      get_or-append_right (take (offset m t) row) (laid m f t n ++ drop (offset m (t + n)) row) (offset m t) (offset m u + j) 0 (length-take-le (offset m t) row l) (omega arith)
      ∙ laid_at (drop (offset m (t + n)) row) n t u j (offset m u + j - offset m t) a c h (omega arith)

  -- the nodes above them
  pub rewritten_above : (row : List ℕ) (n t u j : ℕ) → offset m t ≤ length row → t + n ≤ u → stored m (rewritten m row f t n) u j ≡ stored m row u j
  rewritten_above row n t u j l a =
      let o = offset_mono m (t + n) u a in
      let z = laid_length n t in
      let i = offset m u + j in
      get_or-append_right (take (offset m t) row) (laid m f t n ++ drop (offset m (t + n)) row) (offset m t) i 0 (length-take-le (offset m t) row l) (omega arith)
      ∙ get_or-append_right (laid m f t n) (drop (offset m (t + n)) row) (length (laid m f t n)) (i - offset m t) 0 refl (omega arith)
      ∙ get_or-drop (offset m (t + n)) row (i - offset m t - length (laid m f t n)) 0
      ∙ ap (λ k. get_or row k 0) (omega arith)

  -- nothing rewritten
  pub rewritten_none : (row : List ℕ) (t : ℕ) → row ≡ rewritten m row f t 0
  rewritten_none row t =
      let e : t + 0 ≡ t = omega arith in
      sym (ap (λ v. take (offset m t) row ++ drop (offset m v) row) e ∙ take-append-drop (offset m t) row)

  -- one step more, in front of the others
  pub rewritten_more : (row row' part : List ℕ) (t n from : ℕ) → offset m (t + 1) ≤ length row → from ≡ offset m t → row' ≡ rewritten m row f (t + 1) n → part ≡ step_row m f t → take from row' ++ (part ++ drop (from + length part) row') ≡ rewritten m row f t (suc n)
  rewritten_more row row' part t n from fits ef is new =
      let a = offset m (t + 1) in
      let L = laid m f (t + 1) n in
      let D = drop (offset m (t + 1 + n)) row in
      let all : t + 1 + n ≡ t + suc n = omega arith in
      let place : from + length part ≡ a = omega (arith, ap length new, step_length t, offset_more m t) in
      let front : take from row' ≡ take from row = ap (take from) is ∙ take-append-le from (take a row) (L ++ D) (omega (arith, length-take-le a row fits)) ∙ take-take from a row (omega arith) in
      let back : drop (from + length part) row' ≡ L ++ D = ap (λ k. drop k row') place ∙ ap (drop a) is ∙ drop_at (take a row) (L ++ D) a (length-take-le a row fits) in
      ap (λ xs. xs ++ (part ++ drop (from + length part) row')) front
      ∙ ap (λ xs. take from row ++ (part ++ xs)) back
      ∙ ap (λ xs. take from row ++ (xs ++ (L ++ D))) new
      ∙ ap (λ xs. take from row ++ xs) (sym (append_assoc (step_row m f t) L D))
      ∙ ap (λ v. take from row ++ ((step_row m f t ++ L) ++ drop (offset m v) row)) all
      ∙ ap (λ v. take v row ++ ((step_row m f t ++ L) ++ drop (offset m (t + suc n)) row)) ef
