-- The pieces of a text, and what the library's `split` gives. Assumes nothing.
use Rattle.std.proofs.Common.{◌≡◌, ℕ, ◌+◌, ◌<◌, ◌≤◌, Bool, true, false, cond, not, eqb, ltb, List, [], ◌∷◌, ◌++◌, length, take, drop, Some, None, Option, sym, refl, ap, ◌∙◌, arith}
use Rattle.std.proofs.lemmas.Grind.{common_steps}
use Rattle.std.proofs.lemmas.Bool.{cond-true}
use Rattle.std.proofs.lemmas.Bool.Decides.{nat_tests}
use Rattle.std.proofs.lemmas.List.{drop_all}
use Rattle.std.proofs.lemmas.List.Sums.{prefix_len-le-length}
use Rattle.std.proofs.lemmas.Option.{cond_some}
use Rattle.std.specs.List.{slice_split, onto_first, position_or_len, prefix_len, filter}
use Rattle.std.specs.Option.{unwrap_or}
use mathlib.Core.Logic.{◌⊎◌, inl, inr}
use Rattle.script.specs.Cuts.{before, onto, pieces, filled}

take_cons : (b n : ℕ) (bs : List ℕ) → take (1 + n) (b ∷ bs) ≡ b ∷ take n bs
take_cons b n bs = grind (arith, common_steps)

before_first_is : (f : ℕ → Bool) (bs : List ℕ) → take (position_or_len f bs) bs ≡ before f bs
before_first_is f [] = refl
before_first_is f (b ∷ bs) =
    elim (f b) as (λ t. take (cond (not t) (1 + prefix_len (λ x. not (f x)) bs) 0) (b ∷ bs) ≡ cond t [] (b ∷ before f bs)) [
      | true ↦ refl
      | false ↦ take_cons b (prefix_len (λ x. not (f x)) bs) bs ∙ ap (λ (l : List ℕ). b ∷ l) (before_first_is f bs)
    ]

-- what stands before the place that `position` finds
pub before_is : (f : ℕ → Bool) (bs : List ℕ) (o : Option ℕ) → o ≡ cond (ltb (position_or_len f bs) (length bs)) (Some (position_or_len f bs)) None → take (unwrap_or o (length bs)) bs ≡ before f bs
before_is f bs o e = ap (λ (n : ℕ). take n bs) (ap (λ (p : Option ℕ). unwrap_or p (length bs)) e ∙ place (position_or_len f bs) (length bs) (prefix_len-le-length (λ x. not (f x)) bs)) ∙ before_first_is f bs
  where
    place : (i n : ℕ) → i ≤ n → unwrap_or (cond (ltb i n) (Some i) None) n ≡ i
    place i n h = grind (arith, nat_tests)

-- behind a mark at the end of the text, `split` has one more piece, which is empty
abbrev Split : List (List ℕ) → List (List ℕ) → Type 0
Split ps qs = (ps ≡ qs) ⊎ (ps ≡ qs ++ [] ∷ [])

onto_some : (b : ℕ) (ps qs : List (List ℕ)) → 0 < length qs → Split ps qs → Split (onto_first b ps) (onto b qs)
onto_some b ps [] h s = absurd (omega arith)
onto_some b ps (q ∷ qs) h (inl e) = inl (ap (onto_first b) e)
onto_some b ps (q ∷ qs) h (inr e) = inr (ap (onto_first b) e)

onto_length : (b : ℕ) (ps : List (List ℕ)) → 0 < length (onto b ps)
onto_length b [] = omega arith
onto_length b (p ∷ ps) = omega arith

pieces_length : (f : ℕ → Bool) (b : ℕ) (bs : List ℕ) → 0 < length (pieces f (b ∷ bs))
pieces_length f b bs = elim (f b) as (λ t. 0 < length (cond t ([] ∷ pieces f bs) (onto b (pieces f bs)))) [ true ↦ omega arith | false ↦ onto_length b (pieces f bs) ]

also_empty : (ps qs : List (List ℕ)) → Split ps qs → Split ([] ∷ ps) ([] ∷ qs)
also_empty ps qs (inl e) = inl (ap (λ (l : List (List ℕ)). [] ∷ l) e)
also_empty ps qs (inr e) = inr (ap (λ (l : List (List ℕ)). [] ∷ l) e)

splits : (f : ℕ → Bool) (bs : List ℕ) → Split (slice_split f bs) (pieces f bs)
splits f [] = inr refl
splits f (b ∷ []) = elim (f b) as (λ t. Split (cond t ([] ∷ ([] ∷ [])) ((b ∷ []) ∷ [])) (cond t ([] ∷ []) ((b ∷ []) ∷ []))) [ true ↦ inr refl | false ↦ inl refl ]
splits f (b ∷ c ∷ cs) =
    let ih = splits f (c ∷ cs) in
    elim (f b) as (λ t. Split (cond t ([] ∷ slice_split f (c ∷ cs)) (onto_first b (slice_split f (c ∷ cs)))) (cond t ([] ∷ pieces f (c ∷ cs)) (onto b (pieces f (c ∷ cs))))) [
      | true ↦ also_empty _ _ ih
      | false ↦ onto_some b _ _ (pieces_length f c cs) ih
    ]

-- what an empty piece at the end changes nothing of
pub of_split : {X : Type 0} (g : List (List ℕ) → X) → ((ps : List (List ℕ)) → g (ps ++ [] ∷ []) ≡ g ps) → (f : ℕ → Bool) (bs : List ℕ) → g (slice_split f bs) ≡ g (pieces f bs)
of_split g h f bs = either (splits f bs)
  where
    either : Split (slice_split f bs) (pieces f bs) → g (slice_split f bs) ≡ g (pieces f bs)
    either (inl e) = ap g e
    either (inr e) = ap g e ∙ h (pieces f bs)

abbrev some : List ℕ → Bool
some p = not (eqb (length p) 0)

some_end : (ps : List (List ℕ)) → filter some (ps ++ [] ∷ []) ≡ filter some ps
some_end [] = refl
some_end (p ∷ ps) = elim (some p) as (λ t. cond t (p ∷ filter some (ps ++ [] ∷ [])) (filter some (ps ++ [] ∷ [])) ≡ cond t (p ∷ filter some ps) (filter some ps)) [ true ↦ ap (λ (l : List (List ℕ)). p ∷ l) (some_end ps) | false ↦ some_end ps ]

filled_is : (ps : List (List ℕ)) → filter some ps ≡ filled ps
filled_is [] = refl
filled_is ([] ∷ ps) = filled_is ps
filled_is ((b ∷ p) ∷ ps) = grind (arith, common_steps, filled_is ps)

pub words_split : (f : ℕ → Bool) (bs : List ℕ) → filter (λ (p : List ℕ). not (eqb (length p) 0)) (slice_split f bs) ≡ filled (pieces f bs)
words_split f bs = of_split (filter some) some_end f bs ∙ filled_is (pieces f bs)

drop_cons : (b n : ℕ) (bs : List ℕ) → drop (1 + n) (b ∷ bs) ≡ drop n bs
drop_cons b n bs = grind (arith, common_steps)

-- marks in front bound no word
past_marks : (f : ℕ → Bool) (bs : List ℕ) → filled (pieces f (drop (position_or_len (λ b. not (f b)) bs) bs)) ≡ filled (pieces f bs)
past_marks f [] = refl
past_marks f (b ∷ bs) =
    elim (f b) as (λ t. f b ≡ t → filled (pieces f (drop (cond (not (not t)) (1 + prefix_len (λ x. not (not (f x))) bs) 0) (b ∷ bs))) ≡ filled (pieces f (b ∷ bs))) [
      | true ↦ λ e. ap (λ (l : List ℕ). filled (pieces f l)) (drop_cons b (prefix_len (λ x. not (not (f x))) bs) bs) ∙ past_marks f bs ∙ sym (ap filled (cond-true _ _ _ e))
      | false ↦ λ e. refl
    ] refl

-- o is the place that `position` finds for the first byte that is no mark
module _ (f : ℕ → Bool) (bs : List ℕ) (o : Option ℕ) (e : o ≡ cond (ltb (position_or_len (λ b. not (f b)) bs) (length bs)) (Some (position_or_len (λ b. not (f b)) bs)) None) where
  pub marks_alone : o ≡ None → [] ≡ filled (pieces f bs)
  marks_alone none =
      let end : length bs ≤ position_or_len (λ b. not (f b)) bs = grind (arith, nat_tests, sym e ∙ none) in
      ap (λ (l : List ℕ). filled (pieces f l)) (sym (drop_all _ bs end)) ∙ past_marks f bs

  pub past_first : (i : ℕ) → o ≡ Some i → filled (pieces f (drop i bs)) ≡ filled (pieces f bs)
  past_first i some = ap (λ (n : ℕ). filled (pieces f (drop n bs))) (sym (cond_some _ _ _ (sym e ∙ some)).1) ∙ past_marks f bs
