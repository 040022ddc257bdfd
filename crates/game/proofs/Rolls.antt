-- What the laws of a lattice say of a row that is made from a function of the node. Assumes nothing.
use Rattle.std.proofs.Common.{◌≡◌, ℕ, zero, suc, ◌+◌, ◌<◌, ◌≤◌, List, map, length, get_or, sym, refl, ap, ◌∙◌, le_trans, arith}
use Rattle.std.specs.List.{range_with_len}
use Rattle.std.proofs.lemmas.List.FromFn.{length-map-range_with_len, get_or-map-range_with_len}
use Rattle.std.proofs.lemmas.List.{length-map, get_or-map}
use Rattle.rates.specs.Model.{Model, Lawful, Under, capped}
use Rattle.game.specs.declared.terms.Terms.{Terms}
use Rattle.game.specs.Game.{coupon, rolled_on}

-- tables that are alike at each place are the same list
pub same_table : {X : Type 0} (f g : ℕ → X) (a n : ℕ) → ((i : ℕ) → a ≤ i → i < a + n → f i ≡ g i) → map f (range_with_len a n) ≡ map g (range_with_len a n)
same_table f g a zero h = refl
same_table f g a (suc n) h =
    let x = h a (omega arith) (omega arith) in
    let xs = same_table f g (a + 1) n (λ i l w. h i (omega arith) (omega arith)) in
    cc

under_table : (F G : ℕ → ℕ) (n : ℕ) → ((i : ℕ) → i < n → F i ≤ G i) → Under (map F (range_with_len 0 n)) (map G (range_with_len 0 n))
under_table F G n h =
    let l_f : length (map F (range_with_len 0 n)) ≡ n = length-map-range_with_len F 0 n in
    let l_g : length (map G (range_with_len 0 n)) ≡ n = length-map-range_with_len G 0 n in (
      l_f ∙ sym l_g,
      λ i w.
          let w' : i < n = omega arith in
          let x : get_or (map F (range_with_len 0 n)) i 0 ≡ F i = get_or-map-range_with_len F 0 n i i 0 w' (omega arith) in
          let y : get_or (map G (range_with_len 0 n)) i 0 ≡ G i = get_or-map-range_with_len G 0 n i i 0 w' (omega arith) in
          let e = h i w' in
          omega arith,
    )

module _ (m : Model) where
  pub roll_same : (b b' : Terms) (s t j : ℕ) (f g : ℕ → ℕ) → coupon b (t + 1) ≡ coupon b' (t + 1) → ((i : ℕ) → i < m.count (t + 1) → f i ≡ g i) → rolled_on m b s t j f ≡ rolled_on m b' s t j g
  roll_same b b' s t j f g c h =
      ap (m.rolled t j s) (same_table (λ i. f i + coupon b (t + 1)) (λ i. g i + coupon b' (t + 1)) 0 (m.count (t + 1)) (λ i _ w. let e = h i (omega arith) in omega arith))

  module _ (laws : Lawful m) where
    pub roll_under : (b b' : Terms) (s s' t j : ℕ) (f g : ℕ → ℕ) → s' ≤ s → coupon b (t + 1) ≤ coupon b' (t + 1) → ((i : ℕ) → i < m.count (t + 1) → f i ≤ g i) → rolled_on m b s t j f ≤ rolled_on m b' s' t j g
    roll_under b b' s s' t j f g a c h =
        le_trans (laws.raised t j s _ _ (under_table (λ i. f i + coupon b (t + 1)) (λ i. g i + coupon b' (t + 1)) (m.count (t + 1)) (λ i w. let e = h i w in omega arith))) (laws.lowered t j s' s _ a)

    -- whatever the row holds
    pub rolled_small : (t j s : ℕ) (xs : List ℕ) → m.rolled t j s xs ≤ 650000000
    rolled_small t j s xs =
        let e = laws.caps t j s xs in
        let h = laws.within t j s 650000000 (map capped xs) (λ k w. let l = length-map xs capped in let g = get_or-map capped xs k 0 0 (omega arith) in omega arith) in
        omega arith
