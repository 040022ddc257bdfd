-- Working back keeps the worked entries, and no figure is ever too large. Assumes nothing.
use Rattle.std.proofs.Common.{◌≡◌, ℕ, zero, suc, ◌+◌, ◌-◌, ◌<◌, ◌≤◌, true, false, ◌||◌, leb, List, [], map, length, get_or, Some, None, Option, refl, ap, ◌∙◌, ⊎_elim, arith}
use Rattle.std.specs.List.{range_with_len}
use Rattle.std.proofs.lemmas.Bool.{cases_lt, cond-true, cond-false, le-leb, lt-leb, le-ltb, leb-true, and_parts}
use Rattle.rates.specs.Model.{Model, Lawful}
use Rattle.game.specs.declared.terms.Right.{Right}
use Rattle.game.specs.declared.terms.Terms.{Terms}
use Rattle.game.specs.declared.terms.Kind.TheVariants.{Call, Put}
use Rattle.game.specs.Clash.{Fair}
use Rattle.game.specs.Rule.{figure_of, mark_of, mark_number}
use Rattle.game.specs.Game.{right, stream, pays, amount, redeemed, figure_from, mark_from, figure, mark}
use Rattle.game.specs.Limits.{right_fits, Priced}
use Rattle.game.specs.Stored.{offset, stored, step_row, Worked}
use Rattle.game.specs.Working.{start, found, back_figure, back_mark, back_values, back_marks, over, too_large}
use Rattle.game.proofs.OneNode.{Within, bounded}
use Rattle.game.proofs.Rolls.{roll_same, rolled_small}
use Rattle.game.proofs.Rows.{offset_mono, rewritten_here, rewritten_above}

module _ (m : Model) (σ : ℕ → ℕ → ℕ) (b : Terms) (s : ℕ) where
  -- one step below a row that holds the values g
  pub figure_step : (g : ℕ → ℕ) (d t j : ℕ) (row : List ℕ) → ((i : ℕ) → i < m.count (t + 1) → get_or row i 0 ≡ figure_from m σ b s g d (t + 1) i) → figure_from m σ b s (λ i. get_or row i 0) 1 t j ≡ figure_from m σ b s g (suc d) t j
  figure_step g d t j row h = ap (figure_of σ (amount m b s Put t j) (amount m b s Call t j)) (roll_same m b b s t j (λ i. get_or row i 0) (figure_from m σ b s g d (t + 1)) refl h)

  pub mark_step : (g : ℕ → ℕ) (d t j : ℕ) (row : List ℕ) → ((i : ℕ) → i < m.count (t + 1) → get_or row i 0 ≡ figure_from m σ b s g d (t + 1) i) → mark_from m σ b s (λ i. get_or row i 0) 1 t j ≡ mark_from m σ b s g (suc d) t j
  mark_step g d t j row h = ap (λ c. mark_number (mark_of (amount m b s Put t j) (amount m b s Call t j) c)) (roll_same m b b s t j (λ i. get_or row i 0) (figure_from m σ b s g d (t + 1)) refl h)

  -- figures from entries that are themselves figures
  module _ (g g₀ : ℕ → ℕ) (w e : ℕ) (is : (j : ℕ) → j < m.count w → g j ≡ figure_from m σ b s g₀ e w j) where
    figure_joined : (d t j : ℕ) → t + d ≡ w → j < m.count t → figure_from m σ b s g d t j ≡ figure_from m σ b s g₀ (d + e) t j
    figure_joined zero t j h i =
        let q : w ≡ t = omega arith in
        let z : e ≡ 0 + e = omega arith in
        is j (omega (arith, ap m.count q)) ∙ ap (λ v. figure_from m σ b s g₀ e v j) q ∙ ap (λ v. figure_from m σ b s g₀ v t j) z
    figure_joined (suc d) t j h i =
        let z : suc (d + e) ≡ suc d + e = omega arith in
        ap (figure_of σ (amount m b s Put t j) (amount m b s Call t j)) (roll_same m b b s t j (figure_from m σ b s g d (t + 1)) (figure_from m σ b s g₀ (d + e) (t + 1)) refl (λ k l. figure_joined d (t + 1) k (omega arith) l))
        ∙ ap (λ v. figure_from m σ b s g₀ v t j) z

    mark_joined : (d t j : ℕ) → t + d ≡ w → (d ≡ 0 → e ≡ 0) → mark_from m σ b s g d t j ≡ mark_from m σ b s g₀ (d + e) t j
    mark_joined zero t j h last = let z : 0 ≡ 0 + e = omega (arith, last refl) in ap (λ v. mark_from m σ b s g₀ v t j) z
    mark_joined (suc d) t j h last =
        let z : suc (d + e) ≡ suc d + e = omega arith in
        ap (λ c. mark_number (mark_of (amount m b s Put t j) (amount m b s Call t j) c)) (roll_same m b b s t j (figure_from m σ b s g d (t + 1)) (figure_from m σ b s g₀ (d + e) (t + 1)) refl (λ k l. figure_joined d (t + 1) k (omega arith) l))
        ∙ ap (λ v. mark_from m σ b s g₀ v t j) z

  -- past the last step nothing is found, and work starts at the redemption
  pub found_none : (w : ℕ) (values : List ℕ) (j : ℕ) → m.steps < w → found m b w values j ≡ b.redemption
  found_none w values j h = cond-false (leb w m.steps) (stored m values w j) b.redemption (lt-leb w m.steps h)

  pub found_some : (w : ℕ) (values : List ℕ) (j : ℕ) → w ≤ m.steps → found m b w values j ≡ stored m values w j
  found_some w values j h = cond-true (leb w m.steps) (stored m values w j) b.redemption (le-leb w m.steps h)

  module _ (w : ℕ) (values marks : List ℕ) (done : Worked m σ b s w values marks) where
    found_is : (j : ℕ) → j < m.count (start m w) → found m b w values j ≡ figure_from m σ b s (redeemed b) (m.steps - start m w) (start m w) j
    found_is j i =
        ⊎_elim
        (λ (l : m.steps < w).
        let e : 0 ≡ m.steps - start m w = omega arith in
        found_none w values j l ∙ ap (λ d. figure_from m σ b s (redeemed b) d (start m w) j) e)
        (λ (l : w ≤ m.steps).
        let e : w ≡ start m w = omega arith in
        found_some w values j l
        ∙ done.figures_are w j (omega arith) l (omega (arith, ap m.count e))
        ∙ ap (λ v. figure_from m σ b s (redeemed b) (m.steps - v) v j) e)
        (cases_lt m.steps w)

    pub back_figure_is : (t j : ℕ) → t < w → t ≤ m.steps → j < m.count t → back_figure m σ b s w values t j ≡ figure m σ b s t j
    back_figure_is t j h l i =
        let e : start m w - t + (m.steps - start m w) ≡ m.steps - t = omega arith in
        figure_joined (found m b w values) (redeemed b) (start m w) (m.steps - start m w) found_is (start m w - t) t j (omega arith) i
        ∙ ap (λ d. figure_from m σ b s (redeemed b) d t j) e

    pub back_mark_is : (t j : ℕ) → t < w → t ≤ m.steps → back_mark m σ b s w values t j ≡ mark m σ b s t j
    back_mark_is t j h l =
        let e : start m w - t + (m.steps - start m w) ≡ m.steps - t = omega arith in
        mark_joined (found m b w values) (redeemed b) (start m w) (m.steps - start m w) found_is (start m w - t) t j (omega arith) (λ z. omega arith)
        ∙ ap (λ d. mark_from m σ b s (redeemed b) d t j) e

    -- the n steps below w are worked too
    pub back_keeps : (n : ℕ) → n ≤ w → offset m w ≤ length values → offset m w ≤ length marks → Worked m σ b s (w - n) (back_values m σ b s w n values) (back_marks m σ b s w n values marks)
    back_keeps n few long wide =
        let up : w - n + n ≡ w = omega arith in
        let low = offset_mono m (w - n) w (omega arith) in
        record {
          figures_are = λ t j l g i.
              ⊎_elim
              (λ (h : t < w). rewritten_here m (back_figure m σ b s w values) values n (w - n) t j (omega arith) l (omega arith) i ∙ back_figure_is t j h g i)
              (λ (h : w ≤ t). rewritten_above m (back_figure m σ b s w values) values n (w - n) t j (omega arith) (omega arith) ∙ done.figures_are t j h g i)
              (cases_lt t w);
          marks_are = λ t j l g i.
              ⊎_elim
              (λ (h : t < w). rewritten_here m (back_mark m σ b s w values) marks n (w - n) t j (omega arith) l (omega arith) i ∙ back_mark_is t j h g)
              (λ (h : w ≤ t). rewritten_above m (back_mark m σ b s w values) marks n (w - n) t j (omega arith) (omega arith) ∙ done.marks_are t j h g i)
              (cases_lt t w);
        }

  -- working on from past the last step gives the figures of backward induction
  pub back_from_end : (w : ℕ) (values : List ℕ) (t j : ℕ) → m.steps < w → t ≤ m.steps → j < m.count t → back_figure m σ b s w values t j ≡ figure m σ b s t j
  back_from_end w values t j h l i =
      back_figure_is w values [] (record { figures_are = λ t j l g i. absurd (omega arith); marks_are = λ t j l g i. absurd (omega arith) }) t j (omega arith) l i

-- what a right pays, and so every figure, is at most 650,000,000: a rolled figure is, whatever its row holds
module _ (m : Model) (laws : Lawful m) (σ : ℕ → ℕ → ℕ) (fair : Fair σ) (b : Terms) (s : ℕ) (priced : Priced b) where
  stream_small : (price k t j : ℕ) → price ≤ 10000000 → stream m b s price k t j ≤ 650000000
  stream_small price zero t j h = omega arith
  stream_small price (suc k) t j h = rolled_small m laws t j s _

  pays_small : (t j : ℕ) (r : Option Right) → right_fits t r ≡ true → Within σ fair 650000000 (pays m b s t j r)
  pays_small t j None h = tt
  pays_small t j (Some r) h = stream_small r.price r.notice t j (leb-true r.price 10000000 (and_parts (leb r.price 10000000) _ h).0)

  pub figure_small : (g : ℕ → ℕ) (d t j : ℕ) → figure_from m σ b s g (suc d) t j ≤ 650000000
  figure_small g d t j = bounded σ fair 650000000 (amount m b s Put t j) (amount m b s Call t j) _ (pays_small t j (right b Put t) (priced Put t)) (pays_small t j (right b Call t) (priced Call t)) (rolled_small m laws t j s _)

  pub back_small : (w : ℕ) (values : List ℕ) (t j : ℕ) → b.redemption ≤ 10000000 → t < w → back_figure m σ b s w values t j ≤ 650000000
  back_small w values t j r h =
      ⊎_elim
      (λ (l : t < m.steps).
      let d = start m w - (t + 1) in
      let e : start m w - t ≡ suc d = omega arith in
      omega (arith, ap (λ n. figure_from m σ b s (found m b w values) n t j) e, figure_small (found m b w values) d t j))
      (λ (l : m.steps ≤ t).
      let e : start m w - t ≡ 0 = omega arith in
      omega (arith, ap (λ n. figure_from m σ b s (found m b w values) n t j) e, found_none m σ b s w values j (omega arith)))
      (cases_lt t m.steps)

pub none_over : (f : ℕ → ℕ) (a n : ℕ) → ((j : ℕ) → f j ≤ 650000000) → over (map f (range_with_len a n)) ≡ false
none_over f a zero h = refl
none_over f a (suc n) h = ap (λ x. x || over (map f (range_with_len (a + 1) n))) (le-ltb 650000000 (f a) (h a)) ∙ none_over f (a + 1) n h

-- so no step is too large
pub none_too_large : (m : Model) (f : ℕ → ℕ → ℕ) (n w : ℕ) → n ≤ w → ((t j : ℕ) → t < w → f t j ≤ 650000000) → too_large m f w n ≡ None
none_too_large m f zero w few h = refl
none_too_large m f (suc n) w few h =
    cond-false (over (step_row m f (w - 1))) (Some (w - 1)) (too_large m f (w - 1) n) (none_over (f (w - 1)) 0 (m.count (w - 1)) (λ j. h (w - 1) j (omega arith)))
    ∙ none_too_large m f n (w - 1) (omega arith) (λ t j l. h t j (omega arith))
