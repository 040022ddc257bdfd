-- One step worked from a row that holds the figures of the next. Assumes nothing.
use Rattle.std.proofs.Common.{◌≡◌, ℕ, suc, ◌+◌, ◌-◌, ◌<◌, ◌≤◌, ltb, List, map, length, get_or, take, sym, ap, ◌∙◌, subst, ⊎_elim, arith}
use Rattle.std.specs.List.{range_with_len}
use Rattle.std.proofs.lemmas.Bool.{cases_lt, cond-true, cond-false, lt-ltb, le-ltb}
use Rattle.rates.specs.Model.{Model, Lawful}
use Rattle.game.specs.declared.terms.Terms.{Terms}
use Rattle.game.specs.Game.{figure_from, mark_from}
use Rattle.game.specs.Stored.{stored, step_row}
use Rattle.game.specs.Working.{start, found, back_figure, back_mark}
use Rattle.game.proofs.Rolls.{same_table}
use Rattle.game.proofs.Backward.{figure_step, mark_step, found_none, found_some}
use Rattle.sheet.specs.Steps.{stepped_figure, stepped_mark}
use Rattle.sheet.proofs.Tables.{front}

module _ (m : Model) (σ : ℕ → ℕ → ℕ) (b : Terms) (s w : ℕ) (values : List ℕ) where
  -- the row holds the figures of step t
  abbrev pub Holds : ℕ → List ℕ → Type 0
  Holds t row = (j : ℕ) → j < m.count t → get_or row j 0 ≡ back_figure m σ b s w values t j

  module _ (t u : ℕ) (row : List ℕ) (below : t < w) (up : u ≡ t + 1) (holds_u : Holds u row) where
    holds : Holds (t + 1) row
    holds = subst (λ v. Holds v row) up holds_u

    pub stepped_figure_is : (j : ℕ) → stepped_figure m σ b s t (λ i. get_or row i 0) j ≡ back_figure m σ b s w values t j
    stepped_figure_is j =
        ⊎_elim
        (λ (l : t < m.steps).
        let d = start m w - (t + 1) in
        let e : suc d ≡ start m w - t = omega arith in
        cond-true (ltb t m.steps) _ _ (lt-ltb t m.steps l)
        ∙ figure_step m σ b s (found m b w values) d t j row holds
        ∙ ap (λ k. figure_from m σ b s (found m b w values) k t j) e)
        (λ (l : m.steps ≤ t).
        let e : 0 ≡ start m w - t = omega arith in
        cond-false (ltb t m.steps) _ _ (le-ltb t m.steps l)
        ∙ sym (found_none m σ b s w values j (omega arith))
        ∙ ap (λ k. figure_from m σ b s (found m b w values) k t j) e)
        (cases_lt t m.steps)

    pub stepped_mark_is : (j : ℕ) → stepped_mark m σ b s t (λ i. get_or row i 0) j ≡ back_mark m σ b s w values t j
    stepped_mark_is j =
        ⊎_elim
        (λ (l : t < m.steps).
        let d = start m w - (t + 1) in
        let e : suc d ≡ start m w - t = omega arith in
        cond-true (ltb t m.steps) _ _ (lt-ltb t m.steps l)
        ∙ mark_step m σ b s (found m b w values) d t j row holds
        ∙ ap (λ k. mark_from m σ b s (found m b w values) k t j) e)
        (λ (l : m.steps ≤ t).
        let e : 0 ≡ start m w - t = omega arith in
        cond-false (ltb t m.steps) _ _ (le-ltb t m.steps l)
        ∙ ap (λ k. mark_from m σ b s (found m b w values) k t j) e)
        (cases_lt t m.steps)

  -- the row found at the first worked step
  pub found_holds : Lawful m → (row : List ℕ) → ((j : ℕ) → j < m.count w → get_or row j 0 ≡ stored m values w j) → Holds w row
  found_holds laws row h j i =
      let e : 0 ≡ start m w - w = omega arith in
      ⊎_elim
      (λ (l : m.steps < w). absurd (omega (arith, laws.no_nodes w l)))
      (λ (l : w ≤ m.steps). h j i ∙ sym (found_some m σ b s w values j l) ∙ ap (λ k. figure_from m σ b s (found m b w values) k w j) e)
      (cases_lt m.steps w)

-- the front of a row that is known node by node
pub front_is : (m : Model) (f : ℕ → ℕ → ℕ) (t n : ℕ) (row : List ℕ) → n ≡ m.count t → n ≤ length row → ((j : ℕ) → j < m.count t → get_or row j 0 ≡ f t j) → take n row ≡ step_row m f t
front_is m f t n row e fits h =
    front row n fits
    ∙ ap (λ k. map (λ i. get_or row i 0) (range_with_len 0 k)) e
    ∙ same_table (λ i. get_or row i 0) (f t) 0 (m.count t) (λ i _ l. h i (omega arith))
