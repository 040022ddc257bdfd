-- Figures and marks depend on nothing below their step. Assumes nothing.
use Rattle.std.proofs.Common.{◌≡◌, ℕ, zero, suc, ◌+◌, ◌-◌, ◌<◌, ◌≤◌, Some, None, Option, sym, refl, ap, ◌∙◌, arith}
use Rattle.rates.specs.Model.{Model}
use Rattle.game.specs.declared.terms.Right.{Right}
use Rattle.game.specs.declared.terms.Terms.{Terms}
use Rattle.game.specs.declared.terms.Kind.{Kind}
use Rattle.game.specs.declared.terms.Kind.TheVariants.{Call, Put}
use Rattle.game.specs.Game.{coupon, right, stream, pays, amount, redeemed, figure_from, mark_from}
use Rattle.game.specs.Stored.{Worked}
use Rattle.game.proofs.Rolls.{roll_same}

-- terms that are the same from step w on
pub record Alike (w : ℕ) (b b' : Terms) : Type 0 where
  pub redemption : b.redemption ≡ b'.redemption
  pub coupons : (t : ℕ) → w < t → coupon b t ≡ coupon b' t
  pub rights : (kind : Kind) (t : ℕ) → w ≤ t → right b kind t ≡ right b' kind t

module _ (m : Model) (σ : ℕ → ℕ → ℕ) (s w : ℕ) (b b' : Terms) (alike : Alike w b b') where
  stream_same : (price k t j : ℕ) → w ≤ t → stream m b s price k t j ≡ stream m b' s price k t j
  stream_same price zero t j h = refl
  stream_same price (suc k) t j h = roll_same m b b' s t j _ _ (alike.coupons (t + 1) (omega arith)) (λ i _. stream_same price k (t + 1) i (omega arith))

  pays_same : (t j : ℕ) (r : Option Right) → w ≤ t → pays m b s t j r ≡ pays m b' s t j r
  pays_same t j None h = refl
  pays_same t j (Some r) h = ap (λ (x : ℕ). Some x) (stream_same r.price r.notice t j h)

  amount_same : (kind : Kind) (t j : ℕ) → w ≤ t → amount m b s kind t j ≡ amount m b' s kind t j
  amount_same kind t j h = pays_same t j (right b kind t) h ∙ ap (pays m b' s t j) (alike.rights kind t h)

  figure_alike : (d t j : ℕ) → w ≤ t → figure_from m σ b s (redeemed b) d t j ≡ figure_from m σ b' s (redeemed b') d t j
  figure_alike zero t j h = alike.redemption
  figure_alike (suc d) t j h =
      let r = roll_same m b b' s t j _ _ (alike.coupons (t + 1) (omega arith)) (λ i _. figure_alike d (t + 1) i (omega arith)) in
      let p = amount_same Put t j h in
      let c = amount_same Call t j h in
      cc

  mark_alike : (d t j : ℕ) → w ≤ t → mark_from m σ b s (redeemed b) d t j ≡ mark_from m σ b' s (redeemed b') d t j
  mark_alike zero t j h = refl
  mark_alike (suc d) t j h =
      let r = roll_same m b b' s t j _ _ (alike.coupons (t + 1) (omega arith)) (λ i _. figure_alike d (t + 1) i (omega arith)) in
      let p = amount_same Put t j h in
      let c = amount_same Call t j h in
      cc

-- an edit of the terms keeps the worked entries, if it makes nothing worked and no step from w' on sees it
pub edit_keeps : (m : Model) (σ : ℕ → ℕ → ℕ) (s w w' : ℕ) (b b' : Terms) (values marks : _) → w ≤ w' → Alike w' b b' → Worked m σ b s w values marks → Worked m σ b' s w' values marks
edit_keeps m σ s w w' b b' values marks h alike done = record {
  figures_are = λ t j l g i. done.figures_are t j (omega arith) g i ∙ figure_alike m σ s w' b b' alike (m.steps - t) t j l;
  marks_are = λ t j l g i. done.marks_are t j (omega arith) g i ∙ mark_alike m σ s w' b b' alike (m.steps - t) t j l;
}

-- at the last step the spread does not count
pub respread_keeps : (m : Model) (σ : ℕ → ℕ → ℕ) (s s' w w' : ℕ) (b : Terms) (values marks : _) → w ≤ w' → m.steps ≤ w' → Worked m σ b s w values marks → Worked m σ b s' w' values marks
respread_keeps m σ s s' w w' b values marks h last done = record {
  figures_are = λ t j l g i.
      let e : m.steps - t ≡ 0 = omega arith in
      done.figures_are t j (omega arith) g i ∙ ap (λ d. figure_from m σ b s (redeemed b) d t j) e ∙ sym (ap (λ d. figure_from m σ b s' (redeemed b) d t j) e);
  marks_are = λ t j l g i.
      let e : m.steps - t ≡ 0 = omega arith in
      done.marks_are t j (omega arith) g i ∙ ap (λ d. mark_from m σ b s (redeemed b) d t j) e ∙ sym (ap (λ d. mark_from m σ b s' (redeemed b) d t j) e);
}

-- nothing is worked past the last step
pub none_worked : (m : Model) (σ : ℕ → ℕ → ℕ) (b : Terms) (s w : ℕ) (values marks : _) → m.steps < w → Worked m σ b s w values marks
none_worked m σ b s w values marks h = record {
  figures_are = λ t j l g i. absurd (omega arith);
  marks_are = λ t j l g i. absurd (omega arith);
}
