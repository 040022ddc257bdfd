-- No plan beats the marks. Assumes nothing.
use Rattle.std.proofs.Common.{◌≡◌, ℕ, zero, suc, ◌+◌, ◌-◌, ◌<◌, ◌≤◌, Bool, ap, ◌∙◌, le_refl, arith}
use Rattle.rates.specs.Model.{Model, Lawful}
use Rattle.game.specs.declared.terms.Terms.{Terms}
use Rattle.game.specs.declared.terms.Kind.TheVariants.{Call, Put}
use Rattle.game.specs.Clash.{Fair}
use Rattle.game.specs.Rule.{calls, puts}
use Rattle.game.specs.Game.{Plan, amount, redeemed, figure_from, mark_from, figure, mark, played_from, played}
use Rattle.game.specs.Plays.{issuer, holder, BestPlay}
use Rattle.game.proofs.OneNode.{held, kept}
use Rattle.game.proofs.Rolls.{roll_under}

module _ (m : Model) (laws : Lawful m) (σ : ℕ → ℕ → ℕ) (fair : Fair σ) (b : Terms) (s : ℕ) where
  -- the plan r has the nodes whose marks pass the test, at the steps from w on
  abbrev Follows : ℕ → (ℕ → Bool) → Plan → Type 0
  Follows w test r = (t j : ℕ) → w ≤ t → t ≤ m.steps → j < m.count t → r t j ≡ test (mark m σ b s t j)

  followed : (w : ℕ) (test : ℕ → Bool) (r : Plan) → Follows w test r → (d t j : ℕ) → w ≤ t → t + d ≡ m.steps → j < m.count t → r t j ≡ test (mark_from m σ b s (redeemed b) d t j)
  followed w test r f d t j h e i =
      let k : m.steps - t ≡ d = omega arith in
      f t j h (omega arith) i ∙ ap (λ (n : ℕ). test (mark_from m σ b s (redeemed b) n t j)) k

  above : (w : ℕ) (p q : Plan) → Follows w puts q → (d t j : ℕ) → w ≤ t → t + d ≡ m.steps → j < m.count t → figure_from m σ b s (redeemed b) d t j ≤ played_from m σ b s p q d t j
  above w p q f zero t j h e i = le_refl _
  above w p q f (suc d) t j h e i =
      let on = roll_under m laws b b s s t j _ _ (le_refl _) (le_refl _) (λ k l. above w p q f d (t + 1) k (omega arith) (omega arith) l) in
      rw (followed w puts q f (suc d) t j h e i) (held σ fair (amount m b s Put t j) (amount m b s Call t j) (p t j) _ _ on)

  below : (w : ℕ) (p q : Plan) → Follows w calls p → (d t j : ℕ) → w ≤ t → t + d ≡ m.steps → j < m.count t → played_from m σ b s p q d t j ≤ figure_from m σ b s (redeemed b) d t j
  below w p q f zero t j h e i = le_refl _
  below w p q f (suc d) t j h e i =
      let on = roll_under m laws b b s s t j _ _ (le_refl _) (le_refl _) (λ k l. below w p q f d (t + 1) k (omega arith) (omega arith) l) in
      rw (followed w calls p f (suc d) t j h e i) (kept σ fair (amount m b s Put t j) (amount m b s Call t j) (q t j) _ _ on)

  -- figures and marks that are those of backward induction from step w on are best play there
  pub best_play : (w : ℕ) (figures marks : ℕ → ℕ → ℕ) →
      ((t j : ℕ) → w ≤ t → t ≤ m.steps → j < m.count t → figures t j ≡ figure m σ b s t j) →
      ((t j : ℕ) → w ≤ t → t ≤ m.steps → j < m.count t → marks t j ≡ mark m σ b s t j) →
      (t j : ℕ) → w ≤ t → t ≤ m.steps → j < m.count t → BestPlay m σ b s figures marks t j
  best_play w figures marks is-figure is-mark t j h g i =
      let e : t + (m.steps - t) ≡ m.steps = omega arith in
      let is = is-figure t j h g i in
      let up : (p : Plan) → figure m σ b s t j ≤ played m σ b s p (holder marks) t j =
      λ p. above w p (holder marks) (λ t j h g i. ap puts (is-mark t j h g i)) (m.steps - t) t j h e i in
      let down : (q : Plan) → played m σ b s (issuer marks) q t j ≤ figure m σ b s t j =
      λ q. below w (issuer marks) q (λ t j h g i. ap calls (is-mark t j h g i)) (m.steps - t) t j h e i in
      let u = up (issuer marks) in
      let d = down (holder marks) in
      record {
        marks_meet = omega arith;
        no_call_plan_lowers = λ p. let a = up p in omega arith;
        no_put_plan_raises = λ q. let a = down q in omega arith;
      }
