-- The spread found by halving is the first one from the top. Assumes nothing.
use Rattle.std.proofs.Common.{◌≡◌, ℕ, zero, suc, ◌<◌, ◌≤◌, max, cond, leb, Some, None, Ok, sym, ap, ◌∙◌, subst, ⊎_elim, arith}
use Rattle.std.proofs.lemmas.Bool.{cases_lt, cond-true, cond-false, le-leb, lt-leb}
use Rattle.rates.specs.Model.{Model}
use Rattle.rates.specs.Refusals.{accepted}
use Rattle.game.specs.declared.terms.Terms.{Terms}
use Rattle.game.specs.Game.{root}
use Rattle.game.proofs.Alike.{respread_keeps}
use Rattle.sheet.specs.declared.state.State.{State}
use Rattle.sheet.specs.declared.fault.SheetFault.TheVariants.{Wanted}
use Rattle.sheet.specs.Faults.{answer, unless}
use Rattle.sheet.specs.Edits.{amount_fault, else_fault}
use Rattle.sheet.specs.Fits.{greatest, fit_fault, fitted, Greatest}
use Rattle.sheet.specs.Promises.{Fitted}
use Rattle.sheet.proofs.Admitting.{spread_admitted}

module _ (m : Model) (σ : ℕ → ℕ → ℕ) (b : Terms) (want : ℕ) where
  -- counted down from n
  counted : (n r : ℕ) → r ≤ n → want ≤ root m σ b r → ((s : ℕ) → r < s → s ≤ n → root m σ b s < want) → greatest m σ b want n ≡ r
  unfolding greatest
  counted zero r le enough none = omega arith
  counted (suc n) r le enough none =
      ⊎_elim
      (λ (l : r < suc n). cond-false (leb want (root m σ b (suc n))) (suc n) (greatest m σ b want n) (lt-leb want (root m σ b (suc n)) (none (suc n) l (omega arith))) ∙ counted n r (omega arith) enough (λ s h g. none s h (omega arith)))
      (λ (l : suc n ≤ r).
      let e : r ≡ suc n = omega arith in
      cond-true (leb want (root m σ b (suc n))) (suc n) (greatest m σ b want n) (le-leb want (root m σ b (suc n)) (subst (λ k. want ≤ root m σ b k) e enough)) ∙ sym e)
      (cases_lt r (suc n))

  pub greatest_is : (r : ℕ) → Greatest m σ b want r → greatest m σ b want 200000 ≡ r
  greatest_is r g = counted 200000 r g.allowed g.enough g.none_greater

module _ (m : Model) (σ : ℕ → ℕ → ℕ) (want : ℕ) (s : State) where
  -- the greatest spread is put in force
  pub fit_made : (spread w : ℕ) → Greatest m σ s.terms want spread → w ≡ max s.first m.steps → amount_fault 0 want ≡ None → want ≤ root m σ s.terms 0 → Fitted m σ want s (Ok spread) (record { terms = s.terms; spread = spread; first = w })
  fit_made spread w g ew small reached =
      let none : fit_fault m σ s want ≡ None = ap (λ o. else_fault o (cond (leb want (root m σ s.terms 0)) None (Some Wanted))) small ∙ cond-true (leb want (root m σ s.terms 0)) None (Some Wanted) (le-leb want (root m σ s.terms 0) reached) in
      let e : spread ≡ greatest m σ s.terms want 200000 = sym (greatest_is m σ s.terms want spread g) in
      record {
        answers = ap accepted e ∙ ap (λ o. answer o (greatest m σ s.terms want 200000)) (sym none);
        leaves = ap (λ x. record { terms = s.terms; spread = x; first = w }) e ∙ ap (λ x. record { terms = s.terms; spread = greatest m σ s.terms want 200000; first = x }) ew ∙ ap (λ o. unless o (fitted m σ s want) s) (sym none);
        is_greatest = λ _. subst (Greatest m σ s.terms want) e g;
        keeps = λ values marks st.
            let early = st.early in
            record { early = omega arith; worked = respread_keeps m σ s.spread spread s.first w s.terms values marks (omega arith) (omega arith) st.worked };
        admits = spread_admitted m.steps s.terms s.spread spread g.allowed;
      }
