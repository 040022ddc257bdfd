-- The root figure and the costs keep their promises. Assumes nothing.
use Rattle.std.proofs.Common.{◌≡◌, ℕ, ◌-◌, cond, leb, List, length, Some, None, refl, ap, ◌∙◌, arith}
use Rattle.std.proofs.lemmas.Bool.{leb-true}
use Rattle.game.specs.Stored.{all_nodes}
use Rattle.sheet.specs.declared.fault.SheetFault.TheVariants.{Rows, Unworked}
use Rattle.sheet.specs.Prices.{strike_fault, struck}
use Rattle.sheet.specs.Shared.{Standing}
use Rattle.sheet.proofs.Validity.{passed}
use Rattle.rates.specs.Model.{Model, Lawful}
use Rattle.game.specs.declared.terms.Terms.{Terms}
use Rattle.game.specs.declared.terms.Kind.{Kind}
use Rattle.game.specs.declared.terms.Kind.TheVariants.{Call, Put}
use Rattle.game.specs.Clash.{Fair}
use Rattle.game.specs.Game.{figure, mark, root, without}
use Rattle.game.specs.Limits.{right_fits, Priced}
use Rattle.game.proofs.Best.{best_play}
use Rattle.game.proofs.Comparing.{all_same, falls_with_spread, calls_cost, puts_worth}
use Rattle.sheet.specs.declared.state.State.{State}
use Rattle.sheet.specs.Calls.{costs}
use Rattle.sheet.specs.Promises.{RootFigure, Costed}

-- terms without the rights of a kind are within their limits
pub without_priced : (kind : Kind) (b : Terms) → Priced b → Priced (without kind b)
without_priced Call b p Call t = ap (right_fits t) (all_same 64 None t)
without_priced Call b p Put t = p Put t
without_priced Put b p Call t = p Call t
without_priced Put b p Put t = ap (right_fits t) (all_same 64 None t)

module _ (m : Model) (laws : Lawful m) (σ : ℕ → ℕ → ℕ) (fair : Fair σ) (s : State) where
  pub root_is : (r : ℕ) → r ≡ root m σ s.terms s.spread → RootFigure m σ s r
  root_is r e = record {
    value = e;
    best = λ t j h i. best_play m laws σ fair s.terms s.spread 0 (figure m σ s.terms s.spread) (mark m σ s.terms s.spread) (λ t j _ _ _. refl) (λ t j _ _ _. refl) t j (omega arith) h i;
    falls = λ spread h. let f = falls_with_spread m laws σ fair s.terms s.spread spread h in omega arith;
  }

  pub costs_are : (free root' bound : ℕ) → free ≡ root m σ (without Call s.terms) s.spread → root' ≡ root m σ s.terms s.spread → bound ≡ root m σ (without Put s.terms) s.spread → Costed m σ s (record { call = free - root'; put = root' - bound })
  costs_are free root' bound a b c =
      let x = calls_cost m laws σ fair s.terms s.spread in
      let y = puts_worth m laws σ fair s.terms s.spread in
      let call : free - root' ≡ root m σ (without Call s.terms) s.spread - root m σ s.terms s.spread = omega arith in
      let put : root' - bound ≡ root m σ s.terms s.spread - root m σ (without Put s.terms) s.spread = omega arith in
      record {
        value = ap (λ i. record { call = i; put = root' - bound }) call ∙ ap (λ i. record { call = (costs m σ s).call; put = i }) put;
        calls_cost = omega arith;
        puts_worth = omega arith;
      }

-- what is struck from a worked root is the root figure
pub struck_root : {m : Model} → Lawful m → (σ : ℕ → ℕ → ℕ) (s : State) (values marks : List ℕ) → Standing m σ s values marks → strike_fault m s values ≡ None → (struck m s values).figure ≡ root m σ s.terms s.spread
struck_root {m} laws σ s values marks st none =
    let p = passed (leb (all_nodes m) (length values)) (cond (leb s.first 0) None (Some (Unworked 0))) (Rows (all_nodes m)) none in
    let w = leb-true s.first 0 (passed (leb s.first 0) None (Unworked 0) p.1).0 in
    let one = laws.one_root in
    st.worked.figures_are 0 0 w (omega arith) (omega arith)
