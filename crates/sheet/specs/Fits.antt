-- The greatest spread at which the root figure still reaches a wanted price.
--   greatest    the first spread from n downwards whose root figure is at least the wanted price, or 0
--   fit_fault   why a fit is refused: the wanted price, then a root figure at spread 0 that is below it
--   fitted      the state after it: as after an edit of the spread
--   Greatest    what makes a spread the greatest one
-- Assumes nothing.
use Rattle.std.specs.Prelude.{ℕ, zero, suc, ◌<◌, ◌≤◌, max, cond, Some, None, Option, nat_le}
use Rattle.rates.specs.Model.{Model}
use Rattle.game.specs.declared.terms.Terms.{Terms}
use Rattle.game.specs.Game.{root}
use Rattle.sheet.specs.declared.state.State.{State}
use Rattle.sheet.specs.declared.fault.SheetFault.{SheetFault}
use Rattle.sheet.specs.declared.fault.SheetFault.TheVariants.{Wanted}
use Rattle.sheet.specs.Edits.{amount_fault, else_fault}

unfoldable pub greatest : Model → (ℕ → ℕ → ℕ) → Terms → ℕ → ℕ → ℕ
greatest m σ b want zero = 0
greatest m σ b want (suc n) = cond (nat_le want (root m σ b (suc n))) (suc n) (greatest m σ b want n)

abbrev pub fit_fault : Model → (ℕ → ℕ → ℕ) → State → ℕ → Option SheetFault
fit_fault m σ s want = else_fault (amount_fault 0 want) (cond (nat_le want (root m σ s.terms 0)) None (Some Wanted))

abbrev pub fitted : Model → (ℕ → ℕ → ℕ) → State → ℕ → State
fitted m σ s want = record { terms = s.terms; spread = greatest m σ s.terms want 200000; first = max s.first m.steps }

pub record Greatest (m : Model) (σ : ℕ → ℕ → ℕ) (b : Terms) (want spread : ℕ) : Type 0 where
  pub allowed : spread ≤ 200000
  pub enough : want ≤ root m σ b spread
  pub none_greater : (s : ℕ) → spread < s → s ≤ 200000 → root m σ b s < want
