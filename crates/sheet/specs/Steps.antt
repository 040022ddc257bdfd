-- One step worked from the entries g of the next one.
--   paid             the amount that stands at place j of a row of amounts, where there is a right
--   stepped_figure   the figure of node j of step t: below the last step by the rule, at it the redemption
--   stepped_mark     its mark
-- Assumes nothing.
use Rattle.std.specs.Prelude.{ℕ, cond, List, Some, None, Option, nat_lt, slice_index}
use Rattle.rates.specs.Model.{Model}
use Rattle.game.specs.declared.terms.Terms.{Terms}
use Rattle.game.specs.Game.{figure_from, mark_from}

abbrev pub paid : Option (List ℕ) → ℕ → Option ℕ
paid None j = None
paid (Some row) j = Some (slice_index row j)

abbrev pub stepped_figure : Model → (ℕ → ℕ → ℕ) → Terms → ℕ → ℕ → (ℕ → ℕ) → ℕ → ℕ
stepped_figure m σ b s t g j = cond (nat_lt t m.steps) (figure_from m σ b s g 1 t j) b.redemption

abbrev pub stepped_mark : Model → (ℕ → ℕ → ℕ) → Terms → ℕ → ℕ → (ℕ → ℕ) → ℕ → ℕ
stepped_mark m σ b s t g j = cond (nat_lt t m.steps) (mark_from m σ b s g 1 t j) 0
