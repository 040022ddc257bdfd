-- Working back from the entries that a row holds, whatever they are.
--   start, found   the step that work starts from and its entries: those found at step w, or where w is past the
--                  last step, the redemption at the last
--   back_figure    the figure of a node below w, from these entries; back_mark its mark
--   back_values    the value row after the n steps below w are worked; back_marks the mark row
--   over           some entry is above 650,000,000
--   too_large      the first of the n steps below w, downwards, with a figure above that
-- Assumes nothing.
use Rattle.std.specs.Prelude.{ℕ, zero, suc, ◌-◌, min, Bool, cond, List, Some, None, Option, nat_le, nat_lt}
use Rattle.std.specs.List.{list_any}
use Rattle.rates.specs.Model.{Model}
use Rattle.game.specs.declared.terms.Terms.{Terms}
use Rattle.game.specs.Game.{figure_from, mark_from}
use Rattle.game.specs.Stored.{stored, step_row, rewritten}

abbrev pub start : Model → ℕ → ℕ
start m w = min w m.steps

abbrev pub found : Model → Terms → ℕ → List ℕ → ℕ → ℕ
found m b w values j = cond (nat_le w m.steps) (stored m values w j) b.redemption

abbrev pub back_figure : Model → (ℕ → ℕ → ℕ) → Terms → ℕ → ℕ → List ℕ → ℕ → ℕ → ℕ
back_figure m σ b s w values t j = figure_from m σ b s (found m b w values) (start m w - t) t j

abbrev pub back_mark : Model → (ℕ → ℕ → ℕ) → Terms → ℕ → ℕ → List ℕ → ℕ → ℕ → ℕ
back_mark m σ b s w values t j = mark_from m σ b s (found m b w values) (start m w - t) t j

abbrev pub back_values : Model → (ℕ → ℕ → ℕ) → Terms → ℕ → ℕ → ℕ → List ℕ → List ℕ
back_values m σ b s w n values = rewritten m values (back_figure m σ b s w values) (w - n) n

abbrev pub back_marks : Model → (ℕ → ℕ → ℕ) → Terms → ℕ → ℕ → ℕ → List ℕ → List ℕ → List ℕ
back_marks m σ b s w n values marks = rewritten m marks (back_mark m σ b s w values) (w - n) n

abbrev pub over : List ℕ → Bool
over = list_any (nat_lt 650000000)

abbrev pub too_large : Model → (ℕ → ℕ → ℕ) → ℕ → ℕ → Option ℕ
too_large m figures w zero = None
too_large m figures w (suc n) = cond (over (step_row m figures (w - 1))) (Some (w - 1)) (too_large m figures (w - 1) n)
