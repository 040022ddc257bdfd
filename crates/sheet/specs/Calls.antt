-- The calls of a sheet that use its rows, and its costs. m is the lattice, σ the clash rule, s the state.
--   rows_fault   value rows or mark rows with too few entries
--   back_fault   why working back is refused: short rows, then a step with a figure that is too large
--   steps_back   how many steps are worked: those asked for, or all that are left
--   worked_back  the state after it
--   entry        the stored figure and mark of a node; read_fault why it is not answered
--   adopt_fault  a draft that was made for another number of steps
--   costs        what the calls cost the holder, and what the puts are worth to him, at the root
-- Assumes nothing.
use Rattle.std.specs.Prelude.{ℕ, ◌-◌, min, cond, ◌&&◌, List, length, Some, None, Option, ◌==◌, nat_le, nat_lt}
use Rattle.rates.specs.Model.{Model}
use Rattle.game.specs.declared.terms.Kind.TheVariants.{Call, Put}
use Rattle.game.specs.Game.{root, without}
use Rattle.game.specs.Stored.{all_nodes, stored}
use Rattle.game.specs.Working.{back_figure, back_values, back_marks, too_large}
use Rattle.sheet.specs.declared.state.State.{State}
use Rattle.sheet.specs.declared.answer.Entry.{Entry}
use Rattle.sheet.specs.declared.answer.Costs.{Costs}
use Rattle.sheet.specs.declared.fault.SheetFault.{SheetFault}
use Rattle.sheet.specs.declared.fault.SheetFault.TheVariants.{Step, Rows, Unworked, NoNode, TooLarge}
use Rattle.sheet.specs.Edits.{else_fault}

abbrev pub rows_fault : Model → List ℕ → List ℕ → Option SheetFault
rows_fault m values marks = cond (nat_le (all_nodes m) (length values) && nat_le (all_nodes m) (length marks)) None (Some (Rows (all_nodes m)))

abbrev pub steps_back : State → ℕ → ℕ
steps_back s n = min n s.first

abbrev pub large_fault : Option ℕ → Option SheetFault
large_fault None = None
large_fault (Some t) = Some (TooLarge t)

abbrev pub back_fault : Model → (ℕ → ℕ → ℕ) → State → ℕ → List ℕ → List ℕ → Option SheetFault
back_fault m σ s n values marks =
    else_fault (rows_fault m values marks)
    (large_fault (too_large m (back_figure m σ s.terms s.spread s.first values) s.first (steps_back s n)))

abbrev pub worked_back : State → ℕ → State
worked_back s n = record { terms = s.terms; spread = s.spread; first = s.first - n }

abbrev pub values_after : Model → (ℕ → ℕ → ℕ) → State → ℕ → List ℕ → List ℕ
values_after m σ s n values = back_values m σ s.terms s.spread s.first (steps_back s n) values

abbrev pub marks_after : Model → (ℕ → ℕ → ℕ) → State → ℕ → List ℕ → List ℕ → List ℕ
marks_after m σ s n values marks = back_marks m σ s.terms s.spread s.first (steps_back s n) values marks

abbrev pub entry : Model → List ℕ → List ℕ → ℕ → ℕ → Entry
entry m values marks t j = record { figure = stored m values t j; mark = stored m marks t j }

abbrev pub read_fault : Model → State → List ℕ → List ℕ → ℕ → ℕ → Option SheetFault
read_fault m s values marks t j =
    cond (nat_le t m.steps)
    (else_fault (rows_fault m values marks) (cond (nat_le s.first t) (cond (nat_lt j (m.count t)) None (Some (NoNode j))) (Some (Unworked t))))
    (Some (Step t))

-- n is the number of steps of the draft
abbrev pub adopt_fault : Model → ℕ → Option SheetFault
adopt_fault m n = cond (n == m.steps) None (Some (Step n))

abbrev pub costs : Model → (ℕ → ℕ → ℕ) → State → Costs
costs m σ s = record {
  call = root m σ (without Call s.terms) s.spread - root m σ s.terms s.spread;
  put = root m σ s.terms s.spread - root m σ (without Put s.terms) s.spread;
}
