-- What the calls of a sheet promise.
--   Edited        an edit: its answer, the state that it leaves, that worked entries stay worked, and that terms and a
--                 spread such as the edits accept stay such
--   Adopted       the same of a draft put in force, whose own terms and spread are such
--   WorkedBack    the same of working back, with its rows
--   RootFigure    the figure of node 0 of step 0, as a value of best play
--   Costed        the costs at the root, which are never below 0
--   Fitted        a fit: the same as an edit, and that its spread is the greatest one
-- Assumes nothing.
use Rattle.std.specs.Prelude.{◌≡◌, ℕ, ◌+◌, ◌-◌, ◌<◌, ◌≤◌, List, None, Result}
use Rattle.rates.specs.Model.{Model}
use Rattle.rates.specs.Refusals.{told}
use Rattle.game.specs.declared.terms.Kind.TheVariants.{Call, Put}
use Rattle.game.specs.Game.{figure, mark, root, without}
use Rattle.game.specs.Plays.{BestPlay}
use Rattle.sheet.specs.declared.answer.Costs.{Costs}
use Rattle.sheet.specs.declared.state.State.{State}
use Rattle.sheet.specs.declared.edit.Edit.{Edit}
use Rattle.sheet.specs.declared.fault.SheetFault.{SheetFault}
use Rattle.sheet.specs.Faults.{sheet_refusal, answer, unless}
use Rattle.sheet.specs.Edits.{edited, edit_fault}
use Rattle.sheet.specs.Admits.{Admitted}
use Rattle.sheet.specs.Calls.{adopt_fault, back_fault, worked_back, values_after, marks_after, costs}
use Rattle.sheet.specs.Fits.{greatest, fit_fault, fitted, Greatest}
use Rattle.sheet.specs.Shared.{Standing, BestStored}

pub record Edited (m : Model) (σ : ℕ → ℕ → ℕ) (e : Edit) (before : State) (r : Result ℕ SheetFault) (after : State) : Type 0 where
  pub answers : told sheet_refusal r ≡ answer (edit_fault m.steps before e) (edited m.steps before e).first
  pub leaves : after ≡ unless (edit_fault m.steps before e) (edited m.steps before e) before
  pub keeps : (values marks : List ℕ) → Standing m σ before values marks → Standing m σ after values marks
  pub admits : Admitted m.steps before.terms before.spread → Admitted m.steps after.terms after.spread

-- a draft of n steps, whose state is s
pub record Adopted (m : Model) (σ : ℕ → ℕ → ℕ) (n : ℕ) (s before : State) (r : Result ℕ SheetFault) (after : State) : Type 0 where
  pub answers : told sheet_refusal r ≡ answer (adopt_fault m n) s.first
  pub leaves : after ≡ unless (adopt_fault m n) s before
  pub keeps : (values marks : List ℕ) → Standing m σ before values marks → Standing m σ after values marks
  pub accepted : adopt_fault m n ≡ None → Admitted m.steps after.terms after.spread
  pub admits : Admitted m.steps before.terms before.spread → Admitted m.steps after.terms after.spread

-- working back: its answer, the state, the value row and the mark row that it leaves, and that worked entries stay worked
pub record WorkedBack (m : Model) (σ : ℕ → ℕ → ℕ) (n : ℕ) (before : State) (values marks : List ℕ) (r : Result ℕ SheetFault) (after : State) (values' marks' : List ℕ) : Type 0 where
  pub answers : told sheet_refusal r ≡ answer (back_fault m σ before n values marks) (before.first - n)
  pub leaves : after ≡ unless (back_fault m σ before n values marks) (worked_back before n) before
  pub values_are : values' ≡ unless (back_fault m σ before n values marks) (values_after m σ before n values) values
  pub marks_are : marks' ≡ unless (back_fault m σ before n values marks) (marks_after m σ before n values marks) marks
  pub keeps : Standing m σ before values marks → Standing m σ after values' marks'
  pub best : Standing m σ before values marks → BestStored m σ after values' marks'

-- the root figure: no plan beats its marks, at the root or at any other node, and a greater spread never raises it
pub record RootFigure (m : Model) (σ : ℕ → ℕ → ℕ) (s : State) (r : ℕ) : Type 0 where
  pub value : r ≡ root m σ s.terms s.spread
  pub best : (t j : ℕ) → t ≤ m.steps → j < m.count t → BestPlay m σ s.terms s.spread (figure m σ s.terms s.spread) (mark m σ s.terms s.spread) t j
  pub falls : (spread : ℕ) → s.spread ≤ spread → root m σ s.terms spread ≤ r

-- the costs: without calls the root figure is never lower, without puts never higher
pub record Costed (m : Model) (σ : ℕ → ℕ → ℕ) (s : State) (r : Costs) : Type 0 where
  pub value : r ≡ costs m σ s
  pub calls_cost : root m σ s.terms s.spread + r.call ≡ root m σ (without Call s.terms) s.spread
  pub puts_worth : root m σ (without Put s.terms) s.spread + r.put ≡ root m σ s.terms s.spread

pub record Fitted (m : Model) (σ : ℕ → ℕ → ℕ) (want : ℕ) (before : State) (r : Result ℕ SheetFault) (after : State) : Type 0 where
  pub answers : told sheet_refusal r ≡ answer (fit_fault m σ before want) (greatest m σ before.terms want 200000)
  pub leaves : after ≡ unless (fit_fault m σ before want) (fitted m σ before want) before
  pub is_greatest : fit_fault m σ before want ≡ None → Greatest m σ before.terms want (greatest m σ before.terms want 200000)
  pub keeps : (values marks : List ℕ) → Standing m σ before values marks → Standing m σ after values marks
  pub admits : Admitted m.steps before.terms before.spread → Admitted m.steps after.terms after.spread
