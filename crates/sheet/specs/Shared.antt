-- A sheet and the rows that are handed on with it.
--   Standing     the first worked step is at most one past the last, and the entries from it on are the figures and
--                marks of the terms and spread in force
--   BestStored   at every worked node the stored figure and the stored marks are best play
-- Assumes nothing.
use Rattle.std.specs.Prelude.{ℕ, ◌+◌, ◌<◌, ◌≤◌, List}
use Rattle.rates.specs.Model.{Model}
use Rattle.game.specs.Plays.{BestPlay}
use Rattle.game.specs.Stored.{stored, Worked}
use Rattle.sheet.specs.declared.state.State.{State}

pub record Standing (m : Model) (σ : ℕ → ℕ → ℕ) (s : State) (values marks : List ℕ) : Type 0 where
  pub early : s.first ≤ m.steps + 1
  pub worked : Worked m σ s.terms s.spread s.first values marks

abbrev pub BestStored : Model → (ℕ → ℕ → ℕ) → State → List ℕ → List ℕ → Type 0
BestStored m σ s values marks =
    (t j : ℕ) → s.first ≤ t → t ≤ m.steps → j < m.count t → BestPlay m σ s.terms s.spread (stored m values) (stored m marks) t j
