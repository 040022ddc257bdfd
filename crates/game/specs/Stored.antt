-- Rows that list the nodes of a lattice by step, then by node.
--   offset      where the entries of a step begin
--   all_nodes   how many entries there are
--   stored      the entry of a node
--   laid        the entries of n steps from step t on, of a table of nodes
--   rewritten   a row with the entries of these n steps in their place, and all others as they were
--   Worked      the entries of the steps from w on are the figures and marks of the terms in force
-- Assumes nothing.
use Rattle.std.specs.Prelude.{◌≡◌, ℕ, zero, suc, ◌+◌, ◌<◌, ◌≤◌, List, [], ◌++◌, map, take, drop, slice_index}
use Rattle.std.specs.List.{range_with_len}
use Rattle.rates.specs.Model.{Model}
use Rattle.game.specs.declared.terms.Terms.{Terms}
use Rattle.game.specs.Game.{figure, mark}

abbrev pub offset : Model → ℕ → ℕ
offset m zero = 0
offset m (suc t) = offset m t + m.count t

abbrev pub all_nodes : Model → ℕ
all_nodes m = offset m (m.steps + 1)

abbrev pub stored : Model → List ℕ → ℕ → ℕ → ℕ
stored m row t j = slice_index row (offset m t + j)

abbrev pub step_row : Model → (ℕ → ℕ → ℕ) → ℕ → List ℕ
step_row m f t = map (f t) (range_with_len 0 (m.count t))

abbrev pub laid : Model → (ℕ → ℕ → ℕ) → ℕ → ℕ → List ℕ
laid m f t zero = []
laid m f t (suc n) = step_row m f t ++ laid m f (t + 1) n

abbrev pub rewritten : Model → List ℕ → (ℕ → ℕ → ℕ) → ℕ → ℕ → List ℕ
rewritten m row f t n = take (offset m t) row ++ (laid m f t n ++ drop (offset m (t + n)) row)

pub record Worked (m : Model) (σ : ℕ → ℕ → ℕ) (b : Terms) (s w : ℕ) (values marks : List ℕ) : Type 0 where
  pub figures_are : (t j : ℕ) → w ≤ t → t ≤ m.steps → j < m.count t → stored m values t j ≡ figure m σ b s t j
  pub marks_are : (t j : ℕ) → w ≤ t → t ≤ m.steps → j < m.count t → stored m marks t j ≡ mark m σ b s t j
