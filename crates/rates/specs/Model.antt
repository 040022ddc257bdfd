-- What a rate lattice means, and what every lattice owes.
--   Model    its steps, the nodes of each step, and its rolled figure
--   capped   an entry above 650,000,000 counts as that
--   Under    a row of the same length, with no entry lower
--   Lawful   the limits, what a misfit is answered, and the three laws
-- Assumes nothing.
use Rattle.std.specs.Prelude.{◌≡◌, ℕ, ◌+◌, ◌<◌, ◌≤◌, min, ◌≢◌, List, map, length, slice_index}

pub record Model : Type 0 where
  pub steps : ℕ
  -- the nodes of a step; none past the last
  pub count : ℕ → ℕ
  -- the figure of a step's node, at a spread, from a row for the next step
  pub rolled : ℕ → ℕ → ℕ → List ℕ → ℕ

abbrev pub capped : ℕ → ℕ
capped x = min x 650000000

abbrev pub Under : List ℕ → List ℕ → Type 0
Under xs ys = (length xs ≡ length ys) × ((k : ℕ) → k < length xs → slice_index xs k ≤ slice_index ys k)

pub record Lawful (m : Model) : Type 0 where
  pub some_steps : 1 ≤ m.steps
  pub few_steps : m.steps ≤ 64
  pub one_root : m.count 0 ≡ 1
  pub some_nodes : (t : ℕ) → t ≤ m.steps → 1 ≤ m.count t
  pub few_nodes : (t : ℕ) → t ≤ m.steps → m.count t ≤ 129
  pub no_nodes : (t : ℕ) → m.steps < t → m.count t ≡ 0
  -- a step, a node, a spread or a row that does not fit is answered 0
  pub no_step : (t j s : ℕ) (xs : List ℕ) → m.steps ≤ t → m.rolled t j s xs ≡ 0
  pub no_node : (t j s : ℕ) (xs : List ℕ) → m.count t ≤ j → m.rolled t j s xs ≡ 0
  pub no_spread : (t j s : ℕ) (xs : List ℕ) → 200000 < s → m.rolled t j s xs ≡ 0
  pub no_row : (t j s : ℕ) (xs : List ℕ) → length xs ≢ m.count (t + 1) → m.rolled t j s xs ≡ 0
  pub caps : (t j s : ℕ) (xs : List ℕ) → m.rolled t j s xs ≡ m.rolled t j s (map capped xs)
  -- the three laws
  pub raised : (t j s : ℕ) (xs ys : List ℕ) → Under xs ys → m.rolled t j s xs ≤ m.rolled t j s ys
  pub within : (t j s most : ℕ) (xs : List ℕ) → ((k : ℕ) → k < length xs → slice_index xs k ≤ most) → m.rolled t j s xs ≤ most
  pub lowered : (t j s r : ℕ) (xs : List ℕ) → s ≤ r → m.rolled t j r xs ≤ m.rolled t j s xs
