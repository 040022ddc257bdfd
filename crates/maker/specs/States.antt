-- A lattice of two states, a low and a high rate: it starts low, and every later step has a node for each state, node 0
-- for the low one and node 1 for the high one. A state stays with three parts in four and turns with one.
--   wide         the nodes of a step: one at the start, two later
--   nodes_of     the nodes of a step of a lattice of N steps; none past the last
--   turned       the other state
--   rate_of      the rate of a state
--   growth       a whole of 1,000,000, plus the rate of a state, plus a spread
--   shared       three parts of the entry where the state stays and one where it turns, by the growth, rounded down
--   two_states   what the lattice means: the shared figure where all fits, and 0 elsewhere
--   makeable     1 to 64 steps
-- Assumes nothing.
use Rattle.std.specs.Prelude.{ℕ, ◌+◌, ◌-◌, ◌*◌, ◌/◌, min, Bool, cond, ◌&&◌, ◌==◌, nat_le}
use Rattle.rates.specs.Formulas.{entry_at, up_to, fitting}
use Rattle.rates.specs.Model.{Model}

abbrev pub wide : ℕ → ℕ
wide t = 1 + min t 1

abbrev pub nodes_of : ℕ → ℕ → ℕ
nodes_of N = up_to N wide

abbrev pub turned : ℕ → ℕ
turned j = 1 - j

abbrev pub rate_of : ℕ → ℕ → ℕ → ℕ
rate_of low high j = cond (j == 0) low high

abbrev pub growth : ℕ → ℕ → ℕ → ℕ → ℕ
growth low high j s = 1000000 + rate_of low high j + s

abbrev pub shared : ℕ → ℕ → ℕ → ℕ
shared d stays turns = (3 * stays + turns) * 1000000 / (4 * d)

abbrev pub two_states : ℕ → ℕ → ℕ → Model
two_states low high N = record {
  steps = N;
  count = nodes_of N;
  rolled = λ t j s xs. cond (fitting N (nodes_of N) t j s xs) (shared (growth low high j s) (entry_at xs j) (entry_at xs (turned j))) 0;
}

abbrev pub makeable : ℕ → Bool
makeable n = nat_le 1 n && nat_le n 64
