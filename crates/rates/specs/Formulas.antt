-- The lattices that we supply.
--   width      the nodes of a step
--   before     the rates of all steps before a step, so also the length of a table
--   rounded    a quotient, rounded down
--   weighted   the trinomial's answer, by one weight triple
--   formula    a kind's answer, where D is 1,000,000 plus the node's rate plus the spread, and
--              a, b and c are the entries that the node leads to
--   entry_at   an entry of a row, capped
--   up_to      the nodes of a step; none past the last
--   fitting    step, node, spread and row fit
--   supplied   the lattice of a kind with N steps over a table of rates: the kind's answer
--              where all fits, and 0 elsewhere
-- Assumes nothing.
use Rattle.std.specs.Prelude.{ℕ, ◌+◌, ◌*◌, ◌/◌, min, Bool, cond, ◌&&◌, List, length, ◌==◌, nat_le, nat_lt, slice_index}
use Rattle.rates.specs.Model.{Model, capped}
use Rattle.rates.specs.declared.kind.Kind.{Kind}
use Rattle.rates.specs.declared.kind.Kind.TheVariants.{Binomial, Trinomial, WorstCase}
use Rattle.rates.specs.declared.weights.Triple.{Triple}

abbrev pub width : {W : Type 0} → Kind W → ℕ → ℕ
width Binomial t = t + 1
width (Trinomial _) t = 2 * t + 1
width (WorstCase _ _) t = 2 * t + 1

abbrev pub before : {W : Type 0} → Kind W → ℕ → ℕ
before Binomial t = t * (t + 1) / 2
before (Trinomial _) t = t * t
before (WorstCase _ _) t = t * t

abbrev pub rounded : ℕ → ℕ → ℕ
rounded x d = x / d

abbrev pub weighted : Triple → ℕ → ℕ → ℕ → ℕ → ℕ
weighted w D a b c = rounded ((w.low * a + w.level * b + w.high * c) * 1000) D

abbrev pub formula : Kind Triple → ℕ → ℕ → ℕ → ℕ → ℕ
formula Binomial D a b c = rounded ((a + b) * 1000000) (2 * D)
formula (Trinomial w) D a b c = weighted w D a b c
formula (WorstCase v w) D a b c = min (weighted v D a b c) (weighted w D a b c)

abbrev pub entry_at : List ℕ → ℕ → ℕ
entry_at xs k = capped (slice_index xs k)

abbrev pub up_to : ℕ → (ℕ → ℕ) → ℕ → ℕ
up_to N wide t = cond (nat_le t N) (wide t) 0

abbrev pub fitting : ℕ → (ℕ → ℕ) → ℕ → ℕ → ℕ → List ℕ → Bool
fitting N nodes t j s xs = nat_lt t N && (nat_lt j (nodes t) && (nat_le s 200000 && length xs == nodes (t + 1)))

abbrev pub supplied : Kind Triple → ℕ → List ℕ → Model
supplied kind N rates = record {
  steps = N;
  count = up_to N (width kind);
  rolled = λ t j s xs.
      cond (fitting N (up_to N (width kind)) t j s xs)
      (formula kind (1000000 + slice_index rates (before kind t + j) + s) (entry_at xs j) (entry_at xs (j + 1)) (entry_at xs (j + 2)))
      0;
}

abbrev pub binomial : ℕ → List ℕ → Model
binomial = supplied Binomial

abbrev pub trinomial : Triple → ℕ → List ℕ → Model
trinomial w = supplied (Trinomial w)

abbrev pub worst_case : Triple → Triple → ℕ → List ℕ → Model
worst_case v w = supplied (WorstCase v w)
