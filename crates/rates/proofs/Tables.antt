-- Where the rates of a step stand in a table, and what fits. Assumes nothing.
use Rattle.std.proofs.Common.{◌≡◌, ℕ, ◌+◌, ◌*◌, ◌<◌, ◌≤◌, true, List, refl, mul-le-mul, arith}
use Rattle.std.proofs.lemmas.Bool.Decides.{nat_tests}
use Rattle.rates.specs.Formulas.{width, before, up_to, fitting}
use Rattle.rates.specs.Kinds.{plain}
use Rattle.rates.specs.declared.kind.Kind.{Kind}
use Rattle.rates.specs.declared.kind.Kind.TheVariants.{Binomial, Trinomial, WorstCase}
use Rattle.rates.specs.declared.weights.Weights.{Weights}

squares : (N t j : ℕ) → t < N → j < 2 * t + 1 → t * t + j < N * N
squares N t j a b = let p : (t + 1) * (t + 1) ≤ N * N = mul-le-mul (omega arith) (omega arith) in omega arith

pub rate_within : {W : Type 0} (kind : Kind W) (N t j : ℕ) → t < N → j < width kind t → before kind t + j < before kind N
rate_within Binomial N t j a b =
    let p : (t + 1) * (t + 2) ≤ N * (N + 1) = mul-le-mul (omega arith) (omega arith) in
    omega arith
rate_within (Trinomial w) N t j a b = squares N t j a b
rate_within (WorstCase v w) N t j a b = squares N t j a b

-- where all fits, there is such a step and such a node
pub fitting_within : (N : ℕ) (wide : ℕ → ℕ) (t j s : ℕ) (xs : List ℕ) → fitting N (up_to N wide) t j s xs ≡ true → (t < N) × (j < wide t)
fitting_within N wide t j s xs h = (grind (arith, nat_tests), grind (arith, nat_tests))

pub plain_width : (kind : Kind Weights) (t : ℕ) → width (plain kind) t ≡ width kind t
plain_width Binomial t = refl
plain_width (Trinomial w) t = refl
plain_width (WorstCase v w) t = refl
