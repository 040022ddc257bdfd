-- When a table and its weights are refused, and what a lattice made of them is.
--   first_over      the index of the first rate above 1,000,000, counted from i
--   steps_check     1 to 64 steps
--   none_over       a table passes where no rate is over
--   rates_check     the wanted length, then each rate
--   table_check     the steps, then the length and the rates that a kind wants
--   weights_check   the three weights add up to 1,000
--   kind_check      each weight triple of a kind, in turn
--   lattice_check   the table, then the weights
--   standing        the lattice on a table, by what its check told: on a refused one, of one
--                   step and a rate of 0
--   built           what is made of any table
-- Assumes nothing.
use Rattle.std.specs.Prelude.{ℕ, ◌+◌, cond, ◌&&◌, List, [], ◌∷◌, length, Some, None, Option, ◌==◌, nat_le, nat_lt}
use Rattle.std.specs.List.{position_from}
use Rattle.rates.specs.Formulas.{before, supplied}
use Rattle.rates.specs.Model.{Model}
use Rattle.rates.specs.Refusals.{Told, accepted, refused, and_then, seen, lattice_refusal}
use Rattle.rates.specs.declared.fault.LatticeFault.TheVariants.{Steps, Length, Rate, Weights}
use Rattle.rates.specs.declared.kind.Kind.{Kind}
use Rattle.rates.specs.declared.kind.Kind.TheVariants.{Binomial, Trinomial, WorstCase}
use Rattle.rates.specs.declared.weights.Triple.{Triple}

abbrev pub first_over : List ℕ → ℕ → Option ℕ
first_over rates i = position_from (nat_lt 1000000) i rates

abbrev pub steps_check : ℕ → Told Unit
steps_check n = cond (nat_le 1 n && nat_le n 64) (accepted tt) (refused (lattice_refusal Steps))

abbrev pub none_over : Option ℕ → Told Unit
none_over None = accepted tt
none_over (Some i) = refused (lattice_refusal (Rate i))

abbrev pub rates_check : ℕ → List ℕ → Told Unit
rates_check want rates = cond (length rates == want) (none_over (first_over rates 0)) (refused (lattice_refusal (Length want)))

abbrev pub table_check : {W : Type 0} → Kind W → ℕ → List ℕ → Told Unit
table_check kind n rates = and_then (steps_check n) (rates_check (before kind n) rates)

abbrev pub weights_check : Triple → Told Triple
weights_check w = cond (w.low + w.level + w.high == 1000) (accepted w) (refused (lattice_refusal Weights))

abbrev pub kind_check : Kind Triple → Told (Kind Triple)
kind_check Binomial = accepted Binomial
kind_check (Trinomial w) = seen Trinomial (weights_check w)
kind_check (WorstCase v w) = and_then (weights_check v) (seen (WorstCase v) (weights_check w))

abbrev pub lattice_check : Kind Triple → ℕ → List ℕ → Told (Kind Triple)
lattice_check kind n rates = and_then (table_check kind n rates) (kind_check kind)

abbrev pub standing : Told Unit → Kind Triple → ℕ → List ℕ → Model
standing (accepted _) kind n rates = supplied kind n rates
standing (refused _) kind n rates = supplied kind 1 (0 ∷ [])

abbrev pub built : Kind Triple → ℕ → List ℕ → Model
built kind n rates = standing (table_check kind n rates) kind n rates
