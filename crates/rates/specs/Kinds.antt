-- Kinds whose weights are known to add up.
--   plain   such a kind by its weights alone
-- Assumes nothing.
use Rattle.rates.specs.declared.kind.Kind.{Kind}
use Rattle.rates.specs.declared.kind.Kind.TheVariants.{Binomial, Trinomial, WorstCase}
use Rattle.rates.specs.declared.weights.Triple.{Triple}
use Rattle.rates.specs.declared.weights.Weights.{Weights}

abbrev pub plain : Kind Weights → Kind Triple
plain Binomial = Binomial
plain (Trinomial w) = Trinomial w.parts
plain (WorstCase v w) = WorstCase v.parts w.parts
