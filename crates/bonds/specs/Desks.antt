-- What a desk's sheet stands on.
--   meaning    the lattice of a tree
--   rated      the lattice that a desk opens on a table of rates
-- Assumes nothing.
use Rattle.std.specs.Prelude.{ℕ, List}
use Rattle.rates.specs.Checks.{built}
use Rattle.rates.specs.Formulas.{supplied}
use Rattle.rates.specs.Kinds.{plain}
use Rattle.rates.specs.Model.{Model}
use Rattle.rates.specs.declared.kind.Kind.TheVariants.{Binomial}
use Rattle.lattice.specs.declared.tree.Tree.{Tree}

abbrev pub meaning : Tree → Model
meaning x = supplied (plain x.kind) x.last x.rates.now

abbrev pub rated : List ℕ → Model
rated rates = built Binomial 2 rates
