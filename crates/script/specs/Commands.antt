-- What commands say.
--   Meaning         what a command says, with a lattice's rates as a list
--   meant c         what the command c says
--   needs_sheet m   whether m is a call of the open sheet
--   opens_sheet m   whether m opens a sheet
-- Assumes nothing.
use Rattle.std.specs.Prelude.{ℕ, Bool, true, false, List, vec_items}
use Rattle.game.specs.declared.clash.AnyClash.{AnyClash}
use Rattle.rates.specs.declared.kind.Kind.{Kind}
use Rattle.rates.specs.declared.weights.Triple.{Triple}
use Rattle.script.specs.declared.command.Command.{Command}
use Rattle.script.specs.declared.command.Command.TheVariants.{Lattice, Clash, Open, Sheet}
use Rattle.script.specs.declared.command.SheetCall.{SheetCall}

pub data Meaning : Type 0 where
  lattice : Kind Triple → ℕ → List ℕ → Meaning
  clash : AnyClash → Meaning
  opened : Meaning
  sheet : SheetCall → Meaning

abbrev pub meant : Command → Meaning
meant (Lattice k n rates) = lattice k n (vec_items rates)
meant (Clash r) = clash r
meant Open = opened
meant (Sheet s) = sheet s

abbrev pub needs_sheet : Meaning → Bool
needs_sheet (lattice k n rs) = false
needs_sheet (clash r) = false
needs_sheet opened = false
needs_sheet (sheet s) = true

abbrev pub opens_sheet : Meaning → Bool
opens_sheet (lattice k n rs) = false
opens_sheet (clash r) = false
opens_sheet opened = true
opens_sheet (sheet s) = false
