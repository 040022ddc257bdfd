-- Struck prices, and the line that a released one prints.
--   strike_fault   why nothing is struck: a short value row, then a root that is not worked
--   struck         the stored root figure and the spread
--   line           a price in print: figure, blank, spread, newline, in decimal
--   print_fault    an output of fewer than 64 bytes
--   printed        the output with the line in front, and all other bytes as they were
--   laid           a part written over others from a place on
-- Assumes nothing.
use Rattle.std.specs.Prelude.{ℕ, ◌+◌, cond, List, [], ◌∷◌, ◌++◌, length, take, drop, Some, None, decimal, Option, nat_le}
use Rattle.rates.specs.Model.{Model}
use Rattle.game.specs.Stored.{all_nodes, stored}
use Rattle.sheet.specs.declared.state.State.{State}
use Rattle.sheet.specs.declared.price.Struck.{Struck}
use Rattle.sheet.specs.declared.fault.SheetFault.{SheetFault}
use Rattle.sheet.specs.declared.fault.SheetFault.TheVariants.{Output, Rows, Unworked}

abbrev pub strike_fault : Model → State → List ℕ → Option SheetFault
strike_fault m s values = cond (nat_le (all_nodes m) (length values)) (cond (nat_le s.first 0) None (Some (Unworked 0))) (Some (Rows (all_nodes m)))

abbrev pub struck : Model → State → List ℕ → Struck
struck m s values = record { figure = stored m values 0 0; spread = s.spread }

abbrev pub line : ℕ → ℕ → List ℕ
line figure spread = decimal figure ++ (32 ∷ (decimal spread ++ (10 ∷ [])))

abbrev pub print_fault : List ℕ → Option SheetFault
print_fault out = cond (nat_le 64 (length out)) None (Some (Output 64))

abbrev pub printed : ℕ → ℕ → List ℕ → List ℕ
printed figure spread out = line figure spread ++ drop (length (line figure spread)) out

abbrev pub laid : {X : Type 0} → List X → ℕ → List X → List X
laid d at s = take at d ++ (s ++ drop (at + length s) d)
