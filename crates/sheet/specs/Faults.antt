-- Why a sheet turns a call down.
--   sheet_number    the number of a fault
--   sheet_place     where: mostly a step; a row's wanted length; a node; or 0
--   sheet_refusal   both
--   tested          the result of a test that may find a fault
--   answer          what a call answers: a value, unless it finds a fault
--   unless          what is left: the new, unless a fault is found, else the old
-- Assumes nothing.
use Rattle.std.specs.Prelude.{ℕ, [], ◌∷◌, Some, None, Ok, Err, Option, Result}
use Rattle.rates.specs.Refusals.{Refusal, Told, accepted, refused}
use Rattle.rates.specs.declared.fault.Place.{Place}
use Rattle.rates.specs.declared.fault.Layer.TheVariants.{Sheet}
use Rattle.sheet.specs.declared.fault.SheetFault.{SheetFault}
use Rattle.sheet.specs.declared.fault.SheetFault.TheVariants.{Output, Step, Notice, Amount, Spread, NoRight, Rows, Unworked, NoNode, TooLarge, Wanted}

abbrev pub sheet_number : SheetFault → ℕ
sheet_number (Output _) = 1
sheet_number (Step _) = 7
sheet_number (Notice _) = 8
sheet_number (Amount _) = 9
sheet_number Spread = 10
sheet_number (NoRight _) = 11
sheet_number (Rows _) = 12
sheet_number (Unworked _) = 13
sheet_number (NoNode _) = 14
sheet_number (TooLarge _) = 15
sheet_number Wanted = 16

abbrev pub sheet_place : SheetFault → Place
sheet_place (Output wanted) = record { at = wanted; layer = Sheet }
sheet_place (Step t) = record { at = t; layer = Sheet }
sheet_place (Notice t) = record { at = t; layer = Sheet }
sheet_place (Amount t) = record { at = t; layer = Sheet }
sheet_place Spread = record { at = 0; layer = Sheet }
sheet_place (NoRight t) = record { at = t; layer = Sheet }
sheet_place (Rows wanted) = record { at = wanted; layer = Sheet }
sheet_place (Unworked t) = record { at = t; layer = Sheet }
sheet_place (NoNode j) = record { at = j; layer = Sheet }
sheet_place (TooLarge t) = record { at = t; layer = Sheet }
sheet_place Wanted = record { at = 0; layer = Sheet }

abbrev pub sheet_refusal : SheetFault → Refusal
sheet_refusal f = record { number = sheet_number f; trail = sheet_place f ∷ [] }

abbrev pub tested : Option SheetFault → Result Unit SheetFault
tested None = Ok tt
tested (Some f) = Err f

abbrev pub answer : {X : Type 0} → Option SheetFault → X → Told X
answer None x = accepted x
answer (Some f) x = refused (sheet_refusal f)

abbrev pub unless : {X : Type 0} → Option SheetFault → X → X → X
unless None new old = new
unless (Some f) new old = old
