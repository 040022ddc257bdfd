-- Why a record is turned down.
--   record_number    the number of a fault: a term that the sheet turns down has the sheet's own
--   record_place     where: a byte of the record, its length, or the wanted length of an output
--   sheet_place_of   the sheet's own place, where the fault is the sheet's
--   record_refusal   the number, and both places from the outermost in
-- Assumes nothing.
use Rattle.std.specs.Prelude.{ℕ, ◌∷◌, Some, None, Option}
use Rattle.std.specs.Option.{option_to_list}
use Rattle.rates.specs.Refusals.{Refusal}
use Rattle.rates.specs.declared.fault.Place.{Place}
use Rattle.rates.specs.declared.fault.Layer.TheVariants.{Record}
use Rattle.sheet.specs.Faults.{sheet_number, sheet_place}
use Rattle.record.specs.declared.fault.RecordFault.{RecordFault}
use Rattle.record.specs.declared.fault.RecordFault.TheVariants.{Output, Short, Form, Extra, Term}

abbrev pub record_number : RecordFault → ℕ
record_number (Output _) = 1
record_number (Short _) = 17
record_number (Form _) = 18
record_number (Extra _) = 19
record_number (Term _ f) = sheet_number f

abbrev pub record_place : RecordFault → Place
record_place (Output wanted) = record { at = wanted; layer = Record }
record_place (Short length) = record { at = length; layer = Record }
record_place (Form at) = record { at = at; layer = Record }
record_place (Extra at) = record { at = at; layer = Record }
record_place (Term at _) = record { at = at; layer = Record }

abbrev pub sheet_place_of : RecordFault → Option Place
sheet_place_of (Output _) = None
sheet_place_of (Short _) = None
sheet_place_of (Form _) = None
sheet_place_of (Extra _) = None
sheet_place_of (Term _ f) = Some (sheet_place f)

abbrev pub record_refusal : RecordFault → Refusal
record_refusal f = record { number = record_number f; trail = record_place f ∷ option_to_list (sheet_place_of f) }
