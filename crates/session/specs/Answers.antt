-- How the answer of a call is told.
--   fault_refusal   the number of a fault and its trail of places, by the layer that it came from
--   heard           an answer as it is told
--   heard_in        the same of a place for an answer, where there is one
-- Assumes nothing.
use Rattle.std.specs.Prelude.{Some, None, Option, Result}
use Rattle.rates.specs.Refusals.{Refusal, Told, told}
use Rattle.sheet.specs.Faults.{sheet_refusal}
use Rattle.record.specs.Faults.{record_refusal}
use Rattle.session.specs.declared.call.Reply.{Reply}
use Rattle.session.specs.declared.call.Fault.{Fault}
use Rattle.session.specs.declared.call.Fault.TheVariants.{Sheet, Record}

abbrev pub fault_refusal : Fault → Refusal
fault_refusal (Sheet f) = sheet_refusal f
fault_refusal (Record f) = record_refusal f

abbrev pub heard : Result Reply Fault → Told Reply
heard r = told fault_refusal r

abbrev pub heard_in : Option (Result Reply Fault) → Option (Told Reply)
heard_in None = None
heard_in (Some r) = Some (heard r)
