-- Answers in print.
--   entry_text   a figure and the byte of its mark
--   costs_text   what the calls cost and the puts are worth
-- Assumes nothing.
use Rattle.std.specs.Prelude.{ℕ, List, ◌++◌, codes, decimal}
use Rattle.sheet.specs.declared.answer.Entry.{Entry}
use Rattle.sheet.specs.declared.answer.Costs.{Costs}

abbrev pub entry_text : Entry → List ℕ
entry_text e = codes "figure " ++ (decimal e.figure ++ (codes " mark " ++ decimal e.mark))

abbrev pub costs_text : Costs → List ℕ
costs_text c = codes "call " ++ (decimal c.call ++ (codes " put " ++ decimal c.put))
