use Rattle.std.proofs.Common.{drop}
use Rattle.std.specs.List.{flat_map}
use Rattle.record.specs.Encode.{entries_of}
use Rattle.record.proofs.Putting.{Left}
use Rattle.record.proofs.entries.Entries.put_each.Given as goal

abbrev pub invariant-loop-step : goal.invariant-loop-step
invariant-loop-step g l = Left (flat_map g.C.Cell.entry_bytes (entries_of g.C.Cell.held l.step (drop l.step l.cell-items))) l.writer (flat_map g.C.Cell.entry_bytes (entries_of g.C.Cell.held 0 l.cell-items)) l.initial.writer
