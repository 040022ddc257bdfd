use Rattle.std.proofs.Common.{◌∷◌, [], arith}
use Rattle.record.proofs.Writing.{entries_few}
use Rattle.record.proofs.Putting.{left_all, left_as, left_on, list_some}
use Rattle.record.proofs.entries.EntriesField.put.Goals as goal

pub overflow_cast-self : goal.overflow_cast-self
overflow_cast-self g c = omega (arith, entries_few g.C.Cell.held 0 c.args.self.now.table.now)

pub returns : goal.returns
returns g c = (left_on (c.args.self.now.count ∷ []) _ (left_as (list_some g.C.Cell.entry_bytes _ c.args.self.now.counted c.if-self-eq0.false) (left_all c.args.writer.now c.requires)) c.put.ensures).rest _ c.put_each.ensures
