use Rattle.std.proofs.Common.{◌≡◌, ◌-◌}
use Rattle.record.specs.Decode.{checked, entries_from, list_at}
use Rattle.record.specs.Filled.{Filled}
use Rattle.record.proofs.filling.Filling.list.Given as goal

-- nothing but the table has changed, and what is left to read gives what the whole list gives
abbrev pub invariant-loop : goal.invariant-loop
invariant-loop g l = record {
  filled : Filled (g.L.Listed.table l.list) l.fn.self l.self;
  rest : entries_from g.row.N (λ floor. checked (g.L.Listed.fault l.fn.self.draft.steps) (g.L.Listed.form floor)) g.L.Listed.cell l.fn.self.reader.src.now (l.count - l.counter) l.floor ((g.L.Listed.table l.list).of l.self.draft.state) l.self.reader.at
      ≡ list_at g.row.N (λ floor. checked (g.L.Listed.fault l.fn.self.draft.steps) (g.L.Listed.form floor)) g.L.Listed.cell ((g.L.Listed.table l.list).of l.fn.self.draft.state) l.present l.fn.self.reader.src.now l.fn.self.reader.at;
}
