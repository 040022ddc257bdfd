use Rattle.std.proofs.Common.{◌+◌, ◌*◌, ◌≤◌, sym, ap, ◌∙◌, arith}
use Rattle.std.proofs.lemmas.Nat.{mul-le}
use Rattle.record.proofs.Writing.{entries_few, list_long}
use Rattle.record.proofs.entries.EntriesField.size.Goals as goal
use Rattle.record.proofs.entries.EntriesField.size.Goals.{Then-some}

low : (g : _) (c : Then-some g) → g.row.N * c.args.self.now.count ≤ 65025
low g c =
    let few = entries_few g.C.Cell.held 0 c.args.self.now.table.now in
    mul-le _ _ 255 255 (omega (arith, g.met.C.Cell.short)) (omega (arith, few, c.args.self.now.few, c.args.self.now.counted))

pub overflow_mul-result : goal.overflow_mul-result
overflow_mul-result g c = omega (arith, low g (goal.at.overflow_mul-result g c).Then-some)

pub overflow_add-result : goal.overflow_add-result
overflow_add-result g c = omega (arith, low g (goal.at.overflow_add-result g c).Then-some)

pub returns-then-some : goal.returns-then-some
returns-then-some g c = record {
  is = ap (λ n. 1 + g.row.N * n) c.args.self.now.counted ∙ sym (list_long g.C.Cell.entry_bytes g.row.N g.met.C.Cell.long _ (omega arith));
  small = omega (arith, low g (goal.at.returns-then-some g c).Then-some);
}
