use Rattle.std.proofs.Common.{◌≡◌, is_some, ◌∙◌, rules}
use Rattle.std.specs.List.{count_by}
use Rattle.record.proofs.Writing.{entries_counted}
use Rattle.record.proofs.entries.Entries.new.Goals as goal

pub invariant_of-result : goal.invariant_of-result
invariant_of-result g c =
    let n : c.sum-count.result ≡ count_by (λ a. is_some (g.C.Cell.held a)) c.args.table.now = search rules in
    record { few = c.requires; counted = n ∙ entries_counted g.C.Cell.held 0 c.args.table.now }
