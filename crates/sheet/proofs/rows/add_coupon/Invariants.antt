use Rattle.std.proofs.Common.{◌≡◌, ◌+◌, ◌++◌, map, take, drop}
use Rattle.rates.specs.Model.{capped}
use Rattle.sheet.proofs.rows.add_coupon.Given as goal

abbrev pub invariant-loop-x : goal.invariant-loop-x
invariant-loop-x l = l.row ≡ map (λ v. capped (v + l.coupon)) (take l.x-index l.initial.row) ++ drop l.x-index l.initial.row
