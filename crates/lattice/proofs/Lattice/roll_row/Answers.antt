use Rattle.std.proofs.Common.{length, arith}
use Rattle.std.proofs.lemmas.List.FromFn.{fill_by_all}
use Rattle.lattice.proofs.Lattice.roll_row.Goals as goal

pub returns : goal.returns
returns g c = fill_by_all _ c.loop-j.out (length c.args.out.now) 0 (omega arith) (λ k h. c.loop-j.invariant k (omega arith))
