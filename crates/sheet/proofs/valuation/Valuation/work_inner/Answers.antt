use Rattle.std.proofs.Common.{arith}
use Rattle.game.proofs.Rows.{count_few}
use Rattle.sheet.proofs.valuation.Valuation.work_inner.Goals as goal

pub decide-requires : goal.decide-requires
decide-requires g c = omega (arith, count_few (g.L.Lattice.lawful c.args.self.now.lattice.now) c.args.t)
