use Rattle.std.proofs.Common.{arith}
use Rattle.std.proofs.lemmas.List.{get_or-replicate}
use Rattle.game.proofs.Rows.{count_few}
use Rattle.sheet.proofs.valuation.Valuation.work_last.Goals as goal

pub returns : goal.returns
returns g c =
    let few = count_few (g.L.Lattice.lawful c.args.self.now.lattice.now) c.args.t in
    record {
      figures = λ j h. get_or-replicate 129 j c.args.self.now.terms.now.redemption 0 (omega arith);
      marks = λ j h. get_or-replicate 129 j 0 0 (omega arith);
    }
