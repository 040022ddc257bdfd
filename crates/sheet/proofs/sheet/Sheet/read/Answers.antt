use Rattle.sheet.proofs.Standing.{best_stored}
use Rattle.sheet.proofs.sheet.Sheet.read.Goals as goal

pub returns : goal.returns
returns g c =
    let s = c.args.self.now in
    record {
      answers = c.stored.ensures;
      best = best_stored (g.L.Lattice.model s.lattice) (g.K.ClashRule.settled s.clash) s.state c.args.values.now c.args.marks.now (g.L.Lattice.lawful s.lattice) (g.K.ClashRule.fair s.clash);
    }
