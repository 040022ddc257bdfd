use Rattle.std.proofs.Common.{◌≡◌}
use Rattle.game.specs.Game.{root}
use Rattle.sheet.proofs.Worths.{root_is}
use Rattle.sheet.proofs.sheet.Sheet.root.Goals as goal

pub returns : goal.returns
returns g c =
    let s = c.args.self.now in
    let m = g.L.Lattice.model s.lattice in
    let σ = g.K.ClashRule.settled s.clash in
    let e : c.root.result ≡ root m σ s.state.terms s.state.spread = cc in
    root_is m (g.L.Lattice.lawful s.lattice) σ (g.K.ClashRule.fair s.clash) s.state c.root.result e
