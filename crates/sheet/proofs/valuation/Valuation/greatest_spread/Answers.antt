use Rattle.std.proofs.Common.{◌≡◌, ◌+◌, ◌/◌, arith}
use Rattle.game.specs.Game.{root}
use Rattle.game.proofs.Comparing.{falls_with_spread}
use Rattle.sheet.proofs.valuation.Valuation.greatest_spread.Goals as goal

-- the trial is too great a spread, so each greater one is
pub loop-high-preserved : goal.loop-high-preserved
loop-high-preserved g c =
    let v = c.args.self.now in
    let m = g.L.Lattice.model v.lattice.now in
    let σ = g.K.ClashRule.settled v.clash.now in
    let mid = (c.loop-high.low + c.loop-high.high) / 2 in
    let e : c.root.result ≡ root m σ v.terms.now mid = cc in (
      omega arith,
      omega arith,
      c.loop-high.invariant.2,
      λ s h _. omega (arith, falls_with_spread m (g.L.Lattice.lawful v.lattice.now) σ (g.K.ClashRule.fair v.clash.now) v.terms.now mid s h),
    )
