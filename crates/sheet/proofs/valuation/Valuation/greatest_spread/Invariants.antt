use Rattle.std.proofs.Common.{ℕ, ◌-◌, ◌<◌, ◌≤◌}
use Rattle.game.specs.Game.{root}
use Rattle.sheet.proofs.valuation.Valuation.greatest_spread.Given as goal

abbrev pub invariant-loop-high : goal.invariant-loop-high
invariant-loop-high g l =
    let at : ℕ → ℕ = λ s. root (g.L.Lattice.model l.self.lattice.now) (g.K.ClashRule.settled l.self.clash.now) l.self.terms.now s in
    (l.low < l.high) × (l.high ≤ 200001) × (l.want ≤ at l.low) × ((s : ℕ) → l.high ≤ s → s ≤ 200000 → at s < l.want)

abbrev pub decreases-loop-high : goal.decreases-loop-high
decreases-loop-high g l = l.high - l.low
