use Rattle.std.proofs.Common.{◌≡◌, ℕ, ◌-◌, ◌<◌, ◌≤◌, get_or}
use Rattle.game.specs.Game.{stream}
use Rattle.sheet.proofs.valuation.Valuation.right_amounts.Given as goal

-- the price stands at each place where the loop begins
abbrev pub invariant-loop-u : goal.invariant-loop-u
invariant-loop-u g l = (l.t ≤ l.u) × ((j : ℕ) → j < (g.L.Lattice.model l.self.lattice.now).count l.u → get_or l.row j 0 ≡ stream (g.L.Lattice.model l.self.lattice.now) l.self.terms.now l.self.spread (get_or l.initial.row 0 0) (l.last - l.u) l.u j)
