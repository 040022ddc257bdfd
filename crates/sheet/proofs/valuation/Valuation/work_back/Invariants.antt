use Rattle.std.proofs.Common.{◌≡◌, ◌-◌, ◌≤◌, length}
use Rattle.game.specs.Stored.{offset, rewritten}
use Rattle.game.specs.Working.{back_figure, back_mark}
use Rattle.sheet.proofs.Stepping.{Holds}
use Rattle.sheet.proofs.valuation.Valuation.work_back.Given as goal

-- the steps from t on are worked: their figures and marks stand in the rows, and those of t in `figures`
abbrev pub invariant-loop-t : goal.invariant-loop-t
invariant-loop-t g l =
    let m = g.L.Lattice.model l.self.lattice.now in
    let σ = g.K.ClashRule.settled l.self.clash.now in
    let b = l.self.terms.now in
    let s = l.self.spread in
    let w = l.first in
    (l.until ≤ l.t)
    × (l.to ≡ offset m l.t)
    × (length l.step.figures ≡ 129)
    × (length l.step.marks ≡ 129)
    × Holds m σ b s w l.initial.values l.t l.step.figures
    × (l.values ≡ rewritten m l.initial.values (back_figure m σ b s w l.initial.values) l.t (w - l.t))
    × (l.marks ≡ rewritten m l.initial.marks (back_mark m σ b s w l.initial.values) l.t (w - l.t))
