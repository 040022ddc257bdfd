use Rattle.std.proofs.Common.{[]}
use Rattle.sheet.proofs.Stepping.{Holds}
use Rattle.sheet.proofs.valuation.Valuation.root.Given as goal

abbrev pub invariant-loop-t : goal.invariant-loop-t
invariant-loop-t g l = Holds (g.L.Lattice.model l.self.lattice.now) (g.K.ClashRule.settled l.self.clash.now) l.self.terms.now l.self.spread l.first [] l.t l.step.figures
