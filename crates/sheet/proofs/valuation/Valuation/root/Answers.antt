use Rattle.std.proofs.Common.{◌≡◌, ◌+◌, ◌-◌, ◌<◌, [], ap, ◌∙◌, arith}
use Rattle.game.specs.Working.{back_figure}
use Rattle.game.proofs.Backward.{back_from_end}
use Rattle.sheet.proofs.Stepping.{stepped_figure_is}
use Rattle.sheet.proofs.valuation.Valuation.root.Goals as goal

pub loop-t-preserved : goal.loop-t-preserved
loop-t-preserved g c = λ j h.
    let m = g.L.Lattice.model c.args.self.now.lattice.now in
    let σ = g.K.ClashRule.settled c.args.self.now.clash.now in
    let u = c.loop-t.t in
    c.work_step.ensures.figures j h
    ∙ stepped_figure_is m σ c.args.self.now.terms.now c.args.self.now.spread (c.steps-first.result + 1) [] (u - 1) u c.loop-t.step.figures (omega arith) (omega arith) c.loop-t.invariant j

pub returns : goal.returns
returns g c =
    let m = g.L.Lattice.model c.args.self.now.lattice.now in
    let σ = g.K.ClashRule.settled c.args.self.now.clash.now in
    let laws = g.L.Lattice.lawful c.args.self.now.lattice.now in
    let at : c.loop-t.t ≡ 0 = omega arith in
    let one : 0 < m.count c.loop-t.t = omega (arith, ap m.count at, laws.one_root) in
    c.loop-t.invariant 0 one
    ∙ ap (λ t. back_figure m σ c.args.self.now.terms.now c.args.self.now.spread (c.steps-first.result + 1) [] t 0) at
    ∙ back_from_end m σ c.args.self.now.terms.now c.args.self.now.spread (c.steps-first.result + 1) [] 0 0 (omega arith) (omega arith) (omega (arith, laws.one_root))
