use Rattle.std.proofs.Common.{◌∙◌, rules, tests, arith}
use Rattle.std.proofs.lemmas.Iterator.{YieldsList-from_range, YieldsList-from_map}
use Rattle.std.proofs.lemmas.Iterator.Consumers.{sum_from_yields_List, fits_from_yields_list}
use Rattle.game.proofs.Rows.{offset_small, offset_sum}
use Rattle.sheet.proofs.back.offset.Goals as goal

pub sum-requires-clause-fits : goal.sum-requires-clause-fits
sum-requires-clause-fits g c =
    let m = g.L.Lattice.model c.args.lattice.now in
    fits_from_yields_list c.map.result _
    (YieldsList-from_map _ m.count (YieldsList-from_range 0 c.args.t c.args.t c.map.ensures.source (omega arith)) c.map.ensures.closure (λ x r q k. search (rules, tests)))
    (omega (arith, offset_small (g.L.Lattice.lawful c.args.lattice.now) c.args.t, offset_sum m c.args.t))

pub returns : goal.returns
returns g c =
    let m = g.L.Lattice.model c.args.lattice.now in
    sum_from_yields_List c.map.result _ c.sum.ensures.ran
    (YieldsList-from_map _ m.count (YieldsList-from_range 0 c.args.t c.args.t c.map.ensures.source (omega arith)) c.map.ensures.closure (λ x r q k. search (rules, tests)))
    ∙ offset_sum m c.args.t
