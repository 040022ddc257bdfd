use Rattle.std.proofs.Common.{◌≡◌, ◌≤◌, max, sym, refl, ap, ◌∙◌, arith}
use Rattle.game.specs.Game.{root}
use Rattle.sheet.specs.Fits.{Greatest}
use Rattle.sheet.proofs.Valued.{of_parts, with_parts}
use Rattle.sheet.proofs.Promised.{tested_none}
use Rattle.sheet.proofs.Fitting.{fit_made}
use Rattle.sheet.proofs.sheet.Sheet.seek.Goals as goal

pub returns : goal.returns
returns g c =
    let s = c.args.self.now in
    let m = g.L.Lattice.model s.lattice in
    let σ = g.K.ClashRule.settled s.clash in
    let small = tested_none _ (sym c.check_amount.ensures ∙ c.in_ok-check_amount.was) in
    let v = c.valuation-valuation.ensures in
    let r = c.greatest_spread-spread.result in
    let u = c.at_spread.ensures in
    let e : c.root.result ≡ root m σ s.state.terms 0 =
    c.root.ensures ∙ of_parts (λ l k b i. root (g.L.Lattice.model l) (g.K.ClashRule.settled k) b i) (u.lattice ∙ v.lattice) (u.clash ∙ v.clash) (u.terms ∙ v.terms) u.spread in
    let reached : c.args.want ≤ root m σ s.state.terms 0 = omega arith in
    let top = with_parts (λ l k b. Greatest (g.L.Lattice.model l) (g.K.ClashRule.settled k) b c.args.want r) v.lattice v.clash v.terms c.greatest_spread-spread.ensures in
    record {
      fitted = fit_made m σ c.args.want s.state r c.max-self.result top (c.max-self.ensures ∙ ap (max s.state.first) c.steps-last.ensures) small reached;
      same = (refl, refl);
    }
