use Rattle.std.proofs.Common.{sym, ◌∙◌, arith}
use Rattle.rates.specs.Formulas.{width}
use Rattle.rates.specs.Kinds.{plain}
use Rattle.rates.proofs.Tables.{rate_within, fitting_within, plain_width}
use Rattle.lattice.proofs.tree.TreeLattice.roll.Goals as goal

pub bounds-self-before : goal.bounds-self-before
bounds-self-before c =
    let x = c.args.self.now in
    let p = fitting_within x.last (width (plain x.kind)) c.args.t c.args.j c.args.spread c.args.row.now (sym c.fits.ensures ∙ c.if-not-fits.false) in
    omega (arith, rate_within x.kind x.last c.args.t c.args.j p.0 (omega (arith, p.1, plain_width x.kind c.args.t)))
