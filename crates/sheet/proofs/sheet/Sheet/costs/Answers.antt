use Rattle.std.proofs.Common.{arith}
use Rattle.game.specs.declared.terms.Kind.TheVariants.{Call, Put}
use Rattle.game.proofs.Comparing.{calls_cost, puts_worth}
use Rattle.sheet.proofs.Worths.{without_priced, costs_are}
use Rattle.sheet.proofs.sheet.Sheet.costs.Goals as goal

pub of_terms-requires-clause-priced : goal.of_terms-requires-clause-priced
of_terms-requires-clause-priced g c = let s = c.args.self.now in without_priced Call s.state.terms s.priced

pub of_terms-requires-2-clause-priced : goal.of_terms-requires-2-clause-priced
of_terms-requires-2-clause-priced g c = let s = c.args.self.now in without_priced Put s.state.terms s.priced

pub overflow_sub-result : goal.overflow_sub-result
overflow_sub-result g c =
    let s = c.args.self.now in
    grind (arith, calls_cost _ (g.L.Lattice.lawful s.lattice) (g.K.ClashRule.settled s.clash) (g.K.ClashRule.fair s.clash) s.state.terms s.state.spread)

pub overflow_sub-result-2 : goal.overflow_sub-result-2
overflow_sub-result-2 g c =
    let s = c.args.self.now in
    grind (arith, puts_worth _ (g.L.Lattice.lawful s.lattice) (g.K.ClashRule.settled s.clash) (g.K.ClashRule.fair s.clash) s.state.terms s.state.spread)

pub returns : goal.returns
returns g c =
    let s = c.args.self.now in
    costs_are _ (g.L.Lattice.lawful s.lattice) (g.K.ClashRule.settled s.clash) (g.K.ClashRule.fair s.clash) s.state c.root.result c.root-root.result c.root-2.result (cc) (cc) (cc)
