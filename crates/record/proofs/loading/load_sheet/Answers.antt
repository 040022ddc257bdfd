use Rattle.std.proofs.Common.{sym, ◌∙◌, arith}
use Rattle.record.specs.Decode.{decode}
use Rattle.record.proofs.Promised.{loaded_whole}
use Rattle.record.proofs.loading.load_sheet.Goals as goal

pub returns-clause-loaded : goal.returns-clause-loaded
returns-clause-loaded g c =
    let s = c.args.sheet.now in
    let m = g.L.Lattice.model s.lattice in
    let draft = c.fill.new.self.draft in
    let steps = c.fill.ensures.steps ∙ c.draft.ensures.steps in
    let dec = sym (c.in_ok-fill.ensures.filled ∙ (λ i. decode (c.draft.ensures.steps i) (c.new.ensures.0 i))) in
    loaded_whole m (g.K.ClashRule.settled s.clash) c.args.bytes.now s.state draft.state c.adopt.result (g.L.Lattice.lawful s.lattice).few_steps (λ i. omega (arith, c.type_inv.bytes i)) steps draft.unworked dec c.adopt.ensures.adopted c.at_place.ensures
