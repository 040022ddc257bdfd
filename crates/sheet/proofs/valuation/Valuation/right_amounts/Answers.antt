use Rattle.std.proofs.Common.{◌≡◌, suc, ◌+◌, ◌-◌, ◌<◌, get_or, sym, refl, ap, ◌∙◌, arith}
use Rattle.std.proofs.lemmas.List.{get_or-replicate}
use Rattle.game.specs.Game.{stream}
use Rattle.game.proofs.Rolls.{roll_same}
use Rattle.game.proofs.Rows.{count_few}
use Rattle.sheet.proofs.valuation.Valuation.right_amounts.Goals as goal

pub loop-u-init : goal.loop-u-init
loop-u-init g c = (
  omega arith,
  λ j h.
      let m = g.L.Lattice.model c.args.self.now.lattice.now in
      let last = c.args.t + c.from.result in
      let few : j < 129 = omega (arith, count_few (g.L.Lattice.lawful c.args.self.now.lattice.now) last) in
      let e : 0 ≡ last - last = omega arith in
      get_or-replicate 129 j c.args.right.price 0 few
      ∙ ap (λ k. stream m c.args.self.now.terms.now c.args.self.now.spread c.args.right.price k last j) e,
)

pub loop-u-preserved : goal.loop-u-preserved
loop-u-preserved g c = (
  omega arith,
  λ j h.
      let m = g.L.Lattice.model c.args.self.now.lattice.now in
      let b = c.args.self.now.terms.now in
      let s = c.args.self.now.spread in
      let x = c.args.right.price in
      let last = c.args.t + c.from.result in
      let u = c.loop-u.u in
      let up : u - 1 + 1 ≡ u = omega arith in
      let e : suc (last - u) ≡ last - (u - 1) = omega arith in
      c.roll_back.ensures j h
      ∙ roll_same m b b s (u - 1) j (λ i. get_or c.loop-u.row i 0) (stream m b s x (last - u) (u - 1 + 1)) refl
      (λ i l. c.loop-u.invariant.1 i (omega (arith, ap m.count up)) ∙ ap (λ v. stream m b s x (last - u) v i) (sym up))
      ∙ ap (λ d. stream m b s x d (u - 1) j) e,
)

pub returns : goal.returns
returns g c = λ j h.
    let m = g.L.Lattice.model c.args.self.now.lattice.now in
    let r = c.args.right in
    let at : c.loop-u.u ≡ c.args.t = omega (arith, c.loop-u.invariant.0) in
    let e : c.args.t + c.from.result - c.loop-u.u ≡ r.notice = omega arith in
    c.loop-u.invariant.1 j (omega (arith, ap m.count at))
    ∙ ap (λ k. stream m c.args.self.now.terms.now c.args.self.now.spread r.price k c.loop-u.u j) e
    ∙ ap (λ v. stream m c.args.self.now.terms.now c.args.self.now.spread r.price r.notice v j) at
