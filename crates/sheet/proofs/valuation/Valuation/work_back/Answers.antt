use Rattle.std.proofs.Common.{◌≡◌, ℕ, suc, ◌+◌, ◌-◌, ◌<◌, ◌≤◌, true, false, List, length, get_or, take, sym, refl, ap, ◌∙◌, arith, rules}
use Rattle.std.proofs.lemmas.List.{length-take-le}
use Rattle.rates.specs.Model.{Lawful, Model}
use Rattle.game.specs.Stored.{all_nodes, offset, rewritten}
use Rattle.game.specs.Working.{back_figure, back_mark, over}
use Rattle.game.proofs.Rows.{count_few, offset_more, offset_top, rewritten_none, rewritten_more}
use Rattle.game.proofs.Backward.{back_small, none_over}
use Rattle.sheet.specs.Prices.{laid}
use Rattle.sheet.proofs.Stepping.{Holds, stepped_figure_is, stepped_mark_is, found_holds, front_is}
use Rattle.sheet.proofs.valuation.Valuation.work_back.Goals as goal

-- A row of the step u - 1, laid before those of the steps from u on.
module _ (m : Model) (u n to : ℕ) (below : 0 < u) (place : to ≡ offset m u) (count : n ≡ m.count (u - 1)) where
  from_is : to - n ≡ offset m (u - 1)
  from_is = let up : u ≡ u - 1 + 1 = omega arith in omega (arith, offset_more m (u - 1), ap (offset m) up)

  module _ (laws : Lawful m) (front row : List ℕ) (wide : length front ≡ 129) (room : all_nodes m ≤ length row) where
    fits : to - n + length (take (n - 0) front) ≤ length row
    fits = omega (arith, from_is, count_few laws (u - 1), length-take-le (n - 0) front (omega (arith, count_few laws (u - 1))), offset_top laws (u - 1))

    laid_more : (F : ℕ → ℕ → ℕ) (w : ℕ) (held : List ℕ) → u ≤ w → held ≡ rewritten m row F u (w - u) → ((j : ℕ) → j < m.count (u - 1) → get_or front j 0 ≡ F (u - 1) j) → laid held (to - n) (take (n - 0) front) ≡ rewritten m row F (u - 1) (w - (u - 1))
    laid_more F w held late is nodes =
        let up : u ≡ u - 1 + 1 = omega arith in
        let more : suc (w - u) ≡ w - (u - 1) = omega arith in
        let long : offset m (u - 1 + 1) ≤ length row = omega (arith, offset_top laws (u - 1), offset_more m (u - 1)) in
        rewritten_more m F row held (take (n - 0) front) (u - 1) (w - u) (to - n) long from_is (is ∙ ap (λ t. rewritten m row F t (w - u)) up) (front_is m F (u - 1) (n - 0) front (omega arith) (omega (arith, count_few laws (u - 1))) nodes)
        ∙ ap (rewritten m row F (u - 1)) more

pub loop-t-init : goal.loop-t-init
loop-t-init g c =
    let m = g.L.Lattice.model c.args.self.now.lattice.now in
    let σ = g.K.ClashRule.settled c.args.self.now.clash.now in
    let b = c.args.self.now.terms.now in
    let s = c.args.self.now.spread in
    let w = c.args.first in
    let v = c.args.values.now in
    let z : w - w ≡ 0 = omega arith in (
      omega arith,
      c.offset-to.ensures,
      search rules,
      refl,
      found_holds m σ b s w v (g.L.Lattice.lawful c.args.self.now.lattice.now) c.load.result c.load.ensures,
      rw z (rewritten_none m (back_figure m σ b s w v) v w),
      rw z (rewritten_none m (back_mark m σ b s w v) c.args.marks.now w),
    )

-- no figure is above the limit
pub returns-then-over_limit : goal.returns-then-over_limit
returns-then-over_limit g c =
    let m = g.L.Lattice.model c.args.self.now.lattice.now in
    let laws = g.L.Lattice.lawful c.args.self.now.lattice.now in
    let σ = g.K.ClashRule.settled c.args.self.now.clash.now in
    let b = c.args.self.now.terms.now in
    let s = c.args.self.now.spread in
    let w = c.args.first in
    let v = c.args.values.now in
    let u = c.loop-t.t in
    let n = c.nodes-count.result - 0 in
    let inv = c.loop-t.invariant in
    let low : u - 1 < w = omega arith in
    let new = front_is m (back_figure m σ b s w v) (u - 1) n c.work_step.new.step.figures (omega arith) (omega (arith, count_few laws (u - 1))) (λ j h. c.work_step.ensures.figures j h ∙ stepped_figure_is m σ b s w v (u - 1) u c.loop-t.step.figures low (omega arith) inv.4 j) in
    let small = none_over (back_figure m σ b s w v (u - 1)) 0 (m.count (u - 1)) (λ j. back_small m laws σ (g.K.ClashRule.fair c.args.self.now.clash.now) b s c.args.self.now.priced w v (u - 1) j c.requires.redeemable low) in
    let e : true ≡ false = sym c.if-over_limit.true ∙ c.over_limit.ensures ∙ ap over new ∙ small in
    let z : ◌≡◌ {A = ℕ} 0 1 = cc in
    absurd (omega arith)

pub overflow_sub-from : goal.overflow_sub-from
overflow_sub-from g c =
    let m = g.L.Lattice.model c.args.self.now.lattice.now in
    let up : c.loop-t.t ≡ c.loop-t.t - 1 + 1 = omega arith in
    omega (arith, offset_more m (c.loop-t.t - 1), ap (offset m) up)

pub lay-requires : goal.lay-requires
lay-requires g c = fits _ c.loop-t.t c.nodes-count.result c.loop-t.to (omega arith) c.loop-t.invariant.1 (omega arith) (g.L.Lattice.lawful c.args.self.now.lattice.now) c.work_step.new.step.figures c.loop-t.values (omega arith) (omega arith)

pub lay-requires-in-loop-t : goal.lay-requires-in-loop-t
lay-requires-in-loop-t g c = fits _ c.loop-t.t c.nodes-count.result c.loop-t.to (omega arith) c.loop-t.invariant.1 (omega arith) (g.L.Lattice.lawful c.args.self.now.lattice.now) c.work_step.new.step.marks c.loop-t.marks (omega arith) (omega arith)

pub loop-t-preserved : goal.loop-t-preserved
loop-t-preserved g c =
    let m = g.L.Lattice.model c.args.self.now.lattice.now in
    let laws = g.L.Lattice.lawful c.args.self.now.lattice.now in
    let σ = g.K.ClashRule.settled c.args.self.now.clash.now in
    let b = c.args.self.now.terms.now in
    let s = c.args.self.now.spread in
    let w = c.args.first in
    let v = c.args.values.now in
    let k = c.args.marks.now in
    let u = c.loop-t.t in
    let inv = c.loop-t.invariant in
    let low : u - 1 < w = omega arith in
    let up : u ≡ u - 1 + 1 = omega arith in
    let n = c.nodes-count.result in
    let count : n ≡ m.count (u - 1) = omega arith in
    let F = back_figure m σ b s w v in
    let G = back_mark m σ b s w v in
    let figures : Holds m σ b s w v (u - 1) c.work_step.new.step.figures = λ j h. c.work_step.ensures.figures j h ∙ stepped_figure_is m σ b s w v (u - 1) u c.loop-t.step.figures low up inv.4 j in
    let marks : (j : ℕ) → j < m.count (u - 1) → get_or c.work_step.new.step.marks j 0 ≡ G (u - 1) j = λ j h. c.work_step.ensures.marks j h ∙ stepped_mark_is m σ b s w v (u - 1) u c.loop-t.step.figures low up inv.4 j in (
      omega arith,
      from_is m u n c.loop-t.to (omega arith) inv.1 count,
      search rules,
      search rules,
      figures,
      c.lay.ensures.laid ∙ laid_more m u n c.loop-t.to (omega arith) inv.1 count laws c.work_step.new.step.figures v (omega arith) (omega arith) F w c.loop-t.values (omega arith) inv.5 figures,
      c.lay-in-loop-t.ensures.laid ∙ laid_more m u n c.loop-t.to (omega arith) inv.1 count laws c.work_step.new.step.marks k (omega arith) (omega arith) G w c.loop-t.marks (omega arith) inv.6 marks,
    )

pub returns : goal.returns
returns g c =
    let at : c.loop-t.t ≡ c.args.first - c.args.n = omega (arith, c.loop-t.invariant.0) in
    let few : c.args.first - c.loop-t.t ≡ c.args.n = omega (arith, c.loop-t.invariant.0) in
    record { done = refl; values = rw (few, at) at c.loop-t.invariant.5; marks = rw (few, at) at c.loop-t.invariant.6 }
