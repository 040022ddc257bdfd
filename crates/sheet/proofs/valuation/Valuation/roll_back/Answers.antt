use Rattle.std.proofs.Common.{◌≡◌, ◌+◌, ◌-◌, ◌≤◌, map, length, take, ap, ◌∙◌, arith}
use Rattle.std.specs.List.{range_with_len}
use Rattle.std.proofs.lemmas.List.{take_at, length-map, length-take-le}
use Rattle.game.proofs.Rows.{count_few}
use Rattle.sheet.proofs.Rolling.{rolled_node}
use Rattle.sheet.proofs.valuation.Valuation.roll_back.Goals as goal

pub returns : goal.returns
returns g c =
    let laws = g.L.Lattice.lawful c.args.self.now.lattice.now in
    let m = g.L.Lattice.model c.args.self.now.lattice.now in
    let t = c.args.t in
    let s = c.args.self.now.spread in
    let row = c.args.row.now in
    let added = c.add_coupon.new.row in
    let w = c.nodes-w.result - 0 in
    let n = c.nodes-n.result - 0 in
    let wide : w ≤ length row = omega (arith, count_few laws (t + 1)) in
    let tall : n ≤ length row = omega (arith, count_few laws t) in
    let long : length added ≡ w = ap length c.add_coupon.ensures ∙ length-map (take w row) _ ∙ length-take-le w row wide in
    let out : c.roll_row.new.out ≡ map (λ j. m.rolled t j s added) (range_with_len 0 n) =
    c.roll_row.ensures
    ∙ ap (λ xs. map (λ j. m.rolled t j s xs) (range_with_len 0 (length (take n row)))) (take_at added _ w long)
    ∙ ap (λ k. map (λ j. m.rolled t j s added) (range_with_len 0 k)) (length-take-le n row tall) in
    rolled_node laws c.args.self.now.terms.now s t n w row added c.roll_row.new.out _ (omega arith) (omega arith) wide c.add_coupon.ensures out
