use Rattle.std.proofs.Common.{◌≡◌, ℕ, ◌+◌, get_or, set, ap, ◌∙◌, arith}
use Rattle.std.proofs.lemmas.List.{get_or_default}
use Rattle.std.proofs.lemmas.List.Edits.{map_over_more}
use Rattle.rates.specs.Model.{capped}
use Rattle.sheet.proofs.rows.add_coupon.Goals as goal

pub loop-x-preserved : goal.loop-x-preserved
loop-x-preserved c =
    let i = c.loop-x.x-index in
    let f : ℕ → ℕ = λ v. capped (v + c.args.coupon) in
    let x : ℕ = get_or c.loop-x.row i 0 in
    let e : c.min-in-loop-x.result ≡ capped (x + c.args.coupon) = omega arith in
    ap (set c.loop-x.row i) e
    ∙ map_over_more f c.args.row.now c.loop-x.row i x (omega arith) c.loop-x.invariant (get_or_default c.loop-x.row i 0 x (omega arith))
