use Rattle.std.proofs.Common.{◌≡◌, is_some, ltb, sym, ap, ◌∙◌, rules}
use Rattle.record.specs.Encode.{map_byte, list_bytes, coupon_bytes, right_bytes, coupons_in, rights_in}
use Rattle.record.proofs.Writing.{some_long}
use Rattle.record.proofs.Putting.{some_is}
use Rattle.record.proofs.saving.Record.map.Goals as goal

pub returns : goal.returns
returns c =
    let r = c.args.self.now in
    let a = sym (some_is r.redemption) in
    let b = sym (some_is r.spread) in
    let d = ap (ltb 0) c.size.ensures.is ∙ some_long (list_bytes coupon_bytes (coupons_in r.coupons.table.now)) in
    let e = ap (ltb 0) c.size-2.ensures.is ∙ some_long (list_bytes right_bytes (rights_in r.calls.table.now)) in
    let f = ap (ltb 0) c.size-3.ensures.is ∙ some_long (list_bytes right_bytes (rights_in r.puts.table.now)) in
    let m : _ ≡ map_byte (is_some r.redemption) (is_some r.spread) (ltb 0 c.size.result) (ltb 0 c.size-2.result) (ltb 0 c.size-3.result) = search rules in
    m ∙ (λ i. map_byte (a i) (b i) (d i) (e i) (f i))
