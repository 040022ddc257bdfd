use Rattle.std.proofs.Common.{◌∷◌, ◌++◌, ap, ◌∙◌}
use Rattle.record.specs.Encode.{encode, map_byte, some, some_word, list_bytes, coupon_bytes, right_bytes, coupons_in, rights_in}
use Rattle.record.specs.Puts.{record_bytes}
use Rattle.record.proofs.Putting.{word_shown, some_bytes, some_entries}
use Rattle.record.proofs.saving.Record.new.Goals as goal

pub returns-clause-bytes : goal.returns-clause-bytes
unfolding record_bytes encode
returns-clause-bytes c =
    let r = ap some_word c.written.ensures ∙ word_shown _ _ in
    let s = ap some_word c.written-2.ensures ∙ word_shown _ _ in
    let l = ap (λ t. list_bytes coupon_bytes (coupons_in t)) c.new.ensures in
    let k = ap (λ t. list_bytes right_bytes (rights_in t)) c.new-2.ensures in
    let p = ap (λ t. list_bytes right_bytes (rights_in t)) c.new-3.ensures in
    let a = ap some r ∙ some_bytes _ _ in
    let b = ap some s ∙ some_bytes _ _ in
    let d = ap some l ∙ some_entries coupon_bytes _ in
    let e = ap some k ∙ some_entries right_bytes _ in
    let f = ap some p ∙ some_entries right_bytes _ in
    (λ i. map_byte (a i) (b i) (d i) (e i) (f i) ∷ (r i ++ (s i ++ (l i ++ (k i ++ p i)))))
