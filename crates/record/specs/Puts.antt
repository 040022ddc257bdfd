-- What a writer has written, and what is written of a record's fields.
--   Put           the bytes were written at the writer's cursor, which stands after them then
--   record_map    the map of the fields that are there: those that have bytes
--   record_bytes  the map and the fields
-- Assumes nothing.
use Rattle.std.specs.Prelude.{◌≡◌, ℕ, List, ◌∷◌, ◌++◌, length}
use Rattle.record.specs.declared.writer.Writer.{Writer}
use Rattle.record.specs.declared.saving.Record.{Record}
use Rattle.record.specs.Cuts.{Wrote}
use Rattle.record.specs.Encode.{some, some_word, map_byte, list_bytes, coupon_bytes, right_bytes, coupons_in, rights_in}

pub record Put (bytes : List ℕ) (before after : Writer) : Type 0 where
  pub same : after.out.ghost_name ≡ before.out.ghost_name
  pub long : length after.out.now ≡ length before.out.now
  pub wrote : Wrote bytes before.at before.out.now after.out.now after.at

abbrev pub record_map : Record → ℕ
record_map r = map_byte (some (some_word r.redemption)) (some (some_word r.spread)) (some (list_bytes coupon_bytes (coupons_in r.coupons.table.now))) (some (list_bytes right_bytes (rights_in r.calls.table.now))) (some (list_bytes right_bytes (rights_in r.puts.table.now)))

unfoldable pub record_bytes : Record → List ℕ
record_bytes r =
    record_map r
    ∷ (some_word r.redemption
    ++ (some_word r.spread
    ++ (list_bytes coupon_bytes (coupons_in r.coupons.table.now)
    ++ (list_bytes right_bytes (rights_in r.calls.table.now)
    ++ list_bytes right_bytes (rights_in r.puts.table.now)))))
