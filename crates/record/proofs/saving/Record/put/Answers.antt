use Rattle.std.proofs.Common.{◌∷◌, [], drop, arith}
use Rattle.record.specs.Encode.{list_bytes, right_bytes, rights_in}
use Rattle.record.specs.Puts.{record_map, record_bytes}
use Rattle.record.proofs.Putting.{Left, left_all, left_room, left_on}
use Rattle.record.proofs.saving.Record.put.Goals as goal
use Rattle.record.proofs.saving.Record.put.Goals.{After-put, After-put-5}

-- what is left to write after the map, and after the calls
map_put : (c : After-put) → Left (drop 1 (record_bytes c.args.self.now)) c.put.new.self (record_bytes c.args.self.now) c.args.writer.now
unfolding record_bytes
map_put c = left_on (record_map c.args.self.now ∷ []) _ (left_all c.args.writer.now c.requires) (rw c.map.ensures at c.put.ensures)

calls_put : (c : After-put-5) → Left (drop 1 (record_bytes c.args.self.now)) c.put.new.self (record_bytes c.args.self.now) c.args.writer.now → Left (list_bytes right_bytes (rights_in c.args.self.now.puts.table.now)) c.put-5.new.writer (record_bytes c.args.self.now) c.args.writer.now
unfolding record_bytes
calls_put c l = left_on _ _ (left_on _ _ (left_on _ _ (left_on _ _ l c.put-2.ensures) c.put-3.ensures) c.put-4.ensures) c.put-5.ensures

pub put-requires : goal.put-requires
unfolding record_bytes
put-requires c = left_room (record_map c.args.self.now ∷ []) _ (left_all c.args.writer.now c.requires)

pub put-requires-2 : goal.put-requires-2
unfolding record_bytes
put-requires-2 c = left_room _ _ (map_put (goal.at.put-requires-2 c).After-put)

pub put-requires-3 : goal.put-requires-3
unfolding record_bytes
put-requires-3 c = left_room _ _ (left_on _ _ (map_put (goal.at.put-requires-3 c).After-put) c.put-2.ensures)

pub put-requires-4 : goal.put-requires-4
unfolding record_bytes
put-requires-4 c = (omega arith, left_room _ _ (left_on _ _ (left_on _ _ (map_put (goal.at.put-requires-4 c).After-put) c.put-2.ensures) c.put-3.ensures))

pub put-requires-5 : goal.put-requires-5
unfolding record_bytes
put-requires-5 c = (omega arith, left_room _ _ (left_on _ _ (left_on _ _ (left_on _ _ (map_put (goal.at.put-requires-5 c).After-put) c.put-2.ensures) c.put-3.ensures) c.put-4.ensures))

pub put-requires-6 : goal.put-requires-6
unfolding record_bytes
put-requires-6 c =
    let at = goal.at.put-requires-6 c in
    (omega arith, (calls_put at.After-put-5 (map_put at.After-put)).room)

pub returns : goal.returns
unfolding record_bytes
returns c =
    let at = goal.at.returns c in
    (calls_put at.After-put-5 (map_put at.After-put)).rest _ c.put-6.ensures
