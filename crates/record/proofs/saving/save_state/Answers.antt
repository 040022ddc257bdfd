use Rattle.std.proofs.Common.{length, ap, ◌∙◌, rules}
use Rattle.record.proofs.Promised.{saved_not, saved_whole}
use Rattle.record.proofs.saving.save_state.Goals as goal

pub returns-then-out-needed : goal.returns-then-out-needed
returns-then-out-needed c n = saved_not c.args.state.now c.args.out.now c.new-record.ensures.tables n (c.size-needed.ensures ∙ ap length c.new-record.ensures.bytes) c.if-out-needed.true

pub returns : goal.returns
returns c n = saved_whole c.args.state.now c.args.out.now c.new-record.ensures.tables n c.size-needed.ensures c.new-record.ensures.bytes c.if-out-needed.false c.new.ensures.all c.new.ensures.front c.put.ensures (search rules)
