use Rattle.std.proofs.Common.{arith}
use Rattle.std.proofs.lemmas.List.{length-append}
use Rattle.record.specs.Puts.{record_bytes}
use Rattle.record.proofs.saving.Record.size.Goals as goal

pub returns : goal.returns
unfolding record_bytes
returns c = simp length-append (omega (arith, c.size.ensures.is, c.size-2.ensures.is, c.size-3.ensures.is, c.size-4.ensures.is, c.size-5.ensures.is))
