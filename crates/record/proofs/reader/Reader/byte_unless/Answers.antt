use Rattle.std.proofs.Common.{Ok, Err, slice_index, sym, ◌∙◌, rules}
use Rattle.record.specs.declared.fault.RecordFault.TheVariants.{Form}
use Rattle.record.specs.Decode.{byte_form}
use Rattle.record.proofs.Cutting.{part_short, part_cut, exit}
use Rattle.record.proofs.reader.Reader.byte_unless.Goals as goal

pub returns-in_err-part-clause-got : goal.returns-in_err-part-clause-got
returns-in_err-part-clause-got g c test says = exit _ _ c.from_residual.ensures.1 (part_short 1 (byte_form test) _ _ c.in_err-part.ensures.got)

pub returns-then-bad-clause-got : goal.returns-then-bad-clause-got
returns-then-bad-clause-got g c test says =
    let b = sym (says _ _ (search rules) c.bad.ensures) ∙ c.if-bad.true in
    part_cut 1 (byte_form test) _ _ {r = Err (Form c.in_ok-part.part.place)} c.in_ok-part.ensures.got (rw b)

pub returns-clause-got : goal.returns-clause-got
returns-clause-got g c test says =
    let b = sym (says _ _ (search rules) c.bad.ensures) ∙ c.if-bad.false in
    part_cut 1 (byte_form test) _ _ {r = Ok (slice_index c.in_ok-part.part.bytes.now 0)} c.in_ok-part.ensures.got (rw b)
