use Rattle.std.proofs.Common.{sym}
use Rattle.record.proofs.saving.save_sheet.Goals as goal

pub returns : goal.returns
returns g c = rw (sym c.state.ensures) (record { saved = c.save_state.ensures _ })
