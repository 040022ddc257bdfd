-- What the users of a sheet share, of its state and of what they lend it.
--   held   these as one
--   Kept   what they lend is still what they lent
-- Assumes nothing.
use Rattle.std.specs.Prelude.{◌≡◌}
use Rattle.sheet.specs.declared.state.State.{State}
use Rattle.session.specs.declared.perform.Lent.{Lent}
use Rattle.session.specs.Runs.{Shared, shared}

abbrev pub held : State → Lent → Shared
held s l = shared s l.values.now l.marks.now l.output.now l.used

pub record Kept (before after : Lent) : Type 0 where
  pub values : after.values.ghost_name ≡ before.values.ghost_name
  pub marks : after.marks.ghost_name ≡ before.marks.ghost_name
  pub output : after.output.ghost_name ≡ before.output.ghost_name
