-- What a read of a field leaves.
--   Filled  the record, the steps and all other fields are as they were
-- Assumes nothing.
use Rattle.std.specs.Prelude.{◌≡◌}
use Rattle.record.specs.declared.filling.Filling.{Filling}
use Rattle.record.specs.Fills.{Lens}

pub record Filled {X : Type 0} (field : Lens X) (before after : Filling) : Type 0 where
  pub kept : after.reader.src.now ≡ before.reader.src.now
  pub steps : after.draft.steps ≡ before.draft.steps
  pub leaves : after.draft.state ≡ field.with before.draft.state (field.of after.draft.state)
