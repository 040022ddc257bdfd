use Rattle.std.proofs.Common.{[], ◌∷◌, ap, ◌∙◌}
use Rattle.rates.specs.Model.{Model}
use Rattle.bonds.proofs.rolls.rolled.Goals as goal

pub returns : goal.returns
returns c =
    c.roll.ensures
    ∙ ap (λ (m : Model). m.rolled 0 0 0 (100 ∷ 200 ∷ 400 ∷ [])) c.in_ok-lattice.ensures.stands
