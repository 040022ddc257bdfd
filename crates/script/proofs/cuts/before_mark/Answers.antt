use Rattle.std.proofs.Common.{rules, tests, ℕ, ap, ◌∙◌, take}
use Rattle.std.proofs.lemmas.Iterator.{YieldsList-from_slice}
use Rattle.std.proofs.lemmas.Iterator.Search.{position_from_yields_List}
use Rattle.script.specs.Cuts.{cuts}
use Rattle.script.proofs.Pieces.{before_is}
use Rattle.script.proofs.cuts.before_mark.Goals as goal

pub returns : goal.returns
returns c =
    ap (λ (n : ℕ). take n c.args.text.now) c.unwrap_or-end.ensures
    ∙ before_is (cuts c.args.mark) c.args.text.now c.position.result
    (position_from_yields_List (cuts c.args.mark) _ _ c.position.result c.position.ensures.ran (YieldsList-from_slice c.args.text.now c.iter.ensures.rest) (λ x b q k. search (rules, tests)))
