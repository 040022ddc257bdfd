use Rattle.std.proofs.Common.{◌≡◌, ℕ, Bool, List, length, not, eqb, ltb, cond, drop, Some, None, ap, ◌∙◌, subst, rules, tests, IfOk}
use Rattle.std.specs.List.{position_or_len}
use Rattle.std.proofs.lemmas.List.{take_rest}
use Rattle.std.proofs.lemmas.Iterator.{YieldsList-from_slice}
use Rattle.std.proofs.lemmas.Iterator.Search.{position_from_yields_List}
use Rattle.std.proofs.lemmas.Iterator.Consumers.{map_from_collect, YieldsList-at, YieldsList-from_filter}
use Rattle.std.proofs.lemmas.Iterator.Splits.{YieldsList-from_slice_split}
use Rattle.script.specs.Cuts.{cuts, filled, pieces, texts}
use Rattle.script.specs.declared.cuts.Mark.TheVariants.{Blank}
use Rattle.script.proofs.Pieces.{words_split, marks_alone, past_first}
use Rattle.script.proofs.words.words_of.Goals as goal
use Rattle.script.proofs.words.words_of.Goals.{After-position}

abbrev other : ℕ → Bool
other b = not (cuts Blank b)

found : (c : After-position) → c.position.result ≡ cond (ltb (position_or_len other c.before_mark-text.result.now) (length c.before_mark-text.result.now)) (Some (position_or_len other c.before_mark-text.result.now)) None
found c = position_from_yields_List other _ _ c.position.result c.position.ensures.ran (YieldsList-from_slice c.before_mark-text.result.now c.iter.ensures.rest) (λ x b q k. search (rules, tests))

pub returns-in_default : goal.returns-in_default
returns-in_default c =
    ap texts c.new.ensures.items
    ∙ marks_alone (cuts Blank) c.before_mark-text.result.now c.position.result (found (goal.at.returns-in_default c).After-position) c.in_default.is
    ∙ ap (λ (bs : List ℕ). filled (pieces (cuts Blank) bs)) c.before_mark-text.ensures

pub returns : goal.returns
returns c =
    let words =
    words_split (cuts Blank) (drop c.in-Some.first c.before_mark-text.result.now)
    ∙ past_first (cuts Blank) c.before_mark-text.result.now c.position.result (found (goal.at.returns c).After-position) c.in-Some.first c.in-Some.is
    ∙ ap (λ (bs : List ℕ). filled (pieces (cuts Blank) bs)) c.before_mark-text.ensures in
    subst (λ (ws : List (List ℕ)). IfOk c.collect.result (λ v. texts v.items ≡ ws)) words
    (map_from_collect _ c.collect.ensures.ran
    (YieldsList-from_filter _ (λ (w : List ℕ). not (eqb (length w) 0))
    (YieldsList-at c.filter.ensures.source
    (YieldsList-from_slice_split _ (cuts Blank) (drop c.in-Some.first c.before_mark-text.result.now) (c.split.ensures.rest ∙ take_rest c.before_mark-text.result.now c.in-Some.first) c.split.ensures.done c.split.ensures.closure (λ x r q k. search (rules, tests))))
    c.filter.ensures.closure (λ x r q k. search (rules, tests))))
