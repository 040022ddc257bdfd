use Rattle.std.proofs.Common.{◌≡◌, ℕ, ◌+◌, ◌<◌, ◌≤◌, List, [], length, drop, Option, Some, None, sym, refl, ap, ◌∙◌, arith, Bor}
use Rattle.std.proofs.lemmas.List.{drop-map, drop_all, take_rest, length-map}
use Rattle.std.specs.List.{slice_range}
use Rattle.std.specs.Option.{MatchOption, unwrap_or}
use mathlib.Core.Logic.{◌⊎◌, inl, inr}
use Rattle.script.specs.Cuts.{texts}
use Rattle.script.proofs.calls.words_from.Goals as goal

rest : (ws : List (Bor (List ℕ))) (i : ℕ) (o : Option (Bor (List (Bor (List ℕ))))) (d : Bor (List (Bor (List ℕ)))) → d.now ≡ [] → MatchOption o ((length ws < i) ⊎ (length ws < length ws)) (λ x. (i ≤ length ws) × (length ws ≤ length ws) × (x.now ≡ slice_range ws i (length ws)) × (length x.now + i ≡ length ws)) → texts (unwrap_or o d).now ≡ drop i (texts ws)
rest ws i None d e (inl l) = ap texts e ∙ sym (drop_all i (texts ws) (omega (arith, length-map ws (λ w. w.now))))
rest ws i None d e (inr l) = absurd (omega arith)
rest ws i (Some x) d e h = ap texts (h.2 ∙ take_rest ws i) ∙ sym (drop-map (λ w. w.now) i ws)

pub returns : goal.returns
returns c = ap (λ (r : Bor (List (Bor (List ℕ)))). texts r.now) c.unwrap_or.ensures ∙ rest c.args.words.now c.args.i c.get.result _ refl c.get.ensures.lookup.0
