-- A number read digit by digit, and numbers word by word. Assumes nothing.
use Rattle.std.proofs.Common.{◌≡◌, ℕ, ◌+◌, ◌-◌, ◌*◌, ◌^◌, ◌<◌, ◌≤◌, cond, List, [], ◌∷◌, ◌++◌, length, get_or, drop, Some, None, Option, sym, refl, ap, ◌∙◌, arith, Bor}
use Rattle.std.proofs.lemmas.List.{at_drop_more}
use Rattle.std.proofs.lemmas.Bool.{cond-true, cond-false, cond_both, le-ltb}
use Rattle.std.proofs.lemmas.Option.{cond_some}
use Rattle.script.specs.Cuts.{texts}
use Rattle.script.specs.Numbers.{is_digit, value_from, limited, number_of, numbers_of}

-- once past the limit, no more digits bring it back
past_limit : (v : ℕ) (bs : List ℕ) → 2 ^ 32 ≤ v → limited (value_from v bs) ≡ None
past_limit v [] h = cond-false _ _ _ (le-ltb v (2 ^ 32) h)
past_limit v (b ∷ bs) h =
    cond_both (is_digit b) (value_from (v * 10 + (b - 48)) bs) None (λ o. limited o ≡ None) (λ _. past_limit (v * 10 + (b - 48)) bs (omega arith)) (λ _. refl)

module _ (w : List ℕ) (i v : ℕ) where
  -- v is what the first i digits are
  abbrev pub Valued : Type 0
  Valued = (v < 2 ^ 32) × (number_of w ≡ limited (value_from v (drop i w)))

  -- the digit behind them counts d
  pub too_large : Valued → i < length w → (d : ℕ) → cond (is_digit (get_or w i 0)) (Some (get_or w i 0 - 48)) None ≡ Some d → 2 ^ 32 ≤ v * 10 + d → None ≡ number_of w
  too_large h l d is m =
      let digit = cond_some _ _ _ is in
      sym (h.1 ∙ ap limited (at_drop_more (value_from v) w i 0 l ∙ cond-true _ _ _ digit.0) ∙ past_limit _ (drop (i + 1) w) (omega (arith, digit.1, m)))

-- numbers with others in front
abbrev pub behind : List ℕ → Option (List ℕ) → Option (List ℕ)
behind ns None = None
behind ns (Some ms) = Some (ns ++ ms)

module _ (ws : List (Bor (List ℕ))) (i : ℕ) (ns : List ℕ) where
  -- ns are the numbers of the first i words
  abbrev pub Numbered : Type 0
  Numbered = numbers_of (texts ws) ≡ behind ns (numbers_of (texts (drop i ws)))
