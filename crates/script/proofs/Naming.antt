-- A word looked up in a list of names. Assumes nothing.
use Rattle.std.proofs.Common.{◌≡◌, ℕ, List, [], ◌∷◌, cond, true, false, Some, None, Option, refl, ap, ◌∙◌, Bor}
use Rattle.std.specs.List.{find}
use Rattle.std.specs.Option.{option_map, MatchOption}
use Rattle.std.specs.Str.{bytes_eq}
use Rattle.script.specs.Names.{named, spelled}

found_named : {X : Type 0} (es : List (Bor (List ℕ) × X)) (w : List ℕ) → option_map (λ e. e.1) (find (λ e. bytes_eq w e.0.now) es) ≡ named (spelled es) w
found_named [] w = refl
found_named (e ∷ es) w =
    elim (bytes_eq w e.0.now) as (λ t. option_map (λ e. e.1) (cond t (Some e) (find (λ e. bytes_eq w e.0.now) es)) ≡ cond t (Some e.1) (named (spelled es) w)) [ true ↦ refl | false ↦ found_named es w ]

-- m is what the entry r that `find` answers names
pub found_entry : {X : Type 0} (es : List (Bor (List ℕ) × X)) (w : List ℕ) (r : Option (Bor (Bor (List ℕ) × X))) (m : Option X) → option_map (λ e. e.now) r ≡ find (λ e. bytes_eq w e.0.now) es → MatchOption r (m ≡ None) (λ e. m ≡ Some e.now.1) → m ≡ named (spelled es) w
found_entry es w None m e is = is ∙ ap (option_map (λ e. e.1)) e ∙ found_named es w
found_entry es w (Some x) m e is = is ∙ ap (option_map (λ e. e.1)) e ∙ found_named es w
