-- What is said of a valuation, said of what it is made of. Assumes nothing.
use Rattle.std.proofs.Common.{◌≡◌, ap, ◌∙◌, subst}

pub of_parts : {A B C D X : Type 0} (f : A → B → C → D → X) {a a' : A} {b b' : B} {c c' : C} {d d' : D} → a ≡ a' → b ≡ b' → c ≡ c' → d ≡ d' → f a b c d ≡ f a' b' c' d'
of_parts f {a} {a'} {b} {b'} {c} {c'} {d} {d'} e g h i = ap (λ x. f x b c d) e ∙ ap (λ y. f a' y c d) g ∙ ap (λ z. f a' b' z d) h ∙ ap (f a' b' c') i

pub with_parts : {A B C : Type 0} (P : A → B → C → Type 0) {a a' : A} {b b' : B} {c c' : C} → a ≡ a' → b ≡ b' → c ≡ c' → P a b c → P a' b' c'
with_parts P {a} {a'} {b} {b'} {c} {c'} e g h p = subst (P a' b') h (subst (λ y. P a' y c) g (subst (λ x. P x b c) e p))
