-- The lattices that we supply are lawful.
--   Keeps   what the laws ask of a formula: it rises with its entries, falls with the divisor,
--           and stays within the greatest entry
-- Assumes nothing.
use Rattle.std.proofs.Common.{◌≡◌, ℕ, ◌+◌, ◌*◌, ◌≤◌, ◌&&◌, eqb, ltb, leb, List, refl, ap, le_refl, mul-le-mul_left, arith}
use Rattle.std.proofs.lemmas.Bool.Decides.{nat_tests}
use Rattle.std.proofs.lemmas.List.{length-map}
use Rattle.std.proofs.lemmas.Bool.{cond-false, and_left, and_right, le-ltb, lt-leb, ne_eqb}
use Rattle.rates.specs.Formulas.{width, weighted, formula, up_to, supplied}
use Rattle.rates.specs.Kinds.{plain}
use Rattle.rates.specs.Model.{Lawful, capped}
use Rattle.rates.specs.declared.kind.Kind.{Kind}
use Rattle.rates.specs.declared.kind.Kind.TheVariants.{Binomial, Trinomial, WorstCase}
use Rattle.rates.specs.declared.weights.Weights.{Weights}
use Rattle.rates.proofs.Rounding.{rounded_rises, rounded_within}
use Rattle.rates.proofs.Entries.{capped_at, within_at, under_at, cond_under, cond_spread, cond_within}

record Keeps (answer : ℕ → ℕ → ℕ → ℕ → ℕ) : Type 0 where
  rises : (D E a b c x y z : ℕ) → 1000000 ≤ E → E ≤ D → a ≤ x → b ≤ y → c ≤ z → answer D a b c ≤ answer E x y z
  bound : (D a b c most : ℕ) → 1000000 ≤ D → a ≤ most → b ≤ most → c ≤ most → answer D a b c ≤ most

halves_keep : Keeps (formula Binomial)
halves_keep = record {
  rises = λ D E a b c x y z some h p q r. rounded_rises _ _ _ _ (omega arith) (omega arith) (omega arith);
  bound = λ D a b c most some p q r. let d = mul-le-mul_left most some in rounded_within _ _ _ (omega arith) (omega arith);
}

weights_keep : (w : Weights) → Keeps (weighted w.parts)
weights_keep w = record {
  rises = λ D E a b c x y z some h p q r.
      let e = mul-le-mul_left w.parts.low p in
      let f = mul-le-mul_left w.parts.level q in
      let g = mul-le-mul_left w.parts.high r in
      rounded_rises _ _ _ _ (omega arith) (omega arith) (omega arith);
  bound = λ D a b c most some p q r.
      let e = mul-le-mul_left w.parts.low p in
      let f = mul-le-mul_left w.parts.level q in
      let g = mul-le-mul_left w.parts.high r in
      let all = ap (λ (n : ℕ). n * most) w.whole in
      let d = mul-le-mul_left most some in
      rounded_within _ _ _ (omega arith) (omega arith);
}

keeps : (kind : Kind Weights) → Keeps (formula (plain kind))
keeps Binomial = halves_keep
keeps (Trinomial w) = weights_keep w
keeps (WorstCase v w) = record {
  rises = λ D E a b c x y z some h p q r.
      let e = (weights_keep v).rises D E a b c x y z some h p q r in
      let f = (weights_keep w).rises D E a b c x y z some h p q r in
      omega arith;
  bound = λ D a b c most some p q r. let e = (weights_keep v).bound D a b c most some p q r in omega arith;
}

width_root : {W : Type 0} (kind : Kind W) → width kind 0 ≡ 1
width_root Binomial = refl
width_root (Trinomial w) = refl
width_root (WorstCase v w) = refl

width_fits : {W : Type 0} (kind : Kind W) (t : ℕ) → t ≤ 64 → (1 ≤ width kind t) × (width kind t ≤ 129)
width_fits Binomial t h = (omega arith, omega arith)
width_fits (Trinomial w) t h = (omega arith, omega arith)
width_fits (WorstCase v w) t h = (omega arith, omega arith)

pub supplied_lawful : (kind : Kind Weights) (N : ℕ) (rates : List ℕ) → 1 ≤ N → N ≤ 64 → Lawful (supplied (plain kind) N rates)
supplied_lawful kind N rates one few =
    let laws = keeps kind in
    let nodes : ℕ → ℕ = up_to N (width (plain kind)) in record {
      some_steps = one;
      few_steps = few;
      one_root = let h = width_root (plain kind) in grind (arith, nat_tests);
      some_nodes = λ t h. let w = width_fits (plain kind) t (omega arith) in grind (arith, nat_tests);
      few_nodes = λ t h. let w = width_fits (plain kind) t (omega arith) in grind (arith, nat_tests);
      no_nodes = λ t h. grind (arith, nat_tests);
      no_step = λ t j s xs h. cond-false _ _ _ (and_left _ _ (le-ltb _ _ h));
      no_node = λ t j s xs h. cond-false _ _ _ (and_right (ltb t N) _ (and_left _ _ (le-ltb _ _ h)));
      no_spread = λ t j s xs h. cond-false _ _ _ (and_right (ltb t N) _ (and_right (ltb j (nodes t)) _ (and_left _ _ (lt-leb _ _ h))));
      no_row = λ t j s xs h. cond-false _ _ _ (and_right (ltb t N) _ (and_right (ltb j (nodes t)) _ (and_right (leb s 200000) _ (ne_eqb _ _ h))));
      caps = λ t j s xs. cc (length-map xs capped, capped_at xs j, capped_at xs (j + 1), capped_at xs (j + 2));
      raised = λ t j s xs ys u.
          let at = under_at xs ys u.0 u.1 in
          cond_under _ _ _ _ (ap (λ (n : ℕ). ltb t N && (ltb j (nodes t) && (leb s 200000 && eqb n (nodes (t + 1))))) u.0)
          (laws.rises _ _ _ _ _ _ _ _ (omega arith) (le_refl _) (at j) (at (j + 1)) (at (j + 2)));
      within = λ t j s most xs h.
          let at = within_at xs most h in
          cond_within _ _ most (laws.bound _ _ _ _ most (omega arith) (at j) (at (j + 1)) (at (j + 2)));
      lowered = λ t j s r xs h.
          cond_spread (ltb t N) (ltb j (nodes t)) _ s r _ _ h
          (laws.rises _ _ _ _ _ _ _ _ (omega arith) (omega arith) (le_refl _) (le_refl _) (le_refl _));
    }
