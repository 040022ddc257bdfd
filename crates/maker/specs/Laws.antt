-- The lattice of two states keeps the laws of every lattice.
--   shared_rises, shared_within   what the laws ask of the shared figure
--   two_states_lawful             the laws
-- Assumes nothing.
use Rattle.std.specs.Prelude.{ℕ, ◌+◌, ◌≤◌, ◌&&◌, ◌==◌, nat_le, nat_lt}
use Rattle.std.proofs.Common.{ap, le_refl, mul-le-mul_left, arith}
use Rattle.std.proofs.lemmas.List.{length-map}
use Rattle.std.proofs.lemmas.Bool.{cond-true, cond-false, cond_both, and_left, and_right, leb-false, le-leb, lt-leb, le-ltb, ne_eqb}
use Rattle.rates.specs.Model.{Lawful, capped}
use Rattle.rates.proofs.Entries.{capped_at, within_at, under_at, cond_under, cond_spread, cond_within}
use Rattle.rates.proofs.Rounding.{rounded_rises, rounded_within}
use Rattle.maker.specs.States.{wide, nodes_of, turned, shared, two_states}

pub shared_rises : (d e a b x y : ℕ) → 1000000 ≤ e → e ≤ d → a ≤ x → b ≤ y → shared d a b ≤ shared e x y
shared_rises d e a b x y some h p q = rounded_rises _ _ _ _ (omega arith) (omega arith) (omega arith)

pub shared_within : (d a b most : ℕ) → 1000000 ≤ d → a ≤ most → b ≤ most → shared d a b ≤ most
shared_within d a b most some p q =
    let r = mul-le-mul_left most some in
    rounded_within _ _ _ (omega arith) (omega arith)

pub two_states_lawful : (low high N : ℕ) → 1 ≤ N → N ≤ 64 → Lawful (two_states low high N)
two_states_lawful low high N one few = record {
  some_steps = one;
  few_steps = few;
  one_root = cond-true _ _ _ (le-leb 0 N (omega arith));
  some_nodes = λ t h. cond_both (nat_le t N) (wide t) 0 (λ (n : ℕ). 1 ≤ n) (λ e. omega arith) (λ e. omega (arith, leb-false t N e));
  few_nodes = λ t h. cond_both (nat_le t N) (wide t) 0 (λ (n : ℕ). n ≤ 129) (λ e. omega arith) (λ e. omega arith);
  no_nodes = λ t h. cond-false _ _ _ (lt-leb t N h);
  no_step = λ t j s xs h. cond-false _ _ _ (and_left _ _ (le-ltb _ _ h));
  no_node = λ t j s xs h. cond-false _ _ _ (and_right (nat_lt t N) _ (and_left _ _ (le-ltb _ _ h)));
  no_spread = λ t j s xs h. cond-false _ _ _ (and_right (nat_lt t N) _ (and_right (nat_lt j (nodes_of N t)) _ (and_left _ _ (lt-leb _ _ h))));
  no_row = λ t j s xs h.
      cond-false _ _ _
      (and_right (nat_lt t N) _ (and_right (nat_lt j (nodes_of N t)) _ (and_right (nat_le s 200000) _ (ne_eqb _ _ h))));
  caps = λ t j s xs. cc (length-map xs capped, capped_at xs j, capped_at xs (turned j));
  raised = λ t j s xs ys u.
      let at = under_at xs ys u.0 u.1 in
      cond_under _ _ _ _ (ap (λ (n : ℕ). nat_lt t N && (nat_lt j (nodes_of N t) && (nat_le s 200000 && n == nodes_of N (t + 1)))) u.0)
      (shared_rises _ _ _ _ _ _ (omega arith) (le_refl _) (at j) (at (turned j)));
  within = λ t j s most xs h.
      let at = within_at xs most h in
      cond_within _ _ most (shared_within _ _ _ most (omega arith) (at j) (at (turned j)));
  lowered = λ t j s r xs h.
      cond_spread (nat_lt t N) (nat_lt j (nodes_of N t)) _ s r _ _ h
      (shared_rises _ _ _ _ _ _ (omega arith) (omega arith) (le_refl _) (le_refl _));
}
