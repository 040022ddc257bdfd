-- Best play at a node, and what a plan that follows marks is.
--   issuer, holder   the plans that marks are: nodes marked 1 or 3, nodes marked 2 or 3
--   BestPlay         at a node: the marks played against each other give its figure; no call plan lowers it
--                    against the holder's marks; no put plan raises it against the issuer's
-- Assumes nothing.
use Rattle.std.specs.Prelude.{◌≡◌, ℕ, ◌≤◌}
use Rattle.rates.specs.Model.{Model}
use Rattle.game.specs.declared.terms.Terms.{Terms}
use Rattle.game.specs.Rule.{calls, puts}
use Rattle.game.specs.Game.{Plan, played}

abbrev pub issuer : (ℕ → ℕ → ℕ) → Plan
issuer marks t j = calls (marks t j)

abbrev pub holder : (ℕ → ℕ → ℕ) → Plan
holder marks t j = puts (marks t j)

-- figures and marks: those of each step and node
pub record BestPlay (m : Model) (σ : ℕ → ℕ → ℕ) (b : Terms) (s : ℕ) (figures marks : ℕ → ℕ → ℕ) (t j : ℕ) : Type 0 where
  pub marks_meet : played m σ b s (issuer marks) (holder marks) t j ≡ figures t j
  pub no_call_plan_lowers : (p : Plan) → figures t j ≤ played m σ b s p (holder marks) t j
  pub no_put_plan_raises : (q : Plan) → played m σ b s (issuer marks) q t j ≤ figures t j
