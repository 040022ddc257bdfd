-- The clash rule that a host chose at run time.
--   rule_of    the rule that each choice names
-- Assumes nothing.
use Rattle.std.specs.Prelude.{ℕ}
use Rattle.game.specs.declared.clash.AnyClash.{AnyClash}
use Rattle.game.specs.declared.clash.AnyClash.TheVariants.{PutPrevails, CallPrevails, Halfway}
use Rattle.game.specs.Clash.{Fair, put_prevails, put_fair, call_prevails, call_fair, halfway, halfway_fair}

abbrev pub rule_of : AnyClash → ℕ → ℕ → ℕ
rule_of PutPrevails = put_prevails
rule_of CallPrevails = call_prevails
rule_of Halfway = halfway

pub rule_fair : (x : AnyClash) → Fair (rule_of x)
rule_fair PutPrevails = put_fair
rule_fair CallPrevails = call_fair
rule_fair Halfway = halfway_fair
