use Rattle.std.proofs.Common.{◌≡◌, sym, ◌∙◌, arith}
use lib.Count.{ones_step}
use Rattle.std.proofs.lemmas.Nat.{zero_from_ones}
use Rattle.record.proofs.fields.Fields.take.Goals as goal

pub returns-then-self-eq0 : goal.returns-then-self-eq0
returns-then-self-eq0 c =
    let z : c.args.self.now.bits ≡ 0 = zero_from_ones _ (sym c.args.self.now.counted ∙ c.if-self-eq0.true) in
    record { found = rw z; rest = rw z }

pub invariant_of-self : goal.invariant_of-self
invariant_of-self c = record { counted = omega (arith, ones_step c.args.self.now.bits, c.args.self.now.counted) }

pub invariant_of-self-else-found : goal.invariant_of-self-else-found
invariant_of-self-else-found c = record { counted = omega (arith, ones_step c.args.self.now.bits, c.args.self.now.counted) }
