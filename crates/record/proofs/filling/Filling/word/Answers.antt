use Rattle.std.proofs.Common.{sym, ap, ◌∙◌}
use Rattle.record.specs.Decode.{checked, word_form, word_at}
use Rattle.record.specs.Fills.{word_absent, word_lens, word_fault}
use Rattle.record.specs.Enters.{word_tests, word_enters}
use Rattle.record.proofs.Cutting.{part_short, part_formless, part_checked, exit}
use Rattle.record.proofs.Accepting.{tried, yields_as}
use Rattle.record.proofs.filling.Filling.word.Goals as goal

pub returns-then-not-present-clause-got : goal.returns-then-not-present-clause-got
unfolding word_at
returns-then-not-present-clause-got c = rw c.if-not-present.true

pub returns-in_err-part-clause-got : goal.returns-in_err-part-clause-got
unfolding word_at
returns-in_err-part-clause-got c = let w = c.args.word in rw c.if-not-present.false (exit _ _ c.from_residual.ensures.1 (part_short 4 (checked (word_fault w) (word_form (word_absent w))) _ _ c.in_err-part.ensures.got))

pub returns-in_err-value-clause-got : goal.returns-in_err-value-clause-got
unfolding word_at
returns-in_err-value-clause-got c = let w = c.args.word in rw c.if-not-present.false (exit _ _ c.from_residual-in_err-value.ensures.1 (part_formless 4 (word_fault w) (word_form (word_absent w)) _ _ c.in_ok-part.ensures.got (sym c.in_err-value.ensures)))

pub returns : goal.returns
unfolding word_at
returns c =
    let w = c.args.word in
    let d = c.args.self.now.draft in
    let v = c.in_ok-value.value in
    let at = c.part.new.self.at in
    let t = tried (word_lens w) v d.steps d.state c.edit.ensures (word_tests w d.steps d.state v) (λ _. word_enters w d.steps d.state v d.unworked) c.edit-2.ensures.answers c.edit-2.ensures.leaves c.at_place.ensures in
    record {
      filled = record { kept = c.part.ensures.kept; steps = c.edit-2.ensures.same; leaves = t.leaves };
      got = rw c.if-not-present.false (
          yields_as _ _ (v, at) (λ z. ap (λ x. (x, at)) (t.put z))
          ∙ part_checked 4 (word_fault w) (word_form (word_absent w)) _ _ _ c.in_ok-part.ensures.got (sym c.in_ok-value.ensures) t.told);
    }
