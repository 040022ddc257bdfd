use Rattle.std.proofs.Common.{nat_le, sym, refl, ap, ◌∙◌, rules, arith}
use Rattle.game.specs.declared.terms.Kind.TheVariants.{Call, Put}
use Rattle.sheet.specs.Edits.{opened}
use Rattle.record.specs.Decode.{then, part_at, map_form, redemption_at, spread_at, coupons_at, rights_at}
use Rattle.record.specs.Fills.{redemption_lens, spread_lens, coupons_lens, rights_lens}
use Rattle.record.proofs.Cutting.{exit}
use Rattle.record.proofs.Stages.{Reached, Passed, passed, ended, decode_staged, same_bit, from_redemption, from_spread, from_coupons, from_calls, from_puts, from_end}
use Rattle.record.proofs.filling.Filling.fill.Goals as goal
use Rattle.record.proofs.filling.Filling.fill.Goals.{In_ok-byte_unless, After-word, After-word-2, After-list, After-list-2, After-list-3}

-- what is left to read, after the map
map_read : (c : In_ok-byte_unless) → Reached c.args.self.now.draft.steps c.args.self.now.reader.src.now (from_redemption c.args.self.now.draft.steps c.args.self.now.reader.src.now c.in_ok-byte_unless.field-0) (record { reader = c.byte_unless.new.self; draft = c.args.self.now.draft })
map_read c =
    let n = c.args.self.now.draft.steps in
    let src = c.args.self.now.reader.src.now in
    let m = c.in_ok-byte_unless.ensures.got (nat_le 32) (λ x b h p. search rules) ∙ ap (part_at 1 map_form c.args.self.now.reader.src.now) c.requires.front in
    record {
      kept = c.byte_unless.ensures.kept;
      steps = refl;
      left = decode_staged n src ∙ ap (λ q. then q (λ m. from_redemption n src m.0 (opened n) m.1)) (sym m) ∙ ap (λ s. from_redemption n src c.in_ok-byte_unless.field-0 s c.byte_unless.new.self.at) (sym c.requires.blank);
    }

-- and after each field
redemption_read : (c : After-word) → Reached c.args.self.now.draft.steps c.args.self.now.reader.src.now (from_redemption c.args.self.now.draft.steps c.args.self.now.reader.src.now c.in_ok-byte_unless.field-0) (record { reader = c.byte_unless.new.self; draft = c.args.self.now.draft }) → Passed c.args.self.now.draft.steps c.args.self.now.reader.src.now (from_spread c.args.self.now.draft.steps c.args.self.now.reader.src.now c.in_ok-byte_unless.field-0) c.word.result c.word.new.self
redemption_read c a = passed _ _ redemption_lens (λ _. redemption_at) _ _ a (c.take.ensures.found ∙ same_bit _ _ (omega (arith, c.new-fields.ensures))) c.word.ensures.filled c.word.ensures.got

spread_read : (c : After-word-2) → Passed c.args.self.now.draft.steps c.args.self.now.reader.src.now (from_spread c.args.self.now.draft.steps c.args.self.now.reader.src.now c.in_ok-byte_unless.field-0) c.word.result c.word.new.self → Passed c.args.self.now.draft.steps c.args.self.now.reader.src.now (from_coupons c.args.self.now.draft.steps c.args.self.now.reader.src.now c.in_ok-byte_unless.field-0) c.word-2.result c.word-2.new.self
spread_read c a = passed _ _ spread_lens (λ _. spread_at) _ _ (a.on c.in_ok-word.was) (c.take-2.ensures.found ∙ same_bit _ _ (omega (arith, c.new-fields.ensures, c.take.ensures.rest))) c.word-2.ensures.filled c.word-2.ensures.got

coupons_read : (c : After-list) → Passed c.args.self.now.draft.steps c.args.self.now.reader.src.now (from_coupons c.args.self.now.draft.steps c.args.self.now.reader.src.now c.in_ok-byte_unless.field-0) c.word-2.result c.word-2.new.self → Passed c.args.self.now.draft.steps c.args.self.now.reader.src.now (from_calls c.args.self.now.draft.steps c.args.self.now.reader.src.now c.in_ok-byte_unless.field-0) c.list.result c.list.new.self
coupons_read c a = passed _ _ coupons_lens coupons_at _ _ (a.on c.in_ok-word-2.was) (c.take-3.ensures.found ∙ same_bit _ _ (omega (arith, c.new-fields.ensures, c.take.ensures.rest, c.take-2.ensures.rest))) c.list.ensures.filled c.list.ensures.got

calls_read : (c : After-list-2) → Passed c.args.self.now.draft.steps c.args.self.now.reader.src.now (from_calls c.args.self.now.draft.steps c.args.self.now.reader.src.now c.in_ok-byte_unless.field-0) c.list.result c.list.new.self → Passed c.args.self.now.draft.steps c.args.self.now.reader.src.now (from_puts c.args.self.now.draft.steps c.args.self.now.reader.src.now c.in_ok-byte_unless.field-0) c.list-2.result c.list-2.new.self
calls_read c a = passed _ _ (rights_lens Call) rights_at _ _ (a.on c.in_ok-list.was) (c.take-4.ensures.found ∙ same_bit _ _ (omega (arith, c.new-fields.ensures, c.take.ensures.rest, c.take-2.ensures.rest, c.take-3.ensures.rest))) c.list-2.ensures.filled c.list-2.ensures.got

puts_read : (c : After-list-3) → Passed c.args.self.now.draft.steps c.args.self.now.reader.src.now (from_puts c.args.self.now.draft.steps c.args.self.now.reader.src.now c.in_ok-byte_unless.field-0) c.list-2.result c.list-2.new.self → Passed c.args.self.now.draft.steps c.args.self.now.reader.src.now (from_end c.args.self.now.draft.steps c.args.self.now.reader.src.now) c.list-3.result c.list-3.new.self
puts_read c a = passed _ _ (rights_lens Put) rights_at _ _ (a.on c.in_ok-list-2.was) (c.take-5.ensures.found ∙ same_bit _ _ (omega (arith, c.new-fields.ensures, c.take.ensures.rest, c.take-2.ensures.rest, c.take-3.ensures.rest, c.take-4.ensures.rest))) c.list-3.ensures.filled c.list-3.ensures.got

pub returns-in_err-byte_unless-clause-filled : goal.returns-in_err-byte_unless-clause-filled
returns-in_err-byte_unless-clause-filled c =
    let n = c.args.self.now.draft.steps in
    let src = c.args.self.now.reader.src.now in
    let m = c.in_err-byte_unless.ensures.got (nat_le 32) (λ x b h p. search rules) ∙ ap (part_at 1 map_form c.args.self.now.reader.src.now) c.requires.front in
    exit _ _ c.from_residual.ensures.1 (decode_staged n src ∙ ap (λ q. then q (λ m. from_redemption n src m.0 (opened n) m.1)) (sym m))

pub returns-in_err-word-clause-filled : goal.returns-in_err-word-clause-filled
returns-in_err-word-clause-filled c =
    let at = goal.at.returns-in_err-word-clause-filled c in
    exit _ _ c.from_residual-in_err-word.ensures.1 ((redemption_read at.After-word (map_read at.In_ok-byte_unless)).off c.in_err-word.was)

pub returns-in_err-word-2-clause-filled : goal.returns-in_err-word-2-clause-filled
returns-in_err-word-2-clause-filled c =
    let at = goal.at.returns-in_err-word-2-clause-filled c in
    exit _ _ c.from_residual-in_err-word-2.ensures.1 ((spread_read at.After-word-2 (redemption_read at.After-word (map_read at.In_ok-byte_unless))).off c.in_err-word-2.was)

pub returns-in_err-list-clause-filled : goal.returns-in_err-list-clause-filled
returns-in_err-list-clause-filled c =
    let at = goal.at.returns-in_err-list-clause-filled c in
    exit _ _ c.from_residual-in_err-list.ensures.1 ((coupons_read at.After-list (spread_read at.After-word-2 (redemption_read at.After-word (map_read at.In_ok-byte_unless)))).off c.in_err-list.was)

pub returns-in_err-list-2-clause-filled : goal.returns-in_err-list-2-clause-filled
returns-in_err-list-2-clause-filled c =
    let at = goal.at.returns-in_err-list-2-clause-filled c in
    exit _ _ c.from_residual-in_err-list-2.ensures.1 ((calls_read at.After-list-2 (coupons_read at.After-list (spread_read at.After-word-2 (redemption_read at.After-word (map_read at.In_ok-byte_unless))))).off c.in_err-list-2.was)

pub returns-in_err-list-3-clause-filled : goal.returns-in_err-list-3-clause-filled
returns-in_err-list-3-clause-filled c =
    let at = goal.at.returns-in_err-list-3-clause-filled c in
    exit _ _ c.from_residual-in_err-list-3.ensures.1 ((puts_read at.After-list-3 (calls_read at.After-list-2 (coupons_read at.After-list (spread_read at.After-word-2 (redemption_read at.After-word (map_read at.In_ok-byte_unless)))))).off c.in_err-list-3.was)

pub returns-clause-filled : goal.returns-clause-filled
returns-clause-filled c =
    let at = goal.at.returns-clause-filled c in
    ended _ _ ((puts_read at.After-list-3 (calls_read at.After-list-2 (coupons_read at.After-list (spread_read at.After-word-2 (redemption_read at.After-word (map_read at.In_ok-byte_unless)))))).on c.in_ok-list-3.was) c.end.ensures
