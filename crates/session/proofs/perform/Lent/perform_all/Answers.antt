use Rattle.std.proofs.Common.{◌≡◌, ◌+◌, ◌<◌, map, length, take, drop, Some, sym, refl, ap, ◌∙◌, subst, below_more, arith}
use Rattle.std.proofs.lemmas.List.{length-take, take_all, take_min, drop-drop, drop-set-lt}
use Rattle.sheet.specs.Shared.{Standing}
use Rattle.sheet.proofs.Standing.{best_stored}
use Rattle.session.specs.Answers.{heard_in}
use Rattle.session.specs.Held.{held}
use Rattle.session.specs.Runs.{Shared, run, answers}
use Rattle.session.specs.Promises.{BestPlayAfterAnyRun}
use Rattle.session.proofs.Running.{Stands, Accepted, run_more, heard_more, strikes}
use Rattle.session.proofs.perform.Lent.perform_all.Goals as goal

pub loop-i-init : goal.loop-i-init
loop-i-init g c =
    let s = c.args.sheet.now in
    let m = g.L.Lattice.model s.lattice in
    let σ = g.K.ClashRule.settled s.clash in
    let z = held s.state c.args.self.now in
    let calls = take c.min-count.result c.args.calls.now in
    record {
      left = refl;
      said = refl;
      rest = refl;
      same = (refl, refl);
      kept = record { values = refl; marks = refl; output = refl };
      stands = λ k l. let none : 0 ≡ k = omega arith in subst (λ n. Stands m σ (run m σ (take n calls) z)) none c.requires.stands;
      accepted = c.requires.admitted;
    }

pub loop-i-preserved : goal.loop-i-preserved
loop-i-preserved g c =
    let s = c.args.sheet.now in
    let m = g.L.Lattice.model s.lattice in
    let σ = g.K.ClashRule.settled s.clash in
    let z = held s.state c.args.self.now in
    let i = c.loop-i.i in
    let calls = take c.min-count.result c.args.calls.now in
    let given = c.loop-i.answers in
    let made = c.perform.new in
    let h = c.loop-i.invariant in
    let e = c.perform.ensures in
    let inside : i < length calls = omega arith in
    let roomy : i < length given = omega (arith, length-take c.min-count.result c.args.calls.now) in
    let after = rw (h.same.0, h.same.1, h.left) at e.leaves in
    let said = rw (h.same.0, h.same.1, h.left) at e.answers in
    let keeps = rw (h.same.0, h.same.1) at e.keeps in
    let admits = rw h.same.0 at e.admits in
    let left : held made.sheet.state made.self ≡ run m σ (take (i + 1) calls) z = after ∙ sym (run_more m σ calls i _ z inside) in
    let accepted : Accepted m σ (run m σ (take (i + 1) calls) z) = subst (Accepted m σ) left (admits (subst (Accepted m σ) (sym h.left) h.accepted)) in
    let stands : Stands m σ (run m σ (take (i + 1) calls) z) = subst (Stands m σ) left (keeps (subst (Stands m σ) (sym h.left) (h.stands i (omega arith)))) in
    record {
      left = left;
      said = heard_more m σ calls i _ z given c.perform.result inside roomy h.said said;
      rest = drop-set-lt (i + 1) given i _ (omega arith) ∙ sym (drop-drop 1 i given) ∙ ap (drop 1) h.rest ∙ drop-drop 1 i c.args.answers.now;
      same = (e.same.0 ∙ h.same.0, e.same.1 ∙ h.same.1);
      kept = record { values = e.kept.values ∙ h.kept.values; marks = e.kept.marks ∙ h.kept.marks; output = e.kept.output ∙ h.kept.output };
      stands = λ k l. below_more (λ n. Stands m σ (run m σ (take n calls) z)) (i + 1) (λ n b. h.stands n (omega arith)) stands k (omega arith);
      accepted = accepted;
    }

pub returns-clause-law : goal.returns-clause-law
returns-clause-law g c =
    let s = c.args.sheet.now in
    let m = g.L.Lattice.model s.lattice in
    let σ = g.K.ClashRule.settled s.clash in
    let laws = g.L.Lattice.lawful s.lattice in
    let fair = g.K.ClashRule.fair s.clash in
    let z = held s.state c.args.self.now in
    let end = c.loop-i.sheet.state in
    let lent = c.loop-i.self in
    let given = c.loop-i.answers in
    let i = c.loop-i.i in
    let h = c.loop-i.invariant in
    let calls = c.args.calls.now in
    let done = take c.min-count.result calls in
    let all : i ≡ length done = omega arith in
    let whole : take i done ≡ done = take_all i done (omega arith) in
    let left : held end lent ≡ run m σ done z = h.left ∙ ap (λ xs. run m σ xs z) whole in
    let said : map heard_in (take (length done) given) ≡ map Some (answers m σ done z) = ap (λ k. map heard_in (take k given)) (sym all) ∙ h.said ∙ ap (λ xs. map Some (answers m σ xs z)) whole in
    let stands : Standing m σ end lent.values.now lent.marks.now = subst (Stands m σ) (sym h.left) (h.stands i (omega arith)) in
    let roomy : done ≡ take (length c.args.answers.now) calls = ap (λ n. take n calls) c.min-count.ensures ∙ take_min (length c.args.answers.now) calls in
    subst (λ xs. BestPlayAfterAnyRun m σ xs z c.args.answers.now given end lent.values.now lent.marks.now lent.output.now) roomy
    (record {
      performed = record {
        answers_are = said;
        rest_is = ap (λ k. drop k given) (sym all) ∙ h.rest ∙ ap (λ k. drop k c.args.answers.now) all;
        state_is = ap (λ (y : Shared). y.state) left;
        values_are = ap (λ (y : Shared). y.values) left;
        marks_are = ap (λ (y : Shared). y.marks) left;
        output_is = ap (λ (y : Shared). y.output) left;
      };
      terms_are_accepted = subst (Accepted m σ) (sym h.left) h.accepted;
      stored_are_defined = stands.worked;
      marks_are_best_play = best_stored m σ end lent.values.now lent.marks.now laws fair stands;
      strikes_are_roots = strikes m σ laws done z given said (λ k l. h.stands k (omega arith));
    })
