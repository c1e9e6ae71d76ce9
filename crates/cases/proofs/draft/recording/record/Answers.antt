use Rattle.std.proofs.Common.{◌≡◌, ◌≤◌, map, length, sym, refl, ap, ◌∙◌, subst, arith}
use Rattle.cases.specs.Calls.{after_calls}
use Rattle.cases.specs.Drafts.{sealed}
use Rattle.cases.specs.Good.{Good}
use Rattle.cases.specs.Promise.{KitLaw, Promise}
use Rattle.cases.specs.Steps.{without_steps}
use Rattle.cases.specs.Views.{draft_model, stepped_model, kit_model, entry_call, entry_answer, answered}
use Rattle.cases.proofs.AnsweredEntries.{answers_answered, all_answered, all_taken}
use Rattle.cases.proofs.Goods.{good_from}
use Rattle.cases.proofs.Promised.{promised}
use Rattle.cases.proofs.draft.recording.record.Goals as goal

pub returns : goal.returns
returns g c =
    let kit = kit_model g.K.Kit.knows g.K.Kit.allows in
    let start = c.args.draft.kit in
    let k = kit c.seal-case.result.0.kit in
    let m = sealed (draft_model c.args.draft) in
    let s = without_steps m in
    let old = c.args.entries.now in
    let es = c.loop-entry.entries in
    let i = c.loop-entry.entry-index in
    let all : length es ≤ i = omega (arith, c.loop-entry-test.false, c.loop-entry.auto.entries) in
    let same = ap kit c.seal-case.ensures.kit in
    let seal : stepped_model c.seal-case.result.0 ≡ s = λ j. record { case = c.seal-case.ensures.after j; steps = c.seal-case.ensures.steps j } in
    let answers : es ≡ answered (kit start) s old = sym (all_answered k (stepped_model c.loop-entry.case) es i all) ∙ c.loop-entry.invariant.0 ∙ (λ j. answered (same j) (seal j) old) in
    let law : KitLaw (kit start) = record { sound = g.met.K.Kit.sound start; known = g.met.K.Kit.allowed_known start } in
    record {
      value = c.seal-case.ensures.value;
      answers = answers;
      after = sym (all_taken k (stepped_model c.loop-entry.case) es i all) ∙ c.loop-entry.invariant.1 ∙ (λ j. after_calls (same j) (seal j) (map entry_call old));
      kit = c.loop-entry.invariant.2 ∙ c.seal-case.ensures.kit;
      promise = subst (Promise (kit start) m (map entry_call old)) (sym (ap (map entry_answer) answers ∙ answers_answered (kit start) s old)) (promised (kit start) m law (subst Good seal (good_from c.seal-case.result.0.good)) refl (map entry_call old));
    }
