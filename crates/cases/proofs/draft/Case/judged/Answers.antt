use Rattle.std.proofs.Common.{map, Some, None, refl, ap, ◌∙◌}
use Rattle.tables.specs.Sets.{member}
use Rattle.cases.specs.Steps.{case_then_kit}
use Rattle.cases.specs.Views.{stepped_model, kit_model, step_call_model}
use Rattle.cases.proofs.HandedSteps.{objected, objected_by_kit, read_by_sets}
use Rattle.cases.proofs.draft.Case.judged.Goals as goal

pub returns-in-Err-NotAllowed : goal.returns-in-Err-NotAllowed
returns-in-Err-NotAllowed g c =
    let m = stepped_model c.args.self.now in
    let s = step_call_model c.args.step in
    let told = c.in_ok-conclusion.ensures in
    let read = read_by_sets m s (record { rule = s.rule; principal = s.principal; conclusion = c.in_ok-conclusion.conclusion }) c.deref.result.now refl refl (λ i k. told.1 k i) (ap (map member) c.deref.ensures.0 ∙ c.held-premises.ensures) in
    objected_by_kit (kit_model g.K.Kit.knows g.K.Kit.allows c.args.self.now.kit) m s _ c.judge.result told.0 read c.judge.ensures
    ∙ ap (λ r. case_then_kit None (objected r)) c.in-Err-NotAllowed.is
    ∙ ap (λ f. case_then_kit None (Some f)) c.in-Err-NotAllowed.field-0-is

pub returns-in-Ok : goal.returns-in-Ok
returns-in-Ok g c =
    let m = stepped_model c.args.self.now in
    let s = step_call_model c.args.step in
    let told = c.in_ok-conclusion.ensures in
    let read = read_by_sets m s (record { rule = s.rule; principal = s.principal; conclusion = c.in_ok-conclusion.conclusion }) c.deref.result.now refl refl (λ i k. told.1 k i) (ap (map member) c.deref.ensures.0 ∙ c.held-premises.ensures) in (
      objected_by_kit (kit_model g.K.Kit.knows g.K.Kit.allows c.args.self.now.kit) m s _ c.judge.result told.0 read c.judge.ensures
          ∙ ap (λ r. case_then_kit None (objected r)) c.in-Ok.is,
      λ i k. told.1 k i,
    )
