use Rattle.std.proofs.Common.{◌≡◌, true, length, sym, ◌∙◌, ap₂, ⊎_elim, arith}
use Rattle.std.proofs.lemmas.Bool.{false≢true, cases_Bool, eq-eqb, eqb-true, eqb-false}
use Rattle.kits.specs.Steps.{listed, step_model, judgement}
use Rattle.units.specs.UnitRule.{unit_allows}
use Rattle.units.specs.UnitSteps.{none_from_length, length_from_none, unit_allowed, unit_asks}
use Rattle.units.proofs.UnitsKit.judge.Goals as goal
use Rattle.units.proofs.UnitsKit.judge.Goals.{else-step-eq0-via-then-step-eq0+then-is_empty+else-is_contradictory, else-step-eq0-via-then-step-eq0+else-is_empty, else-step-eq0-via-else-step-eq0}

pub returns-then-is_contradictory : goal.returns-then-is_contradictory
returns-then-is_contradictory c =
    let fs = listed c.args.table.now in
    let st = c.args.step.now in
    let ps = c.args.premises.now in
    sym (ap₂ judgement (eq-eqb st.rule 1 c.if-step-ne-UNIT.false) (unit_allowed (step_model fs st ps) c.if-step-ne-UNIT.false c.if-step-eq0.true (none_from_length fs ps (eqb-true (length ps) 0 (sym c.is_empty.ensures ∙ c.if-is_empty.true))) (c.is_contradictory.ensures.0 c.if-is_contradictory.true)))

pub returns-else-step-eq0 : goal.returns-else-step-eq0
returns-else-step-eq0 c =
    let fs = listed c.args.table.now in
    let st = c.args.step.now in
    let ps = c.args.premises.now in
    let not-allowed : unit_allows (step_model fs st ps) ≡ true → ⊥ =
    λ e.
    let asked = unit_asks (step_model fs st ps) e in
    elim c.else-step-eq0.branch [
      | else-step-eq0-via-then-step-eq0+then-is_empty+else-is_contradictory w ↦ false≢true (sym w.if-is_contradictory.false ∙ w.is_contradictory.ensures.1 asked.3)
      | else-step-eq0-via-then-step-eq0+else-is_empty w ↦ omega (arith, eqb-false (length ps) 0 (sym w.is_empty.ensures ∙ w.if-is_empty.false), length_from_none fs ps asked.2)
      | else-step-eq0-via-else-step-eq0 w ↦ omega (arith, w.if-step-eq0.false, asked.1)
    ]
    in
    ⊎_elim
    (λ e. absurd (not-allowed e))
    (λ e. sym (ap₂ judgement (eq-eqb st.rule 1 c.if-step-ne-UNIT.false) e))
    (cases_Bool (unit_allows (step_model fs st ps)))
