-- Numbers that a step hands in. Assumes nothing.
use Rattle.std.proofs.Common.{◌≡◌, ℕ, Bool, true, false, List, [], ◌∷◌, ◌++◌, map, Some, None, Ok, Err, Option, Result, sym, refl, ap, ◌∙◌, ap₂}
use mathlib.Core.List.{map-map}
use Rattle.std.proofs.lemmas.List.{map_push}
use Rattle.tables.specs.declared.sequent.Sequent.{Sequent}
use Rattle.tables.specs.Sets.{member, chosen}
use Rattle.kits.specs.declared.faults.KitFault.{KitFault}
use Rattle.kits.specs.declared.steps.Step.{Step}
use Rattle.kits.specs.Steps.{StepModel, step_model, judgement}
use Rattle.cases.specs.Models.{SteppedModel, KitModel}
use Rattle.cases.specs.Roots.{contains}
use Rattle.cases.specs.Steps.{StepCallModel, numbers_objection, conclusion_of, step_read, kit_objection, case_then_kit, step_objection, with_step}

-- what is objected where a kit answers so
abbrev pub objected : Result (Unit {0}) KitFault → Option KitFault
objected (Ok u) = None
objected (Err f) = Some f

judgement_objected : (known allowed : Bool) → kit_objection known allowed ≡ objected (judgement known allowed)
judgement_objected false b = refl
judgement_objected true false = refl
judgement_objected true true = refl

pub objected_by_kit : (k : KitModel) (c : SteppedModel) (s : StepCallModel) (st : StepModel) (r : Result (Unit {0}) KitFault) → numbers_objection c s ≡ None → step_read c s ≡ st → r ≡ judgement (k.knows s.rule) (k.allows c.case.formulas st) → step_objection k c s ≡ case_then_kit None (objected r)
objected_by_kit k c s st r none same is =
    ap (λ o. case_then_kit o (kit_objection (k.knows s.rule) (k.allows c.case.formulas (step_read c s)))) none
    ∙ ap (case_then_kit None) (judgement_objected (k.knows s.rule) (k.allows c.case.formulas (step_read c s)) ∙ ap (λ x. objected (judgement (k.knows s.rule) (k.allows c.case.formulas x))) same ∙ ap objected (sym is))

-- a step as the kit reads it, by the sets that stand for its conclusion and premises
pub read_by_sets : (c : SteppedModel) (s : StepCallModel) (st : Step) (ps : List Sequent) → st.rule ≡ s.rule → st.principal ≡ s.principal → member st.conclusion ≡ contains s.conclusion → map member ps ≡ map (conclusion_of c.steps) s.premises → step_read c s ≡ step_model c.case.formulas st ps
read_by_sets c s st ps rule principal conclusion premises = λ i. record {
  rule = sym rule i;
  principal = sym principal i;
  conclusion = ap (λ S. chosen S c.case.formulas) (sym conclusion) i;
  premises = (sym (map-map (λ S. chosen S c.case.formulas) (conclusion_of c.steps) s.premises) ∙ ap (map (λ S. chosen S c.case.formulas)) (sym premises) ∙ map-map (λ S. chosen S c.case.formulas) member ps) i;
}

-- a case with one sequent more behind its conclusions
pub with_pushed : (c : SteppedModel) (old new : List Sequent) (x : Sequent) (S : ℕ → Bool) → c.steps ≡ map member old → new ≡ old ++ x ∷ [] → member x ≡ S → ◌≡◌ {A = SteppedModel} (record { case = c.case; steps = map member new }) (with_step c S)
with_pushed c old new x S was is same = λ i. record {
  case = c.case;
  steps = (ap (map member) is ∙ map_push member old x ∙ ap₂ (λ l y. l ++ y ∷ []) (sym was) same) i;
}
