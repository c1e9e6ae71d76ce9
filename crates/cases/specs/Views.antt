-- What the types Draft and Case hold, as models. Assumes nothing.
use Rattle.std.specs.Prelude.{ℕ, Bool, List, [], ◌∷◌, map, vec_items, Result}
use Rattle.pltl.specs.Formulas.{Formula}
use Rattle.kits.specs.Steps.{StepModel}
use Rattle.tables.specs.Listing.{formulas}
use Rattle.tables.specs.Sets.{member}
use Rattle.cases.specs.declared.draft.Draft.{Draft}
use Rattle.cases.specs.declared.draft.Case.{Case}
use Rattle.cases.specs.Roots.{plain}
use Rattle.cases.specs.Recordings.{run_model}
use Rattle.cases.specs.Steps.{StepCallModel}
use Rattle.cases.specs.Calls.{CallModel, form, step, state, loop, drop, verdict, answer_to, after_call}
use Rattle.cases.specs.declared.faults.CallFault.{CallFault}
use Rattle.cases.specs.declared.call.Entry.{Entry}
use Rattle.cases.specs.declared.call.StepCall.{StepCall}
use Rattle.cases.specs.declared.call.Call.{Call}
use Rattle.cases.specs.declared.call.Call.TheVariants.{Form, Step, State, Loop, Drop, Verdict}
use Rattle.cases.specs.Models.{DraftModel, CaseModel, SteppedModel, KitModel}

abbrev pub draft_model : {K : Type 0} → Draft K → DraftModel
draft_model d = record { formulas = formulas (vec_items d.table.shapes); roots = plain (vec_items d.roots.numbers); clauses = d.clauses; property = d.property }

abbrev pub case_model : {K : Type 0} → Case K → CaseModel
case_model c = record { formulas = formulas (vec_items c.table.shapes); roots = plain (vec_items c.roots.numbers); run = run_model c.run }

abbrev pub stepped_model : {K : Type 0} → Case K → SteppedModel
stepped_model c = record { case = case_model c; steps = map member (vec_items c.steps) }

-- What a kit means to a case, by the ghost members of the interface.
abbrev pub kit_model : {K : Type 0} → (K → ℕ → Bool) → (K → List Formula → StepModel → Bool) → K → KitModel
kit_model knows allows k = record { knows = knows k; allows = allows k }

abbrev pub step_call_model : StepCall → StepCallModel
step_call_model s = record { rule = s.rule; principal = s.principal; conclusion = s.conclusion.now; premises = s.premises.now }

abbrev pub call_model : Call StepCall → CallModel
call_model (Form w) = form w.now
call_model (Step s) = step (step_call_model s)
call_model (State w) = state w
call_model (Loop b) = loop b
call_model Drop = drop
call_model Verdict = verdict

-- The call of an entry, and its answer.
abbrev pub entry_call : Entry → CallModel
entry_call e = call_model e.call

abbrev pub entry_answer : Entry → Result ℕ CallFault
entry_answer e = e.answer

-- Entries with their answers, where the first finds the case c.
abbrev pub answered : KitModel → SteppedModel → List Entry → List Entry
answered k c [] = []
answered k c (e ∷ es) = record { call = e.call; answer = answer_to k c (entry_call e) } ∷ answered k (after_call k c (entry_call e)) es
