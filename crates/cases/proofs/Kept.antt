-- What calls keep: the root formulas; and that the answers tell the recorded run. Assumes nothing.
use Rattle.std.proofs.Common.{◌≡◌, ℕ, true, List, [], ◌∷◌, ◌++◌, map, length, Some, None, Option, Result, sym, refl, ap, ◌∙◌}
use Rattle.std.proofs.lemmas.Bool.{and_parts, ltb-true}
use Rattle.pltl.specs.Formulas.{Formula}
use Rattle.tables.specs.Listing.{numbered}
use Rattle.tables.specs.Rows.{state_of}
use Rattle.tables.specs.Steps.{Grown}
use Rattle.tables.specs.declared.table.entering.Form.TheVariants.{Itself}
use Rattle.cases.specs.Calls.{CallModel, form, step, state, loop, drop, verdict, after_call, after_calls, case_answer, answer_to, answers_to, recorded_by, run_after}
use Rattle.cases.specs.Good.{Good}
use Rattle.cases.specs.Loops.{loop_objection, with_run}
use Rattle.cases.specs.Models.{RunModel, CaseModel, SteppedModel, KitModel}
use Rattle.cases.specs.Promise.{KitLaw}
use Rattle.cases.specs.Recordings.{event_objection, after_event, kept_unless, answer_unless}
use Rattle.cases.specs.Roots.{all_below}
use Rattle.cases.specs.Steps.{step_objection, changed_unless}
use Rattle.cases.specs.Verdicts.{root_formulas}
use Rattle.cases.specs.declared.faults.CallFault.{CallFault}
use Rattle.cases.specs.declared.faults.CaseFault.{CaseFault}
use Rattle.cases.specs.declared.recorder.Event.TheVariants.{State, Loop}
use Rattle.cases.proofs.Admitted.{state_open}
use Rattle.cases.proofs.Goods.{numbered_grown, after_grown, good_call}

-- an equation of what is kept holds where it holds of the new and of the old
pub same_kept : {X Y : Type 0} (f : X → Y) (y : Y) (o : Option CaseFault) (new old : X) → f new ≡ y → f old ≡ y → f (kept_unless o new old) ≡ y
same_kept f y None new old p q = p
same_kept f y (Some fault) new old p q = q

pub same_changed : {X Y : Type 0} (f : X → Y) (y : Y) (o : Option CallFault) (new old : X) → f new ≡ y → f old ≡ y → f (changed_unless o new old) ≡ y
same_changed f y None new old p q = p
same_changed f y (Some fault) new old p q = q

-- growth keeps the formulas of old numbers
numbers_kept : {fs gs : List Formula} → Grown fs gs → (ns : List ℕ) → all_below (length fs) ns ≡ true → map (numbered gs) ns ≡ map (numbered fs) ns
numbers_kept g [] h = refl
numbers_kept {fs} {gs} g (n ∷ ns) h =
    let p = and_parts _ _ h in
    ap (λ f. f ∷ map (numbered gs) ns) (numbered_grown n g (ltb-true n _ p.0)) ∙ ap (λ l. numbered fs n ∷ l) (numbers_kept g ns p.1)

pub roots_kept : (k : KitModel) (c : SteppedModel) (x : CallModel) → Good c → root_formulas (after_call k c x).case ≡ root_formulas c.case
roots_kept k c (form w) h = numbers_kept (after_grown c.case.formulas Itself w) c.case.roots h.rooted
roots_kept k c (step s) h = same_changed (λ d. root_formulas d.case) (root_formulas c.case) (step_objection k c s) _ c refl refl
roots_kept k c (state w) h = refl
roots_kept k c (loop b) h = same_kept root_formulas (root_formulas c.case) (loop_objection c.case b) _ c.case refl refl
roots_kept k c drop h = refl
roots_kept k c verdict h = refl

pub all_roots_kept : (k : KitModel) → KitLaw k → (c : SteppedModel) (xs : List CallModel) → Good c → root_formulas (after_calls k c xs).case ≡ root_formulas c.case
all_roots_kept k law c [] h = refl
all_roots_kept k law c (x ∷ xs) h = all_roots_kept k law (after_call k c x) xs (good_call k law c x h) ∙ roots_kept k c x h

-- the run after a state and after a loop, by what is objected
state_recorded : (m : RunModel) (w : ℕ) (o : Option CaseFault) → event_objection m (State w) ≡ o → run_after m (state w) (case_answer (answer_unless o (length m.states))) ≡ kept_unless o (after_event m (State w)) m
state_recorded m w None e = ap (λ b. record { states = m.states ++ state_of w ∷ []; back = b }) (state_open m w e)
state_recorded m w (Some f) e = refl

loop_recorded : (c : CaseModel) (b : ℕ) (o : Option CaseFault) → run_after c.run (loop b) (case_answer (answer_unless o (length c.run.states))) ≡ (kept_unless o (with_run c (after_event c.run (Loop b))) c).run
loop_recorded c b None = refl
loop_recorded c b (Some f) = refl

-- the run after a call is told by the answer
pub call_recorded : (k : KitModel) (c : SteppedModel) (x : CallModel) → run_after c.case.run x (answer_to k c x) ≡ (after_call k c x).case.run
call_recorded k c (form w) = refl
call_recorded k c (step s) = sym (same_changed (λ d. d.case.run) c.case.run (step_objection k c s) _ c refl refl)
call_recorded k c (state w) = state_recorded c.case.run w (event_objection c.case.run (State w)) refl
call_recorded k c (loop b) = loop_recorded c.case b (loop_objection c.case b)
call_recorded k c drop = refl
call_recorded k c verdict = refl

-- and so is the run after a list of calls, whatever answers come behind
pub calls_recorded : (k : KitModel) (c : SteppedModel) (xs : List CallModel) (more : List (Result ℕ CallFault)) → recorded_by c.case.run xs (answers_to k c xs ++ more) ≡ (after_calls k c xs).case.run
calls_recorded k c [] more = refl
calls_recorded k c (x ∷ xs) more =
    ap (λ m. recorded_by m xs (answers_to k (after_call k c x) xs ++ more)) (call_recorded k c x) ∙ calls_recorded k (after_call k c x) xs more
