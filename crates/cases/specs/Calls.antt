-- Calls on a case, what they are answered, and the case afterwards; a record is a list of calls. A reader has to believe
-- this file. Assumes nothing.
use Rattle.std.specs.Prelude.{ℕ, List, [], ◌∷◌, ◌++◌, length, Some, Ok, Err, Result}
use Rattle.texts.specs.declared.faults.TextFault.{TextFault}
use Rattle.tables.specs.declared.table.entering.Form.TheVariants.{Itself}
use Rattle.tables.specs.Answers.{answer}
use Rattle.tables.specs.Rows.{state_of}
use Rattle.cases.specs.declared.faults.CaseFault.{CaseFault}
use Rattle.cases.specs.declared.faults.CallFault.{CallFault}
use Rattle.cases.specs.declared.faults.CallFault.TheVariants.{Text, Case}
use Rattle.cases.specs.declared.recorder.Event.TheVariants.{State, Loop, Drop}
use Rattle.cases.specs.Drafts.{no_run, after_form}
use Rattle.cases.specs.Loops.{loop_objection, with_run}
use Rattle.cases.specs.Models.{RunModel, SteppedModel, KitModel}
use Rattle.cases.specs.Recordings.{event_objection, after_event, answer_unless, kept_unless}
use Rattle.cases.specs.Steps.{StepCallModel, with_case, step_answer, after_step}
use Rattle.cases.specs.Verdicts as v

-- The calls that a case takes. A state is a word with a bit for each letter.
pub data CallModel : Type 0 where
  form : List ℕ → CallModel
  step : StepCallModel → CallModel
  state : ℕ → CallModel
  loop : ℕ → CallModel
  drop : CallModel
  verdict : CallModel

abbrev pub text_answer : Result ℕ TextFault → Result ℕ CallFault
text_answer (Ok n) = Ok n
text_answer (Err f) = Err (Text f)

abbrev pub case_answer : Result ℕ CaseFault → Result ℕ CallFault
case_answer (Ok n) = Ok n
case_answer (Err f) = Err (Case f)

-- What a call is answered: a number, or a refusal.
abbrev pub answer_to : KitModel → SteppedModel → CallModel → Result ℕ CallFault
answer_to k c (form w) = text_answer (answer c.case.formulas Itself w)
answer_to k c (step s) = step_answer k c s
answer_to k c (state w) = case_answer (answer_unless (event_objection c.case.run (State w)) (length c.case.run.states))
answer_to k c (loop b) = case_answer (answer_unless (loop_objection c.case b) (length c.case.run.states))
answer_to k c drop = Ok 0
answer_to k c verdict = Ok (v.verdict c)

-- The case after a call.
abbrev pub after_call : KitModel → SteppedModel → CallModel → SteppedModel
after_call k c (form w) = with_case c (after_form c.case w)
after_call k c (step s) = after_step k c s
after_call k c (state w) = with_case c (with_run c.case (kept_unless (event_objection c.case.run (State w)) (after_event c.case.run (State w)) c.case.run))
after_call k c (loop b) = with_case c (kept_unless (loop_objection c.case b) (with_run c.case (after_event c.case.run (Loop b))) c.case)
after_call k c drop = with_case c (with_run c.case (after_event c.case.run Drop))
after_call k c verdict = c

-- The answers to a list of calls, in order, and the case after them.
abbrev pub answers_to : KitModel → SteppedModel → List CallModel → List (Result ℕ CallFault)
answers_to k c [] = []
answers_to k c (x ∷ xs) = answer_to k c x ∷ answers_to k (after_call k c x) xs

abbrev pub after_calls : KitModel → SteppedModel → List CallModel → SteppedModel
after_calls k c [] = c
after_calls k c (x ∷ xs) = after_calls k (after_call k c x) xs

-- The run after a call that was taken or refused: a taken state is added, a taken loop closes the run, a drop clears it.
abbrev pub run_after : RunModel → CallModel → Result ℕ CallFault → RunModel
run_after m (form w) a = m
run_after m (step s) a = m
run_after m (state w) (Ok n) = record { states = m.states ++ state_of w ∷ []; back = m.back }
run_after m (state w) (Err f) = m
run_after m (loop b) (Ok n) = record { states = m.states; back = Some b }
run_after m (loop b) (Err f) = m
run_after m drop a = no_run
run_after m verdict a = m

-- The recorded run of a list of calls with their answers: the states taken since the last drop, else since sealing, and
-- the back position of the loop taken since.
abbrev pub recorded_by : RunModel → List CallModel → List (Result ℕ CallFault) → RunModel
recorded_by m [] answers = m
recorded_by m (x ∷ xs) [] = m
recorded_by m (x ∷ xs) (a ∷ answers) = recorded_by (run_after m x a) xs answers
