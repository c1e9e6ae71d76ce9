-- The run recorder: what state, loop and drop are answered, and the run afterwards. Assumes nothing.
use Rattle.std.specs.Prelude.{ℕ, ◌+◌, ◌/◌, ◌^◌, Bool, true, false, cond, [], ◌∷◌, ◌++◌, length, Some, None, Ok, Err, Option, Result, ◌==◌, nat_le, nat_lt}
use Rattle.std.specs.Int.Count.{count_trailing_zeros}
use Rattle.tables.specs.Rows.{state_of, recorded}
use Rattle.cases.specs.declared.faults.CaseFault.{CaseFault}
use Rattle.cases.specs.declared.faults.CaseFault.TheVariants.{StrayLetter, TooManyPositions, ClosedRun, NoPosition}
use Rattle.cases.specs.declared.recorder.Event.{Event}
use Rattle.cases.specs.declared.recorder.Event.TheVariants.{State, Loop, Drop}
use Rattle.cases.specs.declared.recorder.Recorder.{Recorder}
use Rattle.cases.specs.Models.{RunModel}
use Rattle.cases.specs.Phases.{back_of}

abbrev pub run_model : Recorder → RunModel
run_model r = record { states = recorded r.states.letters r.states.len; back = back_of r.phase }

abbrev pub is_closed : Option ℕ → Bool
is_closed None = false
is_closed (Some b) = true

-- The lowest bit above 25 of a word of 32 bits, if one is set: past 26, as many zeros as the part above ends with.
abbrev pub stray : ℕ → Option ℕ
stray w = cond (w / 2 ^ 26 == 0) None (Some (26 + count_trailing_zeros 32 (w / 2 ^ 26)))

abbrev pub letters_objection : Option ℕ → ℕ → Option CaseFault
letters_objection (Some b) n = Some (StrayLetter b)
letters_objection None n = cond (nat_le 64 n) (Some TooManyPositions) None

-- What is objected to an event, in the order of the checks.
abbrev pub event_objection : RunModel → Event → Option CaseFault
event_objection m (State w) = cond (is_closed m.back) (Some ClosedRun) (letters_objection (stray w) (length m.states))
event_objection m (Loop b) = cond (is_closed m.back) (Some ClosedRun) (cond (nat_lt b (length m.states)) None (Some NoPosition))
event_objection m Drop = None

-- The position of a state, the number of positions of a run that is closed, 0 for a run that is dropped.
abbrev pub event_answer : RunModel → Event → ℕ
event_answer m (State w) = length m.states
event_answer m (Loop b) = length m.states
event_answer m Drop = 0

abbrev pub after_event : RunModel → Event → RunModel
after_event m (State w) = record { states = m.states ++ state_of w ∷ []; back = None }
after_event m (Loop b) = record { states = m.states; back = Some b }
after_event m Drop = record { states = []; back = None }

-- An answer unless there is an objection, and what is held then.
abbrev pub answer_unless : Option CaseFault → ℕ → Result ℕ CaseFault
answer_unless None n = Ok n
answer_unless (Some f) n = Err f

abbrev pub kept_unless : {X : Type 0} → Option CaseFault → X → X → X
kept_unless None new old = new
kept_unless (Some f) new old = old
