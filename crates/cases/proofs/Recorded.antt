-- Events of the run recorder. Assumes nothing.
use Rattle.std.proofs.Common.{◌≡◌, ℕ, cond, ltb, length, Some, None, Err, Option, sym, ap, ◌∙◌, arith}
use Rattle.std.proofs.lemmas.Bool.{cond-false, le-ltb}
use Rattle.cases.specs.declared.faults.CaseFault.{CaseFault}
use Rattle.cases.specs.declared.faults.CaseFault.TheVariants.{ClosedRun, NoPosition}
use Rattle.cases.specs.declared.recorder.Event.{Event}
use Rattle.cases.specs.declared.recorder.Event.TheVariants.{Loop}
use Rattle.cases.specs.Models.{RunModel}
use Rattle.cases.specs.Recordings.{is_closed, event_objection, event_answer, after_event, answer_unless, kept_unless}

-- no loop goes back in a run without states
pub loop_of_empty : (m : RunModel) (e : Event) (b : ℕ) → m.back ≡ None → length m.states ≡ 0 → e ≡ Loop b → (Err NoPosition ≡ answer_unless (event_objection m e) (event_answer m e)) × (m ≡ kept_unless (event_objection m e) (after_event m e) m)
loop_of_empty m e b unclosed none is =
    let objected : event_objection m e ≡ Some NoPosition =
    ap (event_objection m) is
    ∙ cond-false (is_closed m.back) (Some ClosedRun) (cond (ltb b (length m.states)) None (Some NoPosition)) (ap is_closed unclosed)
    ∙ cond-false {A = Option CaseFault} (ltb b (length m.states)) None (Some NoPosition) (le-ltb b _ (omega arith)) in
    (ap (λ o. answer_unless o (event_answer m e)) (sym objected), ap (λ o. kept_unless o (after_event m e) m) (sym objected))
