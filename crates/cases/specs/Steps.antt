-- The call step: refusal or answer, and the case afterwards. Assumes nothing.
use Rattle.std.specs.Prelude.{ℕ, ◌+◌, ◌-◌, Bool, true, false, cond, ◌&&◌, List, [], ◌∷◌, ◌++◌, map, length, Some, None, Ok, Err, Option, Result, nat_le, nat_lt, slice_index_or}
use Rattle.tables.specs.Sets.{chosen}
use Rattle.kits.specs.Steps.{StepModel}
use Rattle.kits.specs.declared.faults.KitFault.{KitFault}
use Rattle.kits.specs.declared.faults.KitFault.TheVariants.{Unknown, NotAllowed}
use Rattle.cases.specs.declared.faults.CaseFault.{CaseFault}
use Rattle.cases.specs.declared.faults.CaseFault.TheVariants.{NotInTable, NoSuchStep, TooManySteps}
use Rattle.cases.specs.declared.faults.CallFault.{CallFault}
use Rattle.cases.specs.declared.faults.CallFault.TheVariants.{Case, Kit}
use Rattle.cases.specs.Models.{CaseModel, SteppedModel, KitModel}
use Rattle.cases.specs.Roots.{contains}

-- What a step call hands in: a rule, a principal number, the conclusion by the numbers of its formulas, and the
-- premises by the numbers of the steps whose conclusions they are, counted from 1.
pub record StepCallModel : Type 0 where
  pub rule : ℕ
  pub principal : ℕ
  pub conclusion : List ℕ
  pub premises : List ℕ

-- The index of the first number that is not below n or not above the one before it; `low` is the least that may come.
abbrev pub first_unfit : ℕ → ℕ → ℕ → List ℕ → Option ℕ
first_unfit n low i [] = None
first_unfit n low i (k ∷ ks) = cond (nat_le low k && nat_lt k n) (first_unfit n (k + 1) (i + 1) ks) (Some i)

-- The index of the first number that is not from 1 to n.
abbrev pub first_missing : ℕ → ℕ → List ℕ → Option ℕ
first_missing n i [] = None
first_missing n i (p ∷ ps) = cond (nat_le 1 p && nat_le p n) (first_missing n (i + 1) ps) (Some i)

abbrev pub at_index : (ℕ → CaseFault) → Option ℕ → Option CaseFault
at_index fault None = None
at_index fault (Some i) = Some (fault i)

abbrev pub or_else : Option CaseFault → Option CaseFault → Option CaseFault
or_else None other = other
or_else (Some f) other = Some f

abbrev pub premises_objection : ℕ → List ℕ → Option CaseFault
premises_objection taken ps = cond (nat_lt 2 (length ps)) (Some (NoSuchStep 2)) (at_index NoSuchStep (first_missing taken 0 ps))

-- What the case objects to a step, in the order of the checks.
abbrev pub numbers_objection : SteppedModel → StepCallModel → Option CaseFault
numbers_objection c s = cond (nat_le 400 (length c.steps)) (Some TooManySteps) (or_else (at_index NotInTable (first_unfit (length c.case.formulas) 0 0 s.conclusion)) (premises_objection (length c.steps) s.premises))

-- the set with nothing in it
abbrev pub nothing : ℕ → Bool
nothing n = false

-- The conclusion of a taken step, by the step's number.
abbrev pub conclusion_of : List (ℕ → Bool) → ℕ → ℕ → Bool
conclusion_of steps p = slice_index_or steps (p - 1) nothing

-- The step as a kit reads it: sets of formulas for numbers.
abbrev pub step_read : SteppedModel → StepCallModel → StepModel
step_read c s = record {
  rule = s.rule;
  principal = s.principal;
  conclusion = chosen (contains s.conclusion) c.case.formulas;
  premises = map (λ p. chosen (conclusion_of c.steps p) c.case.formulas) s.premises;
}

abbrev pub kit_objection : Bool → Bool → Option KitFault
kit_objection false allowed = Some Unknown
kit_objection true false = Some NotAllowed
kit_objection true true = None

abbrev pub case_then_kit : Option CaseFault → Option KitFault → Option CallFault
case_then_kit (Some f) o = Some (Case f)
case_then_kit None (Some f) = Some (Kit f)
case_then_kit None None = None

-- What is objected to a step: by the case, then by the kit.
abbrev pub step_objection : KitModel → SteppedModel → StepCallModel → Option CallFault
step_objection k c s = case_then_kit (numbers_objection c s) (kit_objection (k.knows s.rule) (k.allows c.case.formulas (step_read c s)))

-- A case with no steps; and a case with the steps of another.
abbrev pub without_steps : CaseModel → SteppedModel
without_steps m = record { case = m; steps = [] }

abbrev pub with_case : SteppedModel → CaseModel → SteppedModel
with_case c m = record { case = m; steps = c.steps }

-- The case with one taken step more.
abbrev pub with_step : SteppedModel → (ℕ → Bool) → SteppedModel
with_step c S = record { case = c.case; steps = c.steps ++ S ∷ [] }

abbrev pub number_unless : Option CallFault → ℕ → Result ℕ CallFault
number_unless None n = Ok n
number_unless (Some f) n = Err f

abbrev pub changed_unless : {X : Type 0} → Option CallFault → X → X → X
changed_unless None new old = new
changed_unless (Some f) new old = old

-- Step: the answer, and the case afterwards.
abbrev pub step_answer : KitModel → SteppedModel → StepCallModel → Result ℕ CallFault
step_answer k c s = number_unless (step_objection k c s) (length c.steps + 1)

abbrev pub after_step : KitModel → SteppedModel → StepCallModel → SteppedModel
after_step k c s = changed_unless (step_objection k c s) (with_step c (contains s.conclusion)) c
