-- What is promised of every record: a sealing followed by any list of calls, taken or refused, under any kit that has
-- the interface's meaning and law. A reader has to believe this file. Assumes nothing.
use Rattle.std.specs.Prelude.{◌≡◌, ℕ, ◌+◌, ◌^◌, ◌<◌, ◌≤◌, Bool, true, ◌&&◌, List, [], ◌∷◌, ◌++◌, map, length, Some, Ok, Result, nat_le, nat_lt, slice_index, slice_index_or}
use Rattle.pltl.specs.Formulas.{Formula}
use Rattle.pltl.specs.Runs.{Run}
use Rattle.calculus.specs.Laws.{NoRuns}
use Rattle.calculus.specs.Sequents.{SatisfiesAll, NoRun}
use Rattle.tables.specs.Rows.{state_of}
use Rattle.kits.specs.Steps.{StepModel}
use Rattle.cases.specs.declared.faults.CallFault.{CallFault}
use Rattle.cases.specs.Calls.{CallModel, form, step, state, loop, verdict, answers_to, after_calls, recorded_by}
use Rattle.cases.specs.Drafts.{no_run}
use Rattle.cases.specs.Models.{CaseModel, SteppedModel, KitModel}
use Rattle.cases.specs.Roots.{contains}
use Rattle.cases.specs.Steps.{StepCallModel, step_read, without_steps, with_step}
use Rattle.cases.specs.Verdicts.{root_formulas}

-- The law of a kit, and that it knows the rules of the steps that it allows.
pub record KitLaw (k : KitModel) : Type 0 where
  pub sound : (fs : List Formula) (st : StepModel) → k.allows fs st ≡ true → NoRuns st.premises → NoRun st.conclusion
  pub known : (fs : List Formula) (st : StepModel) → k.allows fs st ≡ true → k.knows st.rule ≡ true

-- The numbers rise, from `low` on, and are below n.
abbrev pub rising : ℕ → ℕ → List ℕ → Bool
rising n low [] = true
rising n low (k ∷ ks) = nat_le low k && (nat_lt k n && rising n (k + 1) ks)

-- All numbers are from 1 to n.
abbrev pub among : ℕ → List ℕ → Bool
among n [] = true
among n (p ∷ ps) = nat_le 1 p && (nat_le p n && among n ps)

-- A step of a derivation in a case whose earlier steps are taken: of formulas in the table, with at most two premises, all
-- conclusions of earlier steps, and allowed by the kit.
pub record DerivationStep (k : KitModel) (c : SteppedModel) (s : StepCallModel) : Type 0 where
  pub in_table : rising (length c.case.formulas) 0 s.conclusion ≡ true
  pub few : length s.premises ≤ 2
  pub earlier : among (length c.steps) s.premises ≡ true
  pub allowed : k.allows c.case.formulas (step_read c s) ≡ true

-- A derivation: a non-empty list of such steps; the last conclusion has only root formulas.
abbrev pub Derivation : KitModel → SteppedModel → List StepCallModel → Type 0
Derivation k c [] = ⊥
Derivation k c (s ∷ []) = DerivationStep k c s × ((n : ℕ) → contains s.conclusion n ≡ true → contains c.case.roots n ≡ true)
Derivation k c (s ∷ t ∷ ss) = DerivationStep k c s × Derivation k (with_step c (contains s.conclusion)) (t ∷ ss)

-- The answers n, n + 1, .. to as many calls as the list has.
abbrev pub counted : {X : Type 0} → ℕ → List X → List (Result ℕ CallFault)
counted n [] = []
counted n (x ∷ xs) = Ok n ∷ counted (n + 1) xs

-- The promise, for a case c as it was sealed, and any calls with their answers.
pub record Promise (k : KitModel) (c : CaseModel) (calls : List CallModel) (answers : List (Result ℕ CallFault)) : Type 0 where
  -- holds is true: no looping run, of any length, satisfies every root formula
  pub holds_is_true : (before after : List CallModel) → calls ≡ before ++ verdict ∷ after → slice_index_or answers (length before) (Ok 0) ≡ Ok 1 → NoRun (root_formulas c)
  -- a counterexample is one: the recorded run satisfies every root formula
  pub counterexample_is_one : (before after : List CallModel) → calls ≡ before ++ verdict ∷ after → slice_index_or answers (length before) (Ok 0) ≡ Ok 2 → (r : Run) × (recorded_by no_run before answers ≡ record { states = r.states; back = Some r.back }) × SatisfiesAll r (root_formulas c)
  -- derivations are taken: after any form calls, a derivation of at most 400 steps is taken whole, and the verdict is 1
  pub derivations_are_taken : (texts : List (List ℕ)) (steps : List StepCallModel) → calls ≡ map form texts ++ (map step steps ++ verdict ∷ []) → length steps ≤ 400 → Derivation k (after_calls k (without_steps c) (map form texts)) steps → answers ≡ answers_to k (without_steps c) (map form texts) ++ (counted 1 steps ++ Ok 1 ∷ [])
  -- runs are taken: after any form calls, a satisfying run of at most 64 states is taken whole, and the verdict is 2
  pub runs_are_taken : (texts : List (List ℕ)) (words : List ℕ) (r : Run) → calls ≡ map form texts ++ (map state words ++ (loop r.back ∷ verdict ∷ [])) → ((i : ℕ) → i < length words → slice_index words i < 2 ^ 26) → length words ≤ 64 → r.states ≡ map state_of words → SatisfiesAll r (root_formulas c) → answers ≡ answers_to k (without_steps c) (map form texts) ++ (counted 0 words ++ (Ok (length words) ∷ Ok 2 ∷ []))
