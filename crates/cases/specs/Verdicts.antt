-- The verdict, and what it means. A reader has to believe this file. Assumes nothing.
use Rattle.std.specs.Prelude.{◌≡◌, ℕ, zero, suc, Bool, true, cond, not, ◌&&◌, ◌||◌, List, map, length, Some}
use Rattle.std.specs.List.{list_any}
use Rattle.pltl.specs.Formulas.{Formula}
use Rattle.pltl.specs.Runs.{Run}
use Rattle.calculus.specs.Sequents.{◌∈◌, SatisfiesAll, NoRun}
use Rattle.tables.specs.Listing.{numbered}
use Rattle.cases.specs.declared.verdict.Verdict.{Verdict}
use Rattle.cases.specs.declared.verdict.Verdict.TheVariants.{Undecided, Holds, Counterexample}
use Rattle.cases.specs.Models.{CaseModel, SteppedModel}
use Rattle.cases.specs.Recordings.{is_closed}
use Rattle.cases.specs.Roots.{contains}

-- The root formulas.
abbrev pub root_formulas : CaseModel → List Formula
root_formulas c = map (numbered c.formulas) c.roots

-- All numbers below n that are in one set are in another.
abbrev pub all_in : ℕ → (ℕ → Bool) → (ℕ → Bool) → Bool
all_in zero S T = true
all_in (suc n) S T = (not (S n) || T n) && all_in n S T

-- A conclusion has only root formulas.
abbrev pub only_roots : CaseModel → (ℕ → Bool) → Bool
only_roots c S = all_in (length c.formulas) S (contains c.roots)

-- 1 (holds) if some taken step's conclusion has only root formulas, else 2 (counterexample) if the run is closed, else 0.
abbrev pub verdict : SteppedModel → ℕ
verdict c = cond (list_any (only_roots c.case) c.steps) 1 (cond (is_closed c.case.run.back) 2 0)

abbrev pub verdict_number : Verdict → ℕ
verdict_number Undecided = 0
verdict_number Holds = 1
verdict_number Counterexample = 2

-- r is the recorded run of a case, which is closed.
abbrev pub Recorded : CaseModel → Run → Type 0
Recorded c r = (r.states ≡ c.run.states) × (c.run.back ≡ Some r.back)

-- Two sets have the same formulas.
abbrev pub SameFormulas : List Formula → List Formula → Type 0
SameFormulas Γ Δ = (g : Formula) → (g ∈ Γ → g ∈ Δ) × (g ∈ Δ → g ∈ Γ)

-- What a verdict means: 1, that no looping run of any length satisfies every root formula; 2, that the recorded run does.
pub record Means (c : CaseModel) (v : ℕ) : Type 0 where
  pub holds : v ≡ 1 → NoRun (root_formulas c)
  pub counterexample : v ≡ 2 → (r : Run) × Recorded c r × SatisfiesAll r (root_formulas c)
