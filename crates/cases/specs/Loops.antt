-- The calls state, loop, drop and row. Assumes nothing.
use Rattle.std.specs.Prelude.{◌≡◌, ℕ, ◌<◌, ◌≤◌, Bool, true, false, ◌⊎◌, List, length, Some, None, Ok, Err, Option, Result}
use Rattle.std.proofs.Math.Decide.{dec_lt}
use Rattle.pltl.specs.Formulas.{Formula}
use Rattle.pltl.specs.Runs.{Run, Satisfies}
use Rattle.pltl.specs.Truth.{State}
use Rattle.tables.specs.Listing.{numbered}
use Rattle.tables.specs.Rows.{RowOf}
use Rattle.cases.specs.declared.faults.CaseFault.{CaseFault}
use Rattle.cases.specs.declared.faults.CaseFault.TheVariants.{NotInTable, NoPosition, FalseRoot}
use Rattle.cases.specs.declared.recorder.Event.TheVariants.{Loop}
use Rattle.cases.specs.Models.{RunModel, CaseModel}
use Rattle.cases.specs.Recordings.{event_objection}
use Rattle.cases.specs.Roots.{contains, least_failing}
use Rattle.cases.specs.Satisfied.{satisfied}

-- Whether the run with these states and this back position satisfies a formula.
abbrev pub satisfied_if : (states : List State) (back : ℕ) → Dec (back < length states) → Formula → Bool
satisfied_if states back (yes h) f = satisfied (record { states = states; back = back; within = h }) f
satisfied_if states back (no h) f = false

unfoldable pub looped : List State → ℕ → Formula → Bool
looped states back f = satisfied_if states back (dec_lt back (length states)) f

-- The smallest number of a root formula that is false at position 0.
abbrev pub false_root : CaseModel → ℕ → Option ℕ
false_root c b = least_failing (λ n. looped c.run.states b (numbered c.formulas n)) None c.roots

abbrev pub root_objection : Option CaseFault → Option ℕ → Option CaseFault
root_objection (Some f) o = Some f
root_objection None (Some n) = Some (FalseRoot n)
root_objection None None = None

-- What is objected to a loop, in the order of the checks.
abbrev pub loop_objection : CaseModel → ℕ → Option CaseFault
loop_objection c b = root_objection (event_objection c.run (Loop b)) (false_root c b)

-- The case with another run.
abbrev pub with_run : CaseModel → RunModel → CaseModel
with_run c m = record { formulas = c.formulas; roots = c.roots; run = m }

-- What a loop's answer means, on the run with the held states and the back position: it is taken only if the run
-- satisfies every root formula; it is refused for a root formula that the run does not satisfy, while it satisfies
-- those with smaller numbers.
abbrev pub LoopMeans : CaseModel → Run → Result ℕ CaseFault → Type 0
LoopMeans c r (Ok n) = (m : ℕ) → contains c.roots m ≡ true → Satisfies r (numbered c.formulas m)
LoopMeans c r (Err f) = (n : ℕ) → f ≡ FalseRoot n → (contains c.roots n ≡ true) × (Satisfies r (numbered c.formulas n) → ⊥) × ((m : ℕ) → contains c.roots m ≡ true → m < n → Satisfies r (numbered c.formulas m))

-- Row: refused for a number that is not in the table, then for a back position that is not held; else the row.
abbrev pub RowMeans : CaseModel → ℕ → ℕ → Result ℕ CaseFault → Type 0
RowMeans c n b (Ok w) = (n < length c.formulas) × (b < length c.run.states) × ((r : Run) → r.states ≡ c.run.states → r.back ≡ b → RowOf r (numbered c.formulas n) w)
RowMeans c n b (Err f) = ((length c.formulas ≤ n) × (f ≡ NotInTable 0)) ⊎ ((n < length c.formulas) × (length c.run.states ≤ b) × (f ≡ NoPosition))
