use Rattle.std.proofs.Common.{◌≡◌, ℕ, ◌||◌, drop}
use Rattle.tables.specs.Sets.{member}
use Rattle.cases.specs.Roots.{contains}
use Rattle.cases.specs.Steps.{first_unfit}
use Rattle.cases.proofs.draft.steps.rising_set.Given as goal

-- the answer is that for what is left, and the set has what is past
abbrev pub invariant-loop-i : goal.invariant-loop-i
invariant-loop-i l =
    (first_unfit l.len l.low l.i (drop l.i l.numbers) ≡ first_unfit l.len 0 0 l.numbers)
    × ((k : ℕ) → (member l.set k || contains (drop l.i l.numbers) k) ≡ contains l.numbers k)
