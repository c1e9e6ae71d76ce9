-- What is true now by what is true now and at the next position. Assumes nothing.
use Rattle.std.proofs.Common.{ℕ, ◌+◌, ◌⊎◌, ◌↔◌}
use Rattle.pltl.specs.Formulas.{Formula}
use Rattle.pltl.specs.Formulas as pltl
use Rattle.pltl.specs.Truth.{Holds}
use Rattle.pltl.specs.Runs.{Run, endless}
use Rattle.pltl.proofs.Positions.{every_steps, every_by_step, some_steps, some_by_step, until_steps, until_by_step, release_steps, release_by_step}
use Rattle.pltl.proofs.Decisions.{decided}

pub always_unfolds : (r : Run) (a : Formula) (i : ℕ) →
    Holds (endless r) (pltl.Always a) i ↔ (Holds (endless r) a i × Holds (endless r) (pltl.Always a) (i + 1))
always_unfolds r a i = (every_steps (Holds (endless r) a) i, every_by_step (Holds (endless r) a) i)

pub eventually_unfolds : (r : Run) (a : Formula) (i : ℕ) →
    Holds (endless r) (pltl.Eventually a) i ↔ (Holds (endless r) a i ⊎ Holds (endless r) (pltl.Eventually a) (i + 1))
eventually_unfolds r a i = (some_steps (Holds (endless r) a) i, some_by_step (Holds (endless r) a) i)

pub until_unfolds : (r : Run) (a b : Formula) (i : ℕ) →
    Holds (endless r) (pltl.Until a b) i ↔ (Holds (endless r) b i ⊎ (Holds (endless r) a i × Holds (endless r) (pltl.Until a b) (i + 1)))
until_unfolds r a b i =
    (until_steps (Holds (endless r) a) (Holds (endless r) b) i, until_by_step (Holds (endless r) a) (Holds (endless r) b) i)

pub release_unfolds : (r : Run) (a b : Formula) (i : ℕ) →
    Holds (endless r) (pltl.Release a b) i ↔ (Holds (endless r) b i × (Holds (endless r) a i ⊎ Holds (endless r) (pltl.Release a b) (i + 1)))
release_unfolds r a b i = (
  release_steps (Holds (endless r) a) (Holds (endless r) b) (decided r a) (decided r b) i,
  release_by_step (Holds (endless r) a) (Holds (endless r) b) i,
)
