-- The phases of a recorded run. Assumes nothing.
use Rattle.std.specs.Prelude.{ℕ, Bool, Some, None, Option, ◌==◌, nat_lt}
use Rattle.cases.specs.declared.recorder.Phase.{Phase}
use Rattle.cases.specs.declared.recorder.Phase.TheVariants.{Empty, Open, Closed}

abbrev pub back_of : Phase → Option ℕ
back_of Empty = None
back_of Open = None
back_of (Closed b) = Some b

-- An empty run has no states, an open one has some, and a closed one has its back position among them.
abbrev pub phase_fits : Phase → ℕ → Bool
phase_fits Empty n = n == 0
phase_fits Open n = nat_lt 0 n
phase_fits (Closed b) n = nat_lt b n
