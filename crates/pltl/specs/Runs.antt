-- Looping runs. A reader has to believe this file. Assumes nothing.
use Rattle.std.specs.Prelude.{ℕ, zero, suc, ◌+◌, ◌<◌, false, cond, List, length, nat_lt, slice_index_or}
use Rattle.pltl.specs.Formulas.{Tree, Formula}
use Rattle.pltl.specs.Truth.{State, Sequence, Holds, HoldsAsWritten}

-- A looping run: a list of states, and a back position in it, so that the list is not empty.
pub record Run : Type 0 where
  pub states : List State
  pub back : ℕ
  pub within : back < length states

-- A position is followed by the next one, and the last position by the back position.
abbrev pub following : Run → ℕ → ℕ
following r p = cond (nat_lt (p + 1) (length r.states)) (p + 1) r.back

-- The position of the run at each moment, without end.
unfoldable pub position : Run → ℕ → ℕ
position r zero = 0
position r (suc i) = following r (position r i)

abbrev pub no_letters : State
no_letters p = false

-- The endless sequence of a run.
abbrev pub endless : Run → Sequence
endless r i = slice_index_or r.states (position r i) no_letters

-- A run satisfies what is true at position 0 of its endless sequence.
abbrev pub Satisfies : Run → Formula → Type 0
Satisfies r f = Holds (endless r) f 0

abbrev pub SatisfiesAsWritten : Run → Tree → Type 0
SatisfiesAsWritten r t = HoldsAsWritten (endless r) t 0
