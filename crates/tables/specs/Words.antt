-- Sets of positions as words. Assumes nothing.
use Rattle.std.specs.Prelude.{◌≡◌, ℕ, ◌+◌, ◌^◌, true, cond, ◌&&◌, ◌⊎◌, List, bit_or, nat_lt, slice_index}
use Rattle.pltl.specs.Truth.{UntilFrom}
use Rattle.tables.specs.Rows.{bit}

-- position i is in the set of a word
abbrev pub In : ℕ → ℕ → Type 0
In w i = bit w i ≡ true

-- a goal, or the last position where the way goes on to a goal from the back position, with no other turn
abbrev pub GoalOrTurn : ℕ → ℕ → ℕ → ℕ → ℕ → Type 0
GoalOrTurn through goal len back k = In goal k ⊎ ((k + 1 ≡ len) × In through k × UntilFrom back (In through) (In goal))

-- the word of letter p with position i added where bit p is set, of the letters 0 to 25
abbrev pub marked : List ℕ → ℕ → ℕ → ℕ → ℕ
marked ws letters i p = cond (nat_lt p 26 && bit letters p) (bit_or (slice_index ws p) (2 ^ i)) (slice_index ws p)
