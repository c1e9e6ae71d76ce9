-- Recorded states, and rows. A row is a word of 64 bits, one for each position. A reader has to believe this file.
-- Assumes nothing.
use Rattle.std.specs.Prelude.{◌≡◌, ℕ, zero, suc, ◌/◌, ◌%◌, ◌^◌, ◌<◌, Bool, true, ◌&&◌, List, [], ◌∷◌, ◌++◌, length, Some, None, Option, ◌==◌, nat_lt, slice_index}
use Rattle.pltl.specs.Formulas.{Formula}
use Rattle.pltl.specs.Runs.{Run, endless}
use Rattle.pltl.specs.Truth.{State, Holds}
use Rattle.tables.specs.Listing.{numbered}

-- Bit i of a word.
abbrev pub bit : ℕ → ℕ → Bool
bit w i = w / 2 ^ i % 2 == 1

-- The state with letter p where bit p is set, of the letters 0 to 25.
abbrev pub state_of : ℕ → State
state_of w p = nat_lt p 26 && bit w p

-- The first n states that words by letter stand for: the letter p holds at position i where bit i of its word is set.
unfoldable pub recorded : List ℕ → ℕ → List State
recorded ws zero = []
recorded ws (suc n) = recorded ws n ++ (λ p. bit (slice_index ws p) n) ∷ []

-- w is the row of f on a run: bit i is set exactly when position i satisfies f, and bits past the last position are 0.
abbrev pub RowOf : Run → Formula → ℕ → Type 0
RowOf r f w = (i : ℕ) → (bit w i ≡ true → (i < length r.states) × Holds (endless r) f i) × (i < length r.states → Holds (endless r) f i → bit w i ≡ true)

-- the words are the rows of all formulas on each run with these states and this back position
abbrev pub RowsOf : List State → ℕ → List Formula → List ℕ → Type 0
RowsOf states back fs ws = (r : Run) → r.states ≡ states → r.back ≡ back → (n : ℕ) → n < length fs → RowOf r (numbered fs n) (slice_index ws n)

-- The states after one was to be added: with it behind them where it has a position, and as they were where it has none.
abbrev pub pushed : List State → State → Option ℕ → List State
pushed states s (Some i) = states ++ s ∷ []
pushed states s None = states
