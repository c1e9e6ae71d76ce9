-- The numbers of the root formulas, each once. Assumes nothing.
use Rattle.std.specs.Prelude.{ℕ, Bool, true, cond, not, ◌&&◌, List, [], ◌∷◌, ◌++◌, map, Some, None, Option, ◌==◌, nat_lt}
use Rattle.std.specs.List.{list_any}
use Rattle.tables.specs.declared.number.Number.{Number}

abbrev pub contains : List ℕ → ℕ → Bool
contains ms n = list_any (λ m. m == n) ms

-- One number more, unless it is there.
abbrev pub noted : List ℕ → ℕ → List ℕ
noted ms n = cond (contains ms n) ms (ms ++ n ∷ [])

-- No number comes twice.
abbrev pub none_twice : List ℕ → Bool
none_twice [] = true
none_twice (m ∷ ms) = not (contains ms m) && none_twice ms

-- The numbers as plain ones.
abbrev pub plain : List Number → List ℕ
plain ns = map (λ n. n.0) ns

-- All numbers are below m.
abbrev pub all_below : ℕ → List ℕ → Bool
all_below m [] = true
all_below m (n ∷ ns) = nat_lt n m && all_below m ns

-- The smallest number that fails a test, if one does; the first argument has the smallest so far.
abbrev pub smaller : Option ℕ → ℕ → Option ℕ
smaller None n = Some n
smaller (Some m) n = cond (nat_lt n m) (Some n) (Some m)

abbrev pub least_failing : (ℕ → Bool) → Option ℕ → List ℕ → Option ℕ
least_failing test least [] = least
least_failing test least (n ∷ ns) = least_failing test (cond (test n) least (smaller least n)) ns
