-- A list of values built from a list of nodes: each node names values before it by their index. Assumes nothing.
use Rattle.std.specs.Prelude.{List, [], ◌∷◌, ◌++◌}

abbrev pub built : {N X : Type 0} → (List X → N → X) → List X → List N → List X
built value xs [] = xs
built value xs (n ∷ ns) = built value (xs ++ value xs n ∷ []) ns
