-- Names with numbers. Assumes nothing.
use Rattle.std.specs.Prelude.{ℕ, Bool, true, false, cond, ◌&&◌, List, [], ◌∷◌, Some, None, Option, ◌==◌}

abbrev pub same_word : List ℕ → List ℕ → Bool
same_word [] [] = true
same_word [] (b ∷ w) = false
same_word (a ∷ v) [] = false
same_word (a ∷ v) (b ∷ w) = a == b && same_word v w

-- A word, by its bytes, and the number that it stands for.
pub record Name : Type 0 where
  pub word : List ℕ
  pub number : ℕ

-- The number of a word, if it is in the list.
abbrev pub lookup : List Name → List ℕ → Option ℕ
lookup [] w = None
lookup (n ∷ ns) w = cond (same_word n.word w) (Some n.number) (lookup ns w)
