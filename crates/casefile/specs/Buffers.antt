-- What is written into a buffer. Assumes nothing.
use Rattle.std.specs.Prelude.{ℕ, ◌+◌, List, ◌++◌, length, take, drop}

-- The buffer xs with the bytes bs written from `at` on.
abbrev pub overwritten : List ℕ → ℕ → List ℕ → List ℕ
overwritten xs at bs = take at xs ++ (bs ++ drop (at + length bs) xs)
