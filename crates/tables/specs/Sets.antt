-- Sets of formula numbers, and the sets of formulas that they stand for. Assumes nothing.
use Rattle.std.specs.Prelude.{ℕ, zero, suc, ◌+◌, ◌/◌, ◌%◌, Bool, cond, ◌&&◌, List, [], ◌∷◌, nat_lt, slice_index}
use Rattle.pltl.specs.Formulas.{Formula}
use Rattle.tables.specs.declared.number.Number.{Number}
use Rattle.tables.specs.declared.sequent.Sequent.{Sequent}
use Rattle.tables.specs.declared.sequent.iter.Members.{Members}
use Rattle.tables.specs.Rows.{bit}

-- A number is in the set: 64 numbers for each word, 0 to 511.
unfoldable pub member : Sequent → ℕ → Bool
member s n = nat_lt n 512 && bit (slice_index s.words (n / 64)) (n % 64)

-- The formulas whose numbers are in a set; a number that names no formula brings none.
unfoldable pub chosen : (ℕ → Bool) → List Formula → List Formula
chosen S [] = []
chosen S (f ∷ fs) = cond (S 0) (f ∷ chosen (λ n. S (n + 1)) fs) (chosen (λ n. S (n + 1)) fs)

-- The numbers of a set among the n from a on, rising.
unfoldable pub numbers_from : (ℕ → Bool) → ℕ → ℕ → List Number
numbers_from S a zero = []
numbers_from S a (suc n) = cond (S a) (record { 0 = a } ∷ numbers_from S (a + 1) n) (numbers_from S (a + 1) n)

-- The numbers of a sequent, rising.
abbrev pub numbers : Sequent → List Number
numbers s = numbers_from (member s) 0 512

-- The numbers that an iterator has still to give.
abbrev pub numbers_left : Members → List Number
numbers_left m = numbers m.rest
