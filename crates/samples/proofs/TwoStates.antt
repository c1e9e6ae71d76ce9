-- The rows of the marked samples on the two runs of two states. Assumes nothing.
use Rattle.std.proofs.Common.{◌≡◌, ℕ, zero, suc, ◌+◌, ◌<◌, ◌≤◌, true, false, ◌⊎◌, ◌↔◌, length, get_or, sym, refl, ap, ◌∙◌, inl, inr, ⊎_elim, add-one, arith}
use Rattle.std.proofs.lemmas.Bool.{cases_lt, both_ways}
use Rattle.pltl.specs.Formulas.{Formula, Is, Isn't, Next, Always, Eventually, Until}
use Rattle.pltl.specs.Runs.{Run, following, position, no_letters, endless}
use Rattle.pltl.specs.Truth.{Holds}
use Rattle.pltl.proofs.Loops.{position_starts, position_follows, position_bound}
use Rattle.tables.specs.Rows.{bit, RowOf}
use Rattle.tables.proofs.BitTests.{bit_inside, bit_zero}
use Rattle.samples.specs.Marked.{to_first, to_last}

below_two : (p : ℕ) → p < 2 → (p ≡ 0) ⊎ (p ≡ 1)
below_two p lt = ⊎_elim (λ l. inl (omega arith)) (λ g. inr (omega arith)) (cases_lt p 1)

letter_at : (r : Run) (j p : ℕ) → position r j ≡ p → endless r j 0 ≡ get_or r.states p no_letters 0
letter_at r j p e = ap (λ q. get_or r.states q no_letters 0) e

-- to the first: a is at position 0, and not at position 1, which come in turn
first_a : (j : ℕ) → position to_first j ≡ 0 → (endless to_first j 0 ≡ true) × (endless to_first (j + 1) 0 ≡ false)
first_a j e = (letter_at to_first j 0 e, letter_at to_first (j + 1) 1 (position_follows to_first j ∙ ap (following to_first) e))

first_no_a : (j : ℕ) → position to_first j ≡ 1 → (endless to_first j 0 ≡ false) × (endless to_first (j + 1) 0 ≡ true)
first_no_a j e = (letter_at to_first j 1 e, letter_at to_first (j + 1) 0 (position_follows to_first j ∙ ap (following to_first) e))

first_turns : (j : ℕ) → (position to_first j ≡ 0) ⊎ (position to_first j ≡ 1)
first_turns j = below_two (position to_first j) (position_bound to_first j)

a_infinitely_often : (i : ℕ) → Holds (endless to_first) (Always (Eventually (Is 0))) i
a_infinitely_often i j le =
    ⊎_elim (λ e. (j, omega arith, (first_a j e).0)) (λ e. (j + 1, omega arith, (first_no_a j e).1)) (first_turns j)

a_not_at_last_always : (i : ℕ) → Holds (endless to_first) (Eventually (Always (Is 0))) i → ⊥
a_not_at_last_always i s =
    let j = s.0 in
    ⊎_elim
    (λ e. both_ways (endless to_first (j + 1) 0) (first_a j e).1 (s.2 (j + 1) (omega arith)))
    (λ e. both_ways (endless to_first j 0) (first_no_a j e).0 (s.2 j (omega arith)))
    (first_turns j)

-- to the last: after position 0 there is no a
last_stays : (j : ℕ) → position to_last (j + 1) ≡ 1
last_stays j =
    position_follows to_last j
    ∙ ⊎_elim (λ e. ap (following to_last) e) (λ e. ap (following to_last) e) (below_two (position to_last j) (position_bound to_last j))

no_a_later : (j : ℕ) → 1 ≤ j → endless to_last j 0 ≡ false
no_a_later zero le = absurd (omega arith)
no_a_later (suc j) le = letter_at to_last (suc j) 1 (ap (position to_last) (sym (add-one j)) ∙ last_stays j)

a_only_once : (i : ℕ) → Holds (endless to_last) (Always (Eventually (Is 0))) i → ⊥
a_only_once i every =
    let s = every (i + 1) (omega arith) in
    both_ways (endless to_last s.0 0) (no_a_later s.0 (omega (arith, s.1))) s.2

a_at_start : (k : ℕ) → k < 1 → endless to_last k 0 ≡ true
a_at_start zero lt = letter_at to_last 0 0 (position_starts to_last)
a_at_start (suc k) lt = absurd (omega arith)

a_until_not : (i : ℕ) → i < 2 → Holds (endless to_last) (Until (Is 0) (Isn't 0)) i
a_until_not i lt = (1, omega arith, no_a_later 1 (omega arith), λ k le below. a_at_start k below)

-- rows of two bits
bits_of_three : (i : ℕ) → i < 2 → bit 3 i ≡ true
bits_of_three zero lt = refl
bits_of_three (suc zero) lt = refl
bits_of_three (suc (suc i)) lt = absurd (omega arith)

module _ (r : Run) (two : length r.states ≡ 2) (f : Formula) where
  row_by_two : (w : ℕ) → w < 4 → ((i : ℕ) → i < 2 → (bit w i ≡ true) ↔ Holds (endless r) f i) → RowOf r f w
  row_by_two w small agree i = (
    λ b. let lt : i < 2 = bit_inside w 2 i small b in (omega arith, (agree i lt).0 b),
    λ lt h. (agree i (omega arith)).1 h,
  )

  row_none : ((i : ℕ) → Holds (endless r) f i → ⊥) → RowOf r f 0
  row_none never = row_by_two 0 (omega arith) (λ i lt. (λ b. absurd (both_ways (bit 0 i) (bit_zero i) b), λ h. absurd (never i h)))

  row_all : ((i : ℕ) → i < 2 → Holds (endless r) f i) → RowOf r f 3
  row_all always = row_by_two 3 (omega arith) (λ i lt. (λ b. always i lt, λ h. bits_of_three i lt))

a_next_at_last : (i : ℕ) → i < 2 → (bit 2 i ≡ true) ↔ Holds (endless to_first) (Next (Is 0)) i
a_next_at_last zero lt = (
  λ b. absurd (both_ways (bit 2 0) refl b),
  λ h. absurd (both_ways (endless to_first 1 0) (first_a 0 (position_starts to_first)).1 h),
)
a_next_at_last (suc zero) lt = (λ b. (first_no_a 1 (position_follows to_first 0 ∙ ap (following to_first) (position_starts to_first))).1, λ h. refl)
a_next_at_last (suc (suc i)) lt = absurd (omega arith)

pub row_of_next : RowOf to_first (Next (Is 0)) 2
row_of_next = row_by_two to_first refl (Next (Is 0)) 2 (omega arith) a_next_at_last

pub row_of_infinitely_often : RowOf to_first (Always (Eventually (Is 0))) 3
row_of_infinitely_often = row_all to_first refl (Always (Eventually (Is 0))) (λ i lt. a_infinitely_often i)

pub row_of_at_last_always : RowOf to_first (Eventually (Always (Is 0))) 0
row_of_at_last_always = row_none to_first refl (Eventually (Always (Is 0))) a_not_at_last_always

pub row_of_only_once : RowOf to_last (Always (Eventually (Is 0))) 0
row_of_only_once = row_none to_last refl (Always (Eventually (Is 0))) a_only_once

pub row_of_until_not : RowOf to_last (Until (Is 0) (Isn't 0)) 3
row_of_until_not = row_all to_last refl (Until (Is 0) (Isn't 0)) a_until_not
