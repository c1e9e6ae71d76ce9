-- Passing the lines of a file. Assumes nothing.
use Rattle.std.proofs.Common.{◌≡◌, ℕ, zero, suc, ◌+◌, ◌-◌, ◌<◌, ◌≤◌, Bool, true, false, cond, eqb, ltb, List, [], ◌∷◌, length, get_or, drop, count_by, Some, None, Option, is_some, sym, refl, ap, ◌∙◌, subst, inl, inr, arith}
use Rattle.std.proofs.lemmas.List.Recursion.{is_count_by}
use Rattle.std.proofs.lemmas.List.Sums.{fails_before_first, passes_at_first}
use Rattle.std.specs.List.{position, position_or_len}
use Rattle.std.proofs.lemmas.List.{at_drop_more, at_drop_all}
use Rattle.std.proofs.lemmas.Bool.{cases_Bool, cases_lt, cond_both, cond-true, cond-false, eq-eqb, ne_eqb, eqb-true, eqb-false, ltb-true, ltb-false, false≢true}
use Rattle.casefile.specs.Newlines.{newlines}

some_none : {k : ℕ} → ◌≡◌ {A = Option ℕ} (Some k) None → ⊥
some_none e = false≢true (sym (ap is_some e))

-- the number in an option
abbrev number_in : Option ℕ → ℕ
number_in None = 0
number_in (Some n) = n

the_same : {m n : ℕ} → ◌≡◌ {A = Option ℕ} (Some m) (Some n) → m ≡ n
the_same e = ap number_in e

-- the lines that end are as many as the bytes that end one
pub newlines_counted : (bs : List ℕ) → count_by (λ b. eqb b 10) bs ≡ newlines bs
newlines_counted bs = sym (is_count_by newlines (λ b. eqb b 10) refl (λ b cs. one_more (eqb b 10) (newlines cs)) bs)
  where
    one_more : (b : Bool) (n : ℕ) → cond b 1 0 + n ≡ cond b (1 + n) n
    one_more true n = refl
    one_more false n = omega arith

-- as many lines end as there are bytes, at most
pub newlines_few : (bs : List ℕ) → newlines bs ≤ length bs
newlines_few [] = omega arith
newlines_few (b ∷ bs) = omega (arith, newlines_few bs, cond_both (eqb b 10) 1 0 (λ n. n ≤ 1) (λ _. omega arith) (λ _. omega arith))

-- past one byte
pub step : (file : List ℕ) (i : ℕ) → i < length file → newlines (drop i file) ≡ cond (eqb (get_or file i 0) 10) 1 0 + newlines (drop (i + 1) file)
step file i lt = at_drop_more newlines file i 0 lt

pub step_ends : (file : List ℕ) (i : ℕ) → i < length file → get_or file i 0 ≡ 10 → newlines (drop i file) ≡ 1 + newlines (drop (i + 1) file)
step_ends file i lt e = step file i lt ∙ ap (λ n. n + newlines (drop (i + 1) file)) (cond-true {A = ℕ} (eqb (get_or file i 0) 10) 1 0 (eq-eqb (get_or file i 0) 10 e))

pub step_other : (file : List ℕ) (i : ℕ) → i < length file → (get_or file i 0 ≡ 10 → ⊥) → newlines (drop i file) ≡ newlines (drop (i + 1) file)
step_other file i lt ne =
    omega (arith, step file i lt, cond-false {A = ℕ} (eqb (get_or file i 0) 10) 1 0 (ne_eqb (get_or file i 0) 10 ne))

-- past a line, up to its end at k, which is d bytes ahead
past_line : (d : ℕ) (file : List ℕ) (i k : ℕ) → i + d ≡ k → k < length file → ((j : ℕ) → i ≤ j → j < k → get_or file j 0 ≡ 10 → ⊥) → get_or file k 0 ≡ 10
    → newlines (drop i file) ≡ 1 + newlines (drop (k + 1) file)
past_line zero file i k e lt before ends =
    let same : i ≡ k = omega arith in
    subst (λ j. newlines (drop j file) ≡ 1 + newlines (drop (k + 1) file)) (sym same) (step_ends file k lt ends)
past_line (suc d) file i k e lt before ends =
    step_other file i (omega arith) (before i (omega arith) (omega arith)) ∙ past_line d file (i + 1) k (omega arith) lt (λ j le below. before j (omega arith) below) ends

pub one_line : (file : List ℕ) (i k : ℕ) → i ≤ k → k < length file → ((j : ℕ) → i ≤ j → j < k → get_or file j 0 ≡ 10 → ⊥) → get_or file k 0 ≡ 10
    → newlines (drop i file) ≡ 1 + newlines (drop (k + 1) file)
one_line file i k le = past_line (k - i) file i k (omega arith)

-- no line ends from i on
past_none : (d : ℕ) (file : List ℕ) (i : ℕ) → length file ≤ i + d → ((j : ℕ) → i ≤ j → j < length file → get_or file j 0 ≡ 10 → ⊥) → newlines (drop i file) ≡ 0
past_none zero file i le before = at_drop_all newlines file i (omega arith)
past_none (suc d) file i le before =
    elim (cases_lt i (length file)) [
      | inl lt ↦ step_other file i lt (before i (omega arith) lt) ∙ past_none d file (i + 1) (omega arith) (λ j l below. before j (omega arith) below)
      | inr past ↦ at_drop_all newlines file i past
    ]

pub no_line : (file : List ℕ) (i : ℕ) → ((j : ℕ) → i ≤ j → j < length file → get_or file j 0 ≡ 10 → ⊥) → newlines (drop i file) ≡ 0
no_line file i = past_none (length file) file i (omega arith)

-- a line ends ahead, where the last byte is 10
ahead : (d : ℕ) (file : List ℕ) (i : ℕ) → i + d + 1 ≡ length file → get_or file (length file - 1) 0 ≡ 10 → 1 ≤ newlines (drop i file)
ahead zero file i e ends =
    let last : length file - 1 ≡ i = omega arith in
    omega (arith, step_ends file i (omega arith) (subst (λ k. get_or file k 0 ≡ 10) last ends))
ahead (suc d) file i e ends = omega (arith, step file i (omega arith), ahead d file (i + 1) (omega arith) ends)

pub newline_ahead : (file : List ℕ) (i : ℕ) → i < length file → get_or file (length file - 1) 0 ≡ 10 → 1 ≤ newlines (drop i file)
newline_ahead file i lt = ahead (length file - i - 1) file i (omega arith)

-- the place of the first byte that ends a line
first_place : (rest : List ℕ) (k : ℕ) → Some k ≡ position (λ b. eqb b 10) rest → (position_or_len (λ b. eqb b 10) rest ≡ k) × (k < length rest)
first_place rest k e =
    let p = λ (b : ℕ). eqb b 10 in
    let at = position_or_len p rest in
    elim (cases_Bool (ltb at (length rest))) [
      | inl b ↦ let same : k ≡ at = the_same (e ∙ cond-true (ltb at (length rest)) (Some at) None b) in (sym same, subst (λ n. n < length rest) (sym same) (ltb-true at (length rest) b))
      | inr b ↦ absurd (some_none (e ∙ cond-false (ltb at (length rest)) (Some at) None b))
    ]

no_place : (rest : List ℕ) → None ≡ position (λ b. eqb b 10) rest → length rest ≤ position_or_len (λ b. eqb b 10) rest
no_place rest e =
    let p = λ (b : ℕ). eqb b 10 in
    let at = position_or_len p rest in
    elim (cases_Bool (ltb at (length rest))) [
      | inl b ↦ absurd (some_none (sym (e ∙ cond-true (ltb at (length rest)) (Some at) None b)))
      | inr b ↦ ltb-false at (length rest) b
    ]

-- past the first line of what is left
pub first_passed : (rest : List ℕ) (k : ℕ) → Some k ≡ position (λ b. eqb b 10) rest → (k < length rest) × (newlines rest ≡ 1 + newlines (drop (k + 1) rest))
first_passed rest k e =
    let p = λ (b : ℕ). eqb b 10 in
    let h = first_place rest k e in
    let before : (j : ℕ) → 0 ≤ j → j < k → get_or rest j 0 ≡ 10 → ⊥ = λ j le lt is. eqb-false (get_or rest j 0) 10 (fails_before_first p rest j 0 (omega (arith, h.0))) is in
    let ends : get_or rest k 0 ≡ 10 = eqb-true (get_or rest k 0) 10 (subst (λ n. eqb (get_or rest n 0) 10 ≡ true) h.0 (passes_at_first p rest 0 (omega (arith, h.0, h.1)))) in
    (h.1, one_line rest 0 k (omega arith) h.1 before ends)

-- no line ends in what is left
pub none_passed : (rest : List ℕ) → None ≡ position (λ b. eqb b 10) rest → newlines rest ≡ 0
none_passed rest e =
    let p = λ (b : ℕ). eqb b 10 in
    let h = no_place rest e in
    no_line rest 0 (λ j le lt is. eqb-false (get_or rest j 0) 10 (fails_before_first p rest j 0 (omega (arith, h))) is)
