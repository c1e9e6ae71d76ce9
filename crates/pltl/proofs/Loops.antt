-- The positions and the states of a looping run come again, and what comes again is a run. Assumes nothing.
use Rattle.std.proofs.Common.{◌≡◌, ℕ, zero, suc, ◌+◌, ◌-◌, ◌<◌, ◌≤◌, ltb, map, length, get_or, sym, refl, ap, ◌∙◌, ⊎_elim, add-one, arith}
use Rattle.std.specs.List.{range_with_len}
use Rattle.std.proofs.lemmas.List.FromFn.{length-map-range_with_len, get_or-map-range_with_len}
use Rattle.std.proofs.lemmas.Bool.{cases_lt, cond-true, cond-false, lt-ltb, le-ltb}
use Rattle.pltl.specs.Truth.{Sequence}
use Rattle.pltl.specs.Runs.{Run, following, position, no_letters, endless}

abbrev pub period : Run → ℕ
period r = length r.states - r.back

pub period_positive : (r : Run) → 0 < period r
period_positive r = omega (arith, r.within)

module _ (r : Run) where
  pub position_starts : position r 0 ≡ 0
  unfolding position
  position_starts = refl

  pub position_follows : (i : ℕ) → position r (i + 1) ≡ following r (position r i)
  unfolding position
  position_follows i = ap (position r) (add-one i)

  pub following_within : (p : ℕ) → p + 1 < length r.states → following r p ≡ p + 1
  following_within p lt = cond-true (ltb (p + 1) (length r.states)) (p + 1) r.back (lt-ltb (p + 1) (length r.states) lt)

  pub following_last : (p : ℕ) → length r.states ≤ p + 1 → following r p ≡ r.back
  following_last p le = cond-false (ltb (p + 1) (length r.states)) (p + 1) r.back (le-ltb (p + 1) (length r.states) le)

  pub position_within : (i : ℕ) → i < length r.states → position r i ≡ i
  position_within zero lt = position_starts
  position_within (suc i) lt =
      ap (position r) (sym (add-one i)) ∙ position_follows i ∙ ap (following r) (position_within i (omega arith)) ∙ following_within i (omega arith) ∙ add-one i

  -- after the last position comes the back position
  pub position_length : position r (length r.states) ≡ r.back
  position_length =
      let last = length r.states - 1 in
      let some : r.back < length r.states = r.within in
      let e : length r.states ≡ last + 1 = omega arith in
      ap (position r) e ∙ position_follows last ∙ ap (following r) (position_within last (omega arith)) ∙ following_last last (omega arith)

  position_again_from : (n : ℕ) → position r (r.back + n + period r) ≡ position r (r.back + n)
  position_again_from zero =
      let some : r.back < length r.states = r.within in
      let e : r.back + 0 + period r ≡ length r.states = omega arith in
      let b : r.back ≡ r.back + 0 = omega arith in
      ap (position r) e ∙ position_length ∙ sym (position_within r.back some) ∙ ap (position r) b
  position_again_from (suc n) =
      let e : r.back + suc n + period r ≡ (r.back + n + period r) + 1 = omega arith in
      let b : (r.back + n) + 1 ≡ r.back + suc n = omega arith in
      ap (position r) e ∙ position_follows (r.back + n + period r) ∙ ap (following r) (position_again_from n) ∙ sym (position_follows (r.back + n)) ∙ ap (position r) b

  pub position_again : (i : ℕ) → r.back ≤ i → position r (i + period r) ≡ position r i
  position_again i le =
      let n = i - r.back in
      let e : i ≡ r.back + n = omega arith in
      ap (λ j. position r (j + period r)) e ∙ position_again_from n ∙ ap (position r) (sym e)

  pub position_bound : (i : ℕ) → position r i < length r.states
  position_bound zero = omega (arith, position_starts, r.within)
  position_bound (suc i) =
      let p = position r i in
      let e : position r (suc i) ≡ following r p = ap (position r) (sym (add-one i)) ∙ position_follows i in
      ⊎_elim
      (λ lt. omega (arith, e, following_within p lt))
      (λ le. omega (arith, e, following_last p le, r.within))
      (cases_lt (p + 1) (length r.states))

  pub state_again : (i : ℕ) → r.back ≤ i → endless r (i + period r) ≡ endless r i
  state_again i le = ap (λ p. get_or r.states p no_letters) (position_again i le)

-- two sequences that come again alike, and agree up to the end of the first turn, agree
module _ (σ τ : Sequence) (back turn : ℕ) (moves : 0 < turn)
    (σ-again : (i : ℕ) → back ≤ i → σ (i + turn) ≡ σ i) (τ-again : (i : ℕ) → back ≤ i → τ (i + turn) ≡ τ i)
    (first : (i : ℕ) → i < back + turn → σ i ≡ τ i) where
  agree_below : (n i : ℕ) → i < n → σ i ≡ τ i
  agree_below zero i lt = absurd (omega arith)
  agree_below (suc n) i lt =
      ⊎_elim
      (first i)
      (λ far.
      let j = i - turn in
      let e : i ≡ j + turn = omega arith in
      let le : back ≤ j = omega arith in
      ap σ e ∙ σ-again j le ∙ agree_below n j (omega arith) ∙ sym (τ-again j le) ∙ ap τ (sym e))
      (cases_lt i (back + turn))

  pub agree_always : (i : ℕ) → σ i ≡ τ i
  agree_always i = agree_below (suc i) i (omega arith)

-- the run that shows a sequence up to the end of its first turn
pub shown : (σ : Sequence) (back turn : ℕ) → 0 < turn → Run
shown σ back turn moves = record {
  states = map σ (range_with_len 0 (back + turn));
  back = back;
  within = omega (arith, length-map-range_with_len σ 0 (back + turn));
}

pub endless_shown : (σ : Sequence) (back turn : ℕ) (moves : 0 < turn) → ((i : ℕ) → back ≤ i → σ (i + turn) ≡ σ i) → (i : ℕ) → endless (shown σ back turn moves) i ≡ σ i
unfolding shown
endless_shown σ back turn moves again = agree_always (endless s) σ back turn moves s_again again first
  where
    s : Run
    s = shown σ back turn moves

    long : length s.states ≡ back + turn
    long = length-map-range_with_len σ 0 (back + turn)

    s_again : (i : ℕ) → back ≤ i → endless s (i + turn) ≡ endless s i
    s_again i le = let e : turn ≡ period s = omega (arith, long) in ap (λ t. endless s (i + t)) e ∙ state_again s i le

    first : (i : ℕ) → i < back + turn → endless s i ≡ σ i
    first i lt =
        ap (λ p. get_or s.states p no_letters) (position_within s i (omega (arith, long)))
        ∙ get_or-map-range_with_len σ 0 (back + turn) i i no_letters lt (omega arith)
