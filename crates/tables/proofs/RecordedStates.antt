-- Recorded states: how many there are, each of them, and one more. Assumes nothing.
use Rattle.std.proofs.Common.{◌≡◌, ℕ, zero, suc, ◌+◌, ◌^◌, ◌<◌, ◌≤◌, false, ◌&&◌, ◌||◌, ltb, List, [], ◌∷◌, ◌++◌, length, get_or, replicate, sym, refl, ap, ◌∙◌, subst, ap₂, ⊎_elim, add-one, arith, pow_mono}
use lib.Bits.{bit_or}
use Rattle.std.proofs.lemmas.Nat.{or_lt, pow_below}
use Rattle.std.proofs.lemmas.List.{length_push, length-replicate, get_or_append_left, get_or_push, get_or_past, get_or-replicate}
use Rattle.std.proofs.Math.Bool.{or-false}
use Rattle.std.proofs.lemmas.Bool.{cases_lt, cases_Bool, cond-true, cond-false, cond_both, or_right, eq-eqb, ne_eqb}
use Rattle.pltl.specs.Runs.{no_letters}
use Rattle.pltl.specs.Truth.{State}
use Rattle.tables.specs.Rows.{bit, state_of, recorded}
use Rattle.tables.specs.Words.{marked}
use Rattle.tables.proofs.BitTests.{bit_of_or, bit_only, bit_past}

pub length_recorded : (ws : List ℕ) (n : ℕ) → length (recorded ws n) ≡ n
unfolding recorded
length_recorded ws zero = refl
length_recorded ws (suc n) = omega (arith, length_push (recorded ws n) (λ p. bit (get_or ws p 0) n), length_recorded ws n)

pub recorded_at : (ws : List ℕ) (n i : ℕ) → i < n → get_or (recorded ws n) i no_letters ≡ (λ p. bit (get_or ws p 0) i)
unfolding recorded
recorded_at ws zero i lt = absurd (omega arith)
recorded_at ws (suc n) i lt =
    let long = length_recorded ws n in
    ⊎_elim
    (λ l. get_or_append_left (recorded ws n) _ no_letters i (omega arith) ∙ recorded_at ws n i l)
    (λ g. let e : n ≡ i = omega arith in get_or_push (recorded ws n) _ no_letters i (long ∙ e) ∙ ap (λ k p. bit (get_or ws p 0) k) e)
    (cases_lt i n)

-- the words with one position more
module _ (ws vs : List ℕ) (letters at : ℕ) (clean : (p : ℕ) → get_or ws p 0 < 2 ^ at) (is : (p : ℕ) → get_or vs p 0 ≡ marked ws letters at p) where
  pub marked_clean : (p : ℕ) → get_or vs p 0 < 2 ^ (at + 1)
  marked_clean p =
      let low : get_or ws p 0 < 2 ^ (at + 1) = omega (arith, clean p, pow_mono {i = at} {j = at + 1} (omega arith)) in
      subst (λ w. w < 2 ^ (at + 1)) (sym (is p))
      (cond_both (ltb p 26 && bit letters p) (bit_or (get_or ws p 0) (2 ^ at)) (get_or ws p 0) (λ w. w < 2 ^ (at + 1))
      (λ _. or_lt (at + 1) (get_or ws p 0) (2 ^ at) low (pow_below at (at + 1) (omega arith))) (λ _. low))

  -- an earlier position is as it was
  marked_before : (i p : ℕ) → i < at → bit (get_or vs p 0) i ≡ bit (get_or ws p 0) i
  marked_before i p lt =
      let w = get_or ws p 0 in
      ap (λ x. bit x i) (is p)
      ∙ cond_both (ltb p 26 && bit letters p) (bit_or w (2 ^ at)) w (λ x. bit x i ≡ bit w i)
      (λ _. bit_of_or w (2 ^ at) i ∙ ap (λ b. bit w i || b) (bit_only at i ∙ ne_eqb i at (omega arith)) ∙ or-false (bit w i))
      (λ _. refl)

  marked_here : (p : ℕ) → bit (get_or vs p 0) at ≡ state_of letters p
  marked_here p =
      let w = get_or ws p 0 in
      let b = ltb p 26 && bit letters p in
      let none : bit w at ≡ false = bit_past w at at (clean p) (omega arith) in
      ⊎_elim
      (λ t. ap (λ x. bit x at) (is p ∙ cond-true b _ _ t) ∙ bit_of_or w (2 ^ at) at ∙ or_right (bit w at) (bit (2 ^ at) at) (bit_only at at ∙ eq-eqb at at refl) ∙ sym t)
      (λ f. ap (λ x. bit x at) (is p ∙ cond-false b _ _ f) ∙ none ∙ sym f)
      (cases_Bool b)

  recorded_before : (n : ℕ) → n ≤ at → recorded vs n ≡ recorded ws n
  unfolding recorded
  recorded_before zero le = refl
  recorded_before (suc n) le = ap₂ (λ (l : List State) (s : State). l ++ s ∷ []) (recorded_before n (omega arith)) (λ j p. marked_before n p (omega arith) j)

  pub recorded_marked : recorded vs (at + 1) ≡ recorded ws at ++ state_of letters ∷ []
  unfolding recorded
  recorded_marked = ap (recorded vs) (add-one at) ∙ ap₂ (λ (l : List State) (s : State). l ++ s ∷ []) (recorded_before at (omega arith)) (λ j p. marked_here p j)

pub zeros : (n p : ℕ) → get_or (replicate n 0) p 0 < 1
zeros n p =
    ⊎_elim
    (λ l. omega (arith, get_or-replicate {A = ℕ} n p 0 0 l))
    (λ g. omega (arith, get_or_past {X = ℕ} (replicate n 0) p 0 (omega (arith, length-replicate {A = ℕ} n 0))))
    (cases_lt p n)
