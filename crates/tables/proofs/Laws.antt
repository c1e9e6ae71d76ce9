-- The laws of a table, and that adding a formula with its opposite keeps them. Assumes nothing.
use Rattle.std.proofs.Common.{◌≡◌, ℕ, zero, suc, ◌+◌, ◌-◌, ◌*◌, ◌/◌, ◌%◌, ◌<◌, ◌≤◌, eqb, List, [], ◌∷◌, ◌++◌, length, sym, refl, ap, ◌∙◌, ⊎_elim, arith}
use mathlib.Core.Logic.{∥∥₁_elim}
use native.Mathlib.Nat.{ℕ_set}
use Rattle.std.proofs.lemmas.List.{get_or_append_left, get_or_at, length-append}
use Rattle.std.proofs.lemmas.Bool.{cases_lt, cases_eq, cond-true, cond-false, eq-eqb, ne_eqb}
use Rattle.pltl.specs.Formulas.{Formula, opposite}
use Rattle.pltl.specs.Formulas as formula
use Rattle.pltl.proofs.Opposites.{opposite_opposite, opposite_differs}
use Rattle.tables.specs.Entering.{place}
use Rattle.tables.specs.Listing.{numbered, Lawful}
use Rattle.tables.specs.Numbers.{beside}
use Rattle.tables.proofs.Places.{formula_set, numbered_place, place_first}

lawful_prop : (fs : List Formula) → IsProp (Lawful fs)
lawful_prop fs x y = λ i. record {
  true_first = formula_set _ _ x.true_first y.true_first i;
  false_second = formula_set _ _ x.false_second y.false_second i;
  opposites = λ k h. formula_set _ _ (x.opposites k h) (y.opposites k h) i;
  once = λ a b p q e. ℕ_set _ _ (x.once a b p q e) (y.once a b p q e) i;
}

pub lawful_from : {fs : List Formula} → ∥ Lawful fs ∥₁ → Lawful fs
lawful_from {fs} t = ∥∥₁_elim t (lawful_prop fs) (λ l. l)

true_false : formula.True ≡ formula.False → ⊥
true_false e = opposite_differs formula.True (sym e)

-- a table with true and false alone
pub lawful_start : Lawful (formula.True ∷ formula.False ∷ [])
lawful_start = record { true_first = refl; false_second = refl; opposites = opposites-by; once = once-by-cases }
  where
    opposites-by : (k : ℕ) → 2 * k < 2 → numbered (formula.True ∷ formula.False ∷ []) (2 * k + 1) ≡ opposite (numbered (formula.True ∷ formula.False ∷ []) (2 * k))
    opposites-by zero h = refl
    opposites-by (suc k) h = absurd (omega arith)

    once-by-cases : (i j : ℕ) → i < 2 → j < 2 → numbered (formula.True ∷ formula.False ∷ []) i ≡ numbered (formula.True ∷ formula.False ∷ []) j → i ≡ j
    once-by-cases zero zero p q e = refl
    once-by-cases zero (suc zero) p q e = absurd (true_false e)
    once-by-cases zero (suc (suc j)) p q e = absurd (omega arith)
    once-by-cases (suc zero) zero p q e = absurd (true_false (sym e))
    once-by-cases (suc zero) (suc zero) p q e = refl
    once-by-cases (suc zero) (suc (suc j)) p q e = absurd (omega arith)
    once-by-cases (suc (suc i)) j p q e = absurd (omega arith)

beside_even : (n : ℕ) → n % 2 ≡ 0 → beside n ≡ n + 1
beside_even n e = cond-true (eqb (n % 2) 0) (n + 1) (n - 1) (eq-eqb (n % 2) 0 e)

beside_odd : (n : ℕ) → (n % 2 ≡ 0 → ⊥) → beside n ≡ n - 1
beside_odd n e = cond-false (eqb (n % 2) 0) (n + 1) (n - 1) (ne_eqb (n % 2) 0 e)

module _ (fs : List Formula) (law : Lawful fs) (even : length fs % 2 ≡ 0) where
  -- a number and the one beside it name opposites
  pub named_beside : (n : ℕ) → n < length fs → (beside n < length fs) × (numbered fs (beside n) ≡ opposite (numbered fs n))
  named_beside n lt =
      ⊎_elim
      (λ e.
      let k : ℕ = n / 2 in
      let twice : 2 * k ≡ n = omega arith in
      let next : 2 * k + 1 ≡ beside n = omega (arith, beside_even n e) in
      (omega (arith, beside_even n e), ap (numbered fs) (sym next) ∙ law.opposites k (omega arith) ∙ ap (λ m. opposite (numbered fs m)) twice))
      (λ o.
      let k : ℕ = n / 2 in
      let before : 2 * k ≡ beside n = omega (arith, beside_odd n o) in
      let here : 2 * k + 1 ≡ n = omega arith in (
        omega (arith, beside_odd n o),
        ap (numbered fs) (sym before) ∙ sym (opposite_opposite _) ∙ ap opposite (sym (law.opposites k (omega arith)) ∙ ap (numbered fs) here),
      ))
      (cases_eq (n % 2) 0)

  -- a number of a formula is its place
  pub place_is : (f : Formula) (n : ℕ) → n < length fs → numbered fs n ≡ f → place fs f ≡ n
  place_is f n lt e =
      let before = place_first fs f n lt e in
      law.once (place fs f) n (omega arith) lt (numbered_place fs f (omega arith) ∙ sym e)

  -- a formula that is not in the table with its opposite behind it
  module _ (f : Formula) (begun : 2 ≤ length fs) (new : length fs ≤ place fs f) where
    more : List Formula
    more = fs ++ f ∷ opposite f ∷ []

    long : length more ≡ length fs + 2
    unfolding more
    long = length-append fs (f ∷ opposite f ∷ [])

    old : (i : ℕ) → i < length fs → numbered more i ≡ numbered fs i
    unfolding more
    old i lt = get_or_append_left fs _ formula.True i lt

    first : numbered more (length fs) ≡ f
    unfolding more
    first = get_or_at fs f (opposite f ∷ []) formula.True (length fs) refl

    second : numbered more (length fs + 1) ≡ opposite f
    unfolding more
    second =
        ap (λ l. numbered l (length fs + 1)) (sym (mathlib.Core.List.append_assoc fs (f ∷ []) (opposite f ∷ [])))
        ∙ get_or_at (fs ++ f ∷ []) (opposite f) [] formula.True (length fs + 1) (length-append fs (f ∷ []))

    absent : (i : ℕ) → i < length fs → numbered fs i ≡ f → ⊥
    absent i lt e = omega (arith, place_first fs f i lt e)

    absent_opposite : (i : ℕ) → i < length fs → numbered fs i ≡ opposite f → ⊥
    absent_opposite i lt e =
        let b = named_beside i lt in
        absent (beside i) b.0 (b.1 ∙ ap opposite e ∙ opposite_opposite f)

    -- what stands at an index: something old, the formula, or its opposite
    data At (i : ℕ) : Type 0 where
      is_old : i < length fs → At i
      is_first : i ≡ length fs → At i
      is_second : i ≡ length fs + 1 → At i

    at : (i : ℕ) → i < length more → At i
    at i lt =
        ⊎_elim is_old (λ g. ⊎_elim is_first (λ n. is_second (omega (arith, long))) (cases_eq i (length fs))) (cases_lt i (length fs))

    once_by : (i j : ℕ) → At i → At j → numbered more i ≡ numbered more j → i ≡ j
    once_by i j (is_old p) (is_old q) e = law.once i j p q (sym (old i p) ∙ e ∙ old j q)
    once_by i j (is_old p) (is_first q) e = absurd (absent i p (sym (old i p) ∙ e ∙ ap (numbered more) q ∙ first))
    once_by i j (is_old p) (is_second q) e = absurd (absent_opposite i p (sym (old i p) ∙ e ∙ ap (numbered more) q ∙ second))
    once_by i j (is_first p) (is_old q) e = absurd (absent j q (sym (old j q) ∙ sym e ∙ ap (numbered more) p ∙ first))
    once_by i j (is_first p) (is_first q) e = p ∙ sym q
    once_by i j (is_first p) (is_second q) e = absurd (opposite_differs f (sym second ∙ ap (numbered more) (sym q) ∙ sym e ∙ ap (numbered more) p ∙ first))
    once_by i j (is_second p) (is_old q) e = absurd (absent_opposite j q (sym (old j q) ∙ sym e ∙ ap (numbered more) p ∙ second))
    once_by i j (is_second p) (is_first q) e = absurd (opposite_differs f (sym second ∙ ap (numbered more) (sym p) ∙ e ∙ ap (numbered more) q ∙ first))
    once_by i j (is_second p) (is_second q) e = p ∙ sym q

    pub lawful_more : Lawful (fs ++ f ∷ opposite f ∷ [])
    unfolding more
    lawful_more = record {
      true_first = old 0 (omega arith) ∙ law.true_first;
      false_second = old 1 (omega arith) ∙ law.false_second;
      opposites = λ k lt.
          ⊎_elim
          (λ l. old (2 * k + 1) (omega arith) ∙ law.opposites k l ∙ ap opposite (sym (old (2 * k) l)))
          (λ g.
          let here : 2 * k ≡ length fs = omega (arith, long) in
          ap (λ n. numbered more (n + 1)) here ∙ second ∙ ap opposite (sym (ap (numbered more) here ∙ first)))
          (cases_lt (2 * k) (length fs));
      once = λ i j p q e. once_by i j (at i p) (at j q) e;
    }
