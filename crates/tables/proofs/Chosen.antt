-- The formulas that a set of numbers chooses: exactly those of its numbers, and no others as formulas are added. Assumes nothing.
use Rattle.std.proofs.Common.{◌≡◌, ℕ, zero, suc, ◌+◌, ◌<◌, ◌≤◌, Bool, true, false, cond, List, [], ◌∷◌, ◌++◌, length, get_or, refl, ap, ◌∙◌, subst, add-one, arith}
use Rattle.std.proofs.lemmas.Bool.{cond-false}
use Rattle.pltl.specs.Formulas.{Formula, True}
use Rattle.tables.specs.Listing.{numbered}
use Rattle.tables.specs.Sets.{chosen}

-- an index of a list has the formula of a number of the set
abbrev From : (ℕ → Bool) → List Formula → List Formula → ℕ → Type 0
From S fs cs i = (n : ℕ) × (n < length fs) × (S n ≡ true) × (get_or cs i True ≡ numbered fs n)

-- one formula more, in front
module _ (S : ℕ → Bool) (f : Formula) (fs rest : List Formula) where
  from_after : (i : ℕ) → From (λ n. S (n + 1)) fs rest i → (n : ℕ) × (n < suc (length fs)) × (S n ≡ true) × (get_or rest i True ≡ numbered (f ∷ fs) n)
  from_after i r = (suc r.0, omega (arith, r.1), subst (λ m. S m ≡ true) (add-one r.0) r.2, r.3)

  from_front : (b : Bool) → S 0 ≡ b → ((i : ℕ) → i < length rest → From (λ n. S (n + 1)) fs rest i) → (i : ℕ) → i < length (cond b (f ∷ rest) rest) → From S (f ∷ fs) (cond b (f ∷ rest) rest) i
  from_front true e h zero lt = (0, omega arith, e, refl)
  from_front true e h (suc i) lt = from_after i (h i (omega arith))
  from_front false e h i lt = from_after i (h i lt)

-- every formula that is chosen is that of a number of the set
pub chosen_from : (S : ℕ → Bool) (fs : List Formula) (i : ℕ) → i < length (chosen S fs) → (n : ℕ) × (n < length fs) × (S n ≡ true) × (get_or (chosen S fs) i True ≡ numbered fs n)
unfolding chosen
chosen_from S [] i lt = absurd (omega arith)
chosen_from S (f ∷ fs) i lt = from_front S f fs (chosen (λ n. S (n + 1)) fs) (S 0) refl (chosen_from (λ n. S (n + 1)) fs) i lt

pub chosen_none : (S : ℕ → Bool) (fs : List Formula) → ((n : ℕ) → S n ≡ false) → chosen S fs ≡ []
unfolding chosen
chosen_none S [] none = refl
chosen_none S (f ∷ fs) none = cond-false (S 0) _ _ (none 0) ∙ chosen_none (λ n. S (n + 1)) fs (λ n. none (n + 1))

-- formulas that are added with numbers outside the set are not chosen
pub chosen_more : (S : ℕ → Bool) (fs gs : List Formula) → ((n : ℕ) → length fs ≤ n → S n ≡ false) → chosen S (fs ++ gs) ≡ chosen S fs
unfolding chosen
chosen_more S [] gs past = chosen_none S gs (λ n. past n (omega arith))
chosen_more S (f ∷ fs) gs past = ap (λ cs. cond (S 0) (f ∷ cs) cs) (chosen_more (λ n. S (n + 1)) fs gs (λ n le. past (n + 1) (omega arith)))
