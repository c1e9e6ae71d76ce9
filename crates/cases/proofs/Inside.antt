-- Root numbers that are in the table. Assumes nothing.
use Rattle.std.proofs.Common.{◌≡◌, ℕ, ◌<◌, ◌≤◌, true, List, [], ◌∷◌, ◌++◌, sym, refl, subst, ⊎_elim, arith}
use Rattle.std.proofs.lemmas.Bool.{cases_Bool, cond-true, cond-false, and_parts, and_from, or_cases, ltb-true, lt-ltb, eqb-true}
use Rattle.cases.specs.Roots.{contains, noted, all_below}

pub all_below_more : (ms : List ℕ) (m n : ℕ) → m ≤ n → all_below m ms ≡ true → all_below n ms ≡ true
all_below_more [] m n le h = refl
all_below_more (k ∷ ms) m n le h = let p = and_parts _ _ h in and_from _ _ (lt-ltb k n (omega (arith, ltb-true k m p.0))) (all_below_more ms m n le p.1)

all_below_push : (ms : List ℕ) (m n : ℕ) → all_below m ms ≡ true → n < m → all_below m (ms ++ n ∷ []) ≡ true
all_below_push [] m n h lt = and_from _ _ (lt-ltb n m lt) refl
all_below_push (k ∷ ms) m n h lt = let p = and_parts _ _ h in and_from _ _ p.0 (all_below_push ms m n p.1 lt)

pub all_below_noted : (ms : List ℕ) (m n : ℕ) → all_below m ms ≡ true → n < m → all_below m (noted ms n) ≡ true
all_below_noted ms m n h lt =
    ⊎_elim
    (λ e. subst (λ l. all_below m l ≡ true) (sym (cond-true (contains ms n) ms (ms ++ n ∷ []) e)) h)
    (λ e. subst (λ l. all_below m l ≡ true) (sym (cond-false (contains ms n) ms (ms ++ n ∷ []) e)) (all_below_push ms m n h lt))
    (cases_Bool (contains ms n))

pub below_contained : (ms : List ℕ) (m n : ℕ) → all_below m ms ≡ true → contains ms n ≡ true → n < m
below_contained [] m n h c = absurd (Rattle.std.proofs.lemmas.Bool.false≢true c)
below_contained (k ∷ ms) m n h c =
    let p = and_parts _ _ h in
    ⊎_elim (λ e. subst (λ j. j < m) (eqb-true k n e) (ltb-true k m p.0)) (λ r. below_contained ms m n p.1 r) (or_cases _ _ c)
