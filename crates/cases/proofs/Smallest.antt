-- The smallest number that fails a test. Assumes nothing.
use Rattle.std.proofs.Common.{◌≡◌, ℕ, ◌<◌, Bool, true, false, cond, ◌||◌, eqb, ltb, List, [], ◌∷◌, Some, None, Option, sym, refl, ap, ◌∙◌, subst, ⊎_elim, arith}
use Rattle.std.proofs.lemmas.Bool.{cases_Bool, cond-true, cond-false, or_cases, or_left, or_right, eqb-true, eq-eqb, ltb-true, ltb-false, and_parts, false≢true}
use Rattle.cases.specs.Roots.{contains, all_below, smaller, least_failing}

-- two tests that agree below m fail at the same smallest number
pub least_agrees : (p q : ℕ → Bool) (m : ℕ) → ((n : ℕ) → n < m → p n ≡ q n) → (least : Option ℕ) (ns : List ℕ) → all_below m ns ≡ true → least_failing p least ns ≡ least_failing q least ns
least_agrees p q m same least [] h = refl
least_agrees p q m same least (n ∷ ns) h =
    let b = and_parts _ _ h in
    ap (λ t. least_failing p (cond t least (smaller least n)) ns) (same n (ltb-true n m b.0)) ∙ least_agrees p q m same (cond (q n) least (smaller least n)) ns b.1

module _ (p : ℕ → Bool) where
  -- what the smallest so far says of the numbers that were seen
  abbrev pub Least : (ℕ → Bool) → Option ℕ → Type 0
  Least seen None = (n : ℕ) → seen n ≡ true → p n ≡ true
  Least seen (Some m) = (seen m ≡ true) × (p m ≡ false) × ((n : ℕ) → seen n ≡ true → n < m → p n ≡ true)

  abbrev and_seen : (ℕ → Bool) → ℕ → ℕ → Bool
  and_seen seen k n = eqb k n || seen n

  passed : (seen : ℕ → Bool) (o : Option ℕ) (k : ℕ) → p k ≡ true → Least seen o → Least (and_seen seen k) o
  passed seen None k e h = λ n s. ⊎_elim (λ i. subst (λ j. p j ≡ true) (eqb-true k n i) e) (h n) (or_cases _ _ s)
  passed seen (Some m) k e h = (or_right _ _ h.0, h.1, λ n s lt. ⊎_elim (λ i. subst (λ j. p j ≡ true) (eqb-true k n i) e) (λ r. h.2 n r lt) (or_cases _ _ s))

  failed_by : (seen : ℕ → Bool) (m k : ℕ) (b : Bool) → ltb k m ≡ b → p k ≡ false → Least seen (Some m) → Least (and_seen seen k) (cond b (Some k) (Some m))
  failed_by seen m k true l e h =
      (or_left _ _ (eq-eqb k k refl), e, λ n s lt. ⊎_elim (λ (i : eqb k n ≡ true). absurd (omega (arith, eqb-true k n i))) (λ r. h.2 n r (omega (arith, ltb-true k m l))) (or_cases _ _ s))
  failed_by seen m k false l e h =
      (or_right _ _ h.0, h.1, λ n s lt. ⊎_elim (λ (i : eqb k n ≡ true). absurd (omega (arith, eqb-true k n i, ltb-false k m l))) (λ r. h.2 n r lt) (or_cases _ _ s))

  failed : (seen : ℕ → Bool) (o : Option ℕ) (k : ℕ) → p k ≡ false → Least seen o → Least (and_seen seen k) (smaller o k)
  failed seen None k e h = (or_left _ _ (eq-eqb k k refl), e, λ n s lt. ⊎_elim (λ (i : eqb k n ≡ true). absurd (omega (arith, eqb-true k n i))) (h n) (or_cases _ _ s))
  failed seen (Some m) k e h = failed_by seen m k (ltb k m) refl e h

  step : (seen : ℕ → Bool) (o : Option ℕ) (k : ℕ) → Least seen o → Least (and_seen seen k) (cond (p k) o (smaller o k))
  step seen o k h =
      ⊎_elim
      (λ e. subst (λ x. Least (and_seen seen k) x) (sym (cond-true (p k) o (smaller o k) e)) (passed seen o k e h))
      (λ e. subst (λ x. Least (and_seen seen k) x) (sym (cond-false (p k) o (smaller o k) e)) (failed seen o k e h))
      (cases_Bool (p k))

  weaker : (s t : ℕ → Bool) (o : Option ℕ) → ((n : ℕ) → s n ≡ t n) → Least s o → Least t o
  weaker s t None same h = λ n e. h n (same n ∙ e)
  weaker s t (Some m) same h = (sym (same m) ∙ h.0, h.1, λ n e lt. h.2 n (same n ∙ e) lt)

  all_seen : (seen : ℕ → Bool) (o : Option ℕ) (ns : List ℕ) → Least seen o → Least (λ n. contains ns n || seen n) (least_failing p o ns)
  all_seen seen o [] h = h
  all_seen seen o (k ∷ ns) h =
      weaker _ _ (least_failing p (cond (p k) o (smaller o k)) ns) (λ n. turned (contains ns n) (eqb k n) (seen n)) (all_seen (and_seen seen k) (cond (p k) o (smaller o k)) ns (step seen o k h))
    where
      turned : (a b c : Bool) → (a || (b || c)) ≡ ((b || a) || c)
      turned true true c = refl
      turned true false c = refl
      turned false true c = refl
      turned false false c = refl

  or_false : (b : Bool) → (b || false) ≡ b
  or_false true = refl
  or_false false = refl

  -- all numbers pass, or the smallest that fails is given
  pub least_found : (ns : List ℕ) → Least (contains ns) (least_failing p None ns)
  least_found ns = weaker _ _ (least_failing p None ns) (λ n. or_false (contains ns n)) (all_seen (λ _. false) None ns (λ n e. absurd (false≢true e)))
