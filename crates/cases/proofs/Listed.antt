-- Tests and searches over lists. Assumes nothing.
use Rattle.std.proofs.Common.{◌≡◌, ℕ, ◌+◌, Bool, true, false, cond, not, ◌&&◌, ◌||◌, ltb, leb, List, [], ◌∷◌, map, Some, None, Option, refl, sym, ap, ◌∙◌, ⊎_elim, arith}
use Rattle.std.proofs.lemmas.Bool.{cases_Bool, cond-true, cond-false, ltb-true, ltb-false}
use Rattle.std.specs.List.{list_any, position_from, reduce, fold}
use Rattle.std.specs.Prelude.{min, filter}
use Rattle.cases.specs.Roots.{smaller, least_failing}
use Rattle.cases.specs.Steps.{first_missing}

pub list_any-map : {X Y : Type 0} (p : Y → Bool) (f : X → Y) (xs : List X) → list_any (λ x. p (f x)) xs ≡ list_any p (map f xs)
list_any-map p f [] = refl
list_any-map p f (x ∷ xs) = ap (λ b. p (f x) || b) (list_any-map p f xs)

cond_not : {X : Type 0} (b : Bool) (x y : X) → cond (not b) x y ≡ cond b y x
cond_not true x y = refl
cond_not false x y = refl

-- the first number that is not from 1 to n, as a place
pub missing_at : (n i : ℕ) (ps : List ℕ) → position_from (λ p. not (leb 1 p && leb p n)) i ps ≡ first_missing n i ps
missing_at n i [] = refl
missing_at n i (p ∷ ps) =
    cond_not (leb 1 p && leb p n) (Some i) (position_from (λ x. not (leb 1 x && leb x n)) (i + 1) ps)
    ∙ ap (λ o. cond (leb 1 p && leb p n) o (Some i)) (missing_at n (i + 1) ps)

-- the smaller of two numbers
smaller_min : (m n : ℕ) → smaller (Some m) n ≡ Some (min m n)
smaller_min m n =
    ⊎_elim
    (λ b. cond-true (ltb n m) (Some n) (Some m) b ∙ ap Some (let lt = ltb-true n m b in omega (arith, lt)))
    (λ b. cond-false (ltb n m) (Some n) (Some m) b ∙ ap Some (let le = ltb-false n m b in omega (arith, le)))
    (cases_Bool (ltb n m))

module _ (test : ℕ → Bool) where
  -- the numbers that fail
  abbrev failing : List ℕ → List ℕ
  failing ns = filter (λ n. not (test n)) ns

  least_by : (b : Bool) (m n : ℕ) (ns : List ℕ) → ((k : ℕ) → ◌≡◌ {A = Option ℕ} (Some (fold min k (failing ns))) (least_failing test (Some k) ns))
      → ◌≡◌ {A = Option ℕ} (Some (fold min m (cond (not b) (n ∷ failing ns) (failing ns)))) (least_failing test (cond b (Some m) (smaller (Some m) n)) ns)
  least_by true m n ns rest = rest m
  least_by false m n ns rest = rest (min m n) ∙ ap (λ o. least_failing test o ns) (sym (smaller_min m n))

  least_from : (m : ℕ) (ns : List ℕ) → ◌≡◌ {A = Option ℕ} (Some (fold min m (failing ns))) (least_failing test (Some m) ns)
  least_from m [] = refl
  least_from m (n ∷ ns) = least_by (test n) m n ns (λ k. least_from k ns)

  first_by : (b : Bool) (n : ℕ) (ns : List ℕ) → reduce min (failing ns) ≡ least_failing test None ns
      → reduce min (cond (not b) (n ∷ failing ns) (failing ns)) ≡ least_failing test (cond b None (Some n)) ns
  first_by true n ns rest = rest
  first_by false n ns rest = least_from n ns

  -- the smallest number that fails a test is the smallest of those that do
  pub least_is : (ns : List ℕ) → reduce min (failing ns) ≡ least_failing test None ns
  least_is [] = refl
  least_is (n ∷ ns) = first_by (test n) n ns (least_is ns)

filter-map : {X Y : Type 0} (p : Y → Bool) (f : X → Y) (b : Bool) (x : X) (l : List X) (m : List Y) → map f l ≡ m → map f (cond b (x ∷ l) l) ≡ cond b (f x ∷ m) m
filter-map p f true x l m e = ap (λ r. f x ∷ r) e
filter-map p f false x l m e = e

pub map-filter : {X Y : Type 0} (p : Y → Bool) (f : X → Y) (xs : List X) → map f (filter (λ x. p (f x)) xs) ≡ filter p (map f xs)
map-filter p f [] = refl
map-filter p f (x ∷ xs) = filter-map p f (p (f x)) x _ _ (map-filter p f xs)
