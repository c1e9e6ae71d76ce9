-- Numbers that are noted once. Assumes nothing.
use Rattle.std.proofs.Common.{◌≡◌, ℕ, true, false, eqb, List, [], ◌∷◌, ◌++◌, sym, refl}
use Rattle.std.proofs.lemmas.Bool.{or_parts, or_from, and_parts, and_from, not-true, not_from_false, ne_eqb, eqb-false}
use Rattle.cases.specs.Roots.{contains, none_twice}

eqb_turned : (m n : ℕ) → eqb m n ≡ false → eqb n m ≡ false
eqb_turned m n e = ne_eqb n m (λ h. eqb-false m n e (sym h))

contains_push : (ms : List ℕ) (n k : ℕ) → contains ms k ≡ false → eqb n k ≡ false → contains (ms ++ n ∷ []) k ≡ false
contains_push [] n k h e = or_from _ _ e refl
contains_push (m ∷ ms) n k h e = let p = or_parts _ _ h in or_from _ _ p.0 (contains_push ms n k p.1 e)

-- one number more that was not there
pub none_twice_push : (ms : List ℕ) (n : ℕ) → none_twice ms ≡ true → contains ms n ≡ false → none_twice (ms ++ n ∷ []) ≡ true
none_twice_push [] n o h = refl
none_twice_push (m ∷ ms) n o h =
    let p = and_parts _ _ o in
    let q = or_parts _ _ h in
    and_from _ _ (not_from_false _ (contains_push ms n m (not-true _ p.0) (eqb_turned m n q.0))) (none_twice_push ms n p.1 q.1)
