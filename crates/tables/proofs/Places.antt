-- Where a formula stands in a list of formulas. Assumes nothing.
use Rattle.std.proofs.Common.{◌≡◌, ℕ, zero, suc, ◌+◌, ◌<◌, ◌≤◌, Bool, true, false, List, [], ◌∷◌, length, sym, refl, ap, ◌∙◌, ⊎_elim, arith}
use mathlib.Core.HLevel.{hedberg}
use native.Mathlib.Decide.{ℕ_discrete}
use Rattle.std.proofs.lemmas.Bool.{cases_Bool, cond-true, cond-false}
use Rattle.pltl.specs.Formulas.{Formula, same-formula}
use Rattle.tables.specs.Entering.{decided, same, place}
use Rattle.tables.specs.Listing.{numbered}

pub formula_set : IsSet Formula
formula_set = hedberg (same-formula ℕ_discrete)

pub from_decided : {A : Type 0} (d : Dec A) → decided d ≡ true → A
from_decided (yes p) e = p
from_decided (no p) e = let z : ◌≡◌ {A = Bool} true false = sym e in absurd (Rattle.std.proofs.lemmas.Bool.true≢false z)

pub to_decided : {A : Type 0} (d : Dec A) → A → decided d ≡ true
to_decided (yes p) a = refl
to_decided (no p) a = absurd (p a)

pub equal_from_same : (f g : Formula) → same f g ≡ true → f ≡ g
unfolding same
equal_from_same f g = from_decided (same-formula ℕ_discrete f g)

pub same_from_equal : (f g : Formula) → f ≡ g → same f g ≡ true
unfolding same
same_from_equal f g = to_decided (same-formula ℕ_discrete f g)

-- the formula at its place
pub numbered_place : (fs : List Formula) (f : Formula) → place fs f < length fs → numbered fs (place fs f) ≡ f
unfolding place
numbered_place [] f lt = absurd (omega arith)
numbered_place (g ∷ gs) f lt =
    ⊎_elim
    (λ e. ap (numbered (g ∷ gs)) (cond-true (same g f) 0 (place gs f + 1) e) ∙ equal_from_same g f e)
    (λ e.
    let is : place (g ∷ gs) f ≡ place gs f + 1 = cond-false (same g f) 0 (place gs f + 1) e in
    let next : place (g ∷ gs) f ≡ suc (place gs f) = omega arith in
    ap (numbered (g ∷ gs)) next ∙ numbered_place gs f (omega arith))
    (cases_Bool (same g f))

-- no index at which the formula stands is before its place
pub place_first : (fs : List Formula) (f : Formula) (i : ℕ) → i < length fs → numbered fs i ≡ f → place fs f ≤ i
unfolding place
place_first [] f i lt e = absurd (omega arith)
place_first (g ∷ gs) f zero lt e = omega (arith, cond-true (same g f) 0 (place gs f + 1) (same_from_equal g f e))
place_first (g ∷ gs) f (suc i) lt e =
    let rest = place_first gs f i (omega arith) e in
    ⊎_elim
    (λ s. omega (arith, cond-true (same g f) 0 (place gs f + 1) s))
    (λ s. omega (arith, cond-false (same g f) 0 (place gs f + 1) s))
    (cases_Bool (same g f))
