-- Numbers that are added to a set one by one. Assumes nothing.
use Rattle.std.proofs.Common.{◌≡◌, ℕ, Bool, true, false, ◌&&◌, ◌||◌, eqb, sym, refl, ap, ◌∙◌, ⊎_elim}
use Rattle.std.proofs.lemmas.Bool.{cases_eq, eq-eqb, ne_eqb}

pub eqb_turned : (m n : ℕ) → eqb m n ≡ eqb n m
eqb_turned m n = ⊎_elim (λ e. eq-eqb m n e ∙ sym (eq-eqb n m (sym e))) (λ d. ne_eqb m n d ∙ sym (ne_eqb n m (λ e. d (sym e)))) (cases_eq m n)

pub or_grouped : (a b c : Bool) → ((a || b) || c) ≡ (a || (b || c))
or_grouped true b c = refl
or_grouped false b c = refl

and_or : (l e c : Bool) → ((l && e) || (l && c)) ≡ (l && (e || c))
and_or true e c = refl
and_or false e c = refl

-- a number more in the set, of the numbers below 512, and one less to come
pub one_more : (m l e c : Bool) → ((m || (l && e)) || (l && c)) ≡ (m || (l && (e || c)))
one_more m l e c = or_grouped m (l && e) (l && c) ∙ ap (λ x. m || x) (and_or l e c)
