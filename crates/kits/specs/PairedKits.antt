-- Which of two kits a pair's answers come from. Assumes nothing.
use Rattle.std.specs.Prelude.{◌≡◌, ℕ, ◌+◌, ◌≤◌, Bool, true, false, ◌⊎◌, Some, None, Option, nat_le, refl}
use Rattle.std.proofs.Common.{sym, ap, subst, ◌∙◌, inl, inr, ⊎_elim}
use Rattle.std.proofs.lemmas.Bool.{cases_Bool, cond-true, cond-false, and_parts, leb-true, false≢true}
use Rattle.kits.specs.Pairs.{pair_allows, pair_named, raised, lowered}
use Rattle.kits.specs.Steps.{StepModel}

pub allowed_by_one : (first second : StepModel → Bool) (st : StepModel) → pair_allows first second st ≡ true → (first st ≡ true) ⊎ (second (lowered st) ≡ true)
allowed_by_one first second st e =
    ⊎_elim
    (λ b. inl (sym (cond-true _ (first st) _ b) ∙ e))
    (λ b. inr (and_parts _ _ (sym (cond-false _ (first st) _ b) ∙ e)).1)
    (cases_Bool (nat_le st.rule 99))

-- the number in an option
abbrev the : Option ℕ → ℕ
the None = 0
the (Some n) = n

abbrev found : Option ℕ → Bool
found None = false
found (Some n) = true

nothing_found : {n : ℕ} → ◌≡◌ {A = Option ℕ} None (Some n) → ⊥
nothing_found e = false≢true (ap found e)

-- a number of the second kit
abbrev pub Moved : Option ℕ → ℕ → Type 0
Moved o n = (m : ℕ) × (o ≡ Some m) × (m + 100 ≡ n)

from_raised : (o : Option ℕ) (n : ℕ) → raised o ≡ Some n → Moved o n
from_raised None n e = absurd (nothing_found e)
from_raised (Some m) n e =
    ⊎_elim
    (λ b. (m, refl, ap the (sym (cond-true _ (Some (m + 100)) None b) ∙ e)))
    (λ b. absurd (nothing_found (sym (cond-false _ (Some (m + 100)) None b) ∙ e)))
    (cases_Bool (nat_le (m + 100) 999))

pub named_by_one : (first second : Option ℕ) (n : ℕ) → pair_named first second ≡ Some n → ((first ≡ Some n) × (n ≤ 99)) ⊎ Moved second n
named_by_one None second n e = inr (from_raised second n e)
named_by_one (Some m) second n e =
    ⊎_elim
    (λ b. let same : m ≡ n = ap the (sym (cond-true _ (Some m) (raised second) b) ∙ e) in
    inl (ap Some same, subst (λ k. k ≤ 99) same (leb-true m 99 b)))
    (λ b. inr (from_raised second n (sym (cond-false _ (Some m) (raised second) b) ∙ e)))
    (cases_Bool (nat_le m 99))
