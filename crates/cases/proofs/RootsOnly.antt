-- A conclusion within the set of root numbers has only root formulas. Assumes nothing.
use Rattle.std.proofs.Common.{◌≡◌, ℕ, ◌<◌, ◌≤◌, Bool, true, false, ◌&&◌, ltb, length, Decides, sym, refl, ◌∙◌, ⊎_elim, arith}
use Rattle.std.proofs.lemmas.Bool.{cases_Bool, and_parts, and_from, lt-ltb, true≢false}
use Rattle.cases.specs.Models.{CaseModel}
use Rattle.cases.specs.Roots.{contains}
use Rattle.cases.specs.Verdicts.{only_roots}
use Rattle.cases.proofs.Meant.{all_in_tells, all_in_from}

pub within_is_only_roots : (c : CaseModel) (S T : ℕ → Bool) (r : Bool) → length c.formulas ≤ 512 → ((k : ℕ) → T k ≡ (ltb k 512 && contains c.roots k)) → ((k : ℕ) → S k ≡ true → k < length c.formulas) → Decides r ((k : ℕ) → S k ≡ true → T k ≡ true) → only_roots c S ≡ r
within_is_only_roots c S T true few is inside d =
    all_in_from (length c.formulas) S (contains c.roots) (λ k s. (and_parts _ _ (sym (is k) ∙ d.0 refl k s)).1)
within_is_only_roots c S T false few is inside d =
    ⊎_elim
    (λ b. absurd (true≢false (sym (d.1 (λ k s. is k ∙ and_from _ _ (lt-ltb k 512 (omega (arith, inside k s))) (all_in_tells (length c.formulas) S (contains c.roots) b k (inside k s) s))))))
    (λ b. b)
    (cases_Bool (only_roots c S))
