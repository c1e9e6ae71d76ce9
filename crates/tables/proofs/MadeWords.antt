-- An array that a closure makes, element by element. Assumes nothing.
use Rattle.std.proofs.Common.{◌≡◌, ℕ, zero, suc, ◌+◌, ◌<◌, ◌≤◌, List, get_or, sym, subst, ⊎_elim, arith}
use Rattle.std.proofs.lemmas.Bool.{cases_lt}
use Rattle.std.specs.Fn.{Called}
use Rattle.std.specs.Array.{IsFromFnResultFrom, IsFromFnResult}
use denote.Param.Members.{Mut}

module _ {F : Type 0} (g : Mut F (ℕ × Unit {0}) ℕ) (f : F) (ys : List ℕ) (R : ℕ → ℕ → Type 0) (says : (i y : ℕ) (q : F) → Called g f (i, tt) y q → (q ≡ f) × R i y) where
  made_from : (n i : ℕ) → IsFromFnResultFrom g f ys i n → (k : ℕ) → i ≤ k → k < i + n → R k (get_or ys k 0)
  made_from zero i h k le lt = absurd (omega arith)
  made_from (suc n) i h k le lt =
      let s = says i h.1 h.0 h.3 in
      ⊎_elim
      (λ l. made_from n (i + 1) (subst (λ p. IsFromFnResultFrom g p ys (i + 1) n) s.0 h.4) k (omega arith) (omega arith))
      (λ o. let e : i ≡ k = omega arith in subst (λ j. R j (get_or ys j 0)) e (subst (R i) (sym (h.2.1 0)) s.1))
      (cases_lt i k)

-- what a closure that stays as it is says of each call holds at each index
pub made_words : {F : Type 0} {g : Mut F (ℕ × Unit {0}) ℕ} {f : F} {ys : List ℕ} {n : ℕ} → IsFromFnResult g f ys n → (R : ℕ → ℕ → Type 0) → ((i y : ℕ) (q : F) → Called g f (i, tt) y q → (q ≡ f) × R i y) → (k : ℕ) → k < n → R k (get_or ys k 0)
made_words {g = g} {f = f} {ys = ys} {n = n} h R says k lt = made_from g f ys R says n 0 h.each k (omega arith) (omega arith)
