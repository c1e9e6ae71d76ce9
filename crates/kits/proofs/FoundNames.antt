-- Names that are found in a list of names. Assumes nothing.
use Rattle.std.proofs.Common.{◌≡◌, ℕ, Bool, true, false, not, ◌&&◌, eqb, List, [], ◌∷◌, Some, None, sym, refl, ◌∙◌, subst, ap₂, ⊎_elim, arith}
use Rattle.std.proofs.lemmas.Bool.{false≢true, eqb-true, eqb-false, and_parts, cases_Bool, cond-true, cond-false, not-true}
use Rattle.kits.specs.Names.{Name, same_word, lookup}

pub words_equal : (v w : List ℕ) → same_word v w ≡ true → v ≡ w
words_equal [] [] e = refl
words_equal [] (b ∷ w) e = absurd (false≢true e)
words_equal (a ∷ v) [] e = absurd (false≢true e)
words_equal (a ∷ v) (b ∷ w) e = let p = and_parts _ _ e in ap₂ ◌∷◌ (eqb-true a b p.0) (words_equal v w p.1)

-- a test that all numbers of names pass
abbrev pub all_numbers : (ℕ → Bool) → List Name → Bool
all_numbers q [] = true
all_numbers q (n ∷ ns) = q n.number && all_numbers q ns

-- no two names have one number
abbrev pub numbers_differ : List Name → Bool
numbers_differ [] = true
numbers_differ (n ∷ ns) = all_numbers (λ k. not (eqb k n.number)) ns && numbers_differ ns

none_some : (n : ℕ) → None ≡ Some n → ⊥
none_some n e = let z : ◌≡◌ {A = ℕ} 0 1 = cc in omega arith

-- the number that a name is found to have passes a test that all pass
pub found_passes : (q : ℕ → Bool) (ns : List Name) (w : List ℕ) (k : ℕ) → all_numbers q ns ≡ true → lookup ns w ≡ Some k → q k ≡ true
found_passes q [] w k all e = absurd (none_some k e)
found_passes q (n ∷ ns) w k all e =
    let p = and_parts _ _ all in
    ⊎_elim
    (λ s. let same : n.number ≡ k = cc (cond-true (same_word n.word w) (Some n.number) (lookup ns w) s) in subst (λ m. q m ≡ true) same p.0)
    (λ s. found_passes q ns w k p.1 (sym (cond-false (same_word n.word w) (Some n.number) (lookup ns w) s) ∙ e))
    (cases_Bool (same_word n.word w))

-- a number has one name
pub found_once : (ns : List Name) (v w : List ℕ) (k : ℕ) → numbers_differ ns ≡ true → lookup ns v ≡ Some k → lookup ns w ≡ Some k → v ≡ w
found_once [] v w k d e l = absurd (none_some k e)
found_once (n ∷ ns) v w k d e l =
    let first : (u : List ℕ) → same_word n.word u ≡ true → lookup (n ∷ ns) u ≡ Some k → n.number ≡ k = λ u s h. cc (cond-true (same_word n.word u) (Some n.number) (lookup ns u) s) in
    let later : (u : List ℕ) → same_word n.word u ≡ false → lookup (n ∷ ns) u ≡ Some k → lookup ns u ≡ Some k = λ u s h. sym (cond-false (same_word n.word u) (Some n.number) (lookup ns u) s) ∙ h in
    let p = and_parts (all_numbers (λ k. not (eqb k n.number)) ns) (numbers_differ ns) d in
    let apart : (u : List ℕ) → lookup ns u ≡ Some k → n.number ≡ k → ⊥ = λ u h same. eqb-false k n.number (not-true _ (found_passes (λ k. not (eqb k n.number)) ns u k p.0 h)) (sym same) in
    ⊎_elim
    (λ s.
    ⊎_elim
    (λ t. sym (words_equal _ _ s) ∙ words_equal _ _ t)
    (λ t. absurd (apart w (later w t l) (first v s e)))
    (cases_Bool (same_word n.word w)))
    (λ s.
    ⊎_elim
    (λ t. absurd (apart v (later v s e) (first w t l)))
    (λ t. found_once ns v w k p.1 (later v s e) (later w t l))
    (cases_Bool (same_word n.word w)))
    (cases_Bool (same_word n.word v))
