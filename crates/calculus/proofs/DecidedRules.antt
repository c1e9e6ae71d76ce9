-- Whether a step is a step of a rule, by number, is decided. Assumes nothing.
use Rattle.std.proofs.Common.{◌≡◌, ℕ, ◌⊎◌, List, [], ◌∷◌, sym, refl, subst, inl, inr, ⊎_elim}
use mathlib.Core.Logic.Dec
use native.Mathlib.Decide.{ℕ_discrete}
use Rattle.pltl.specs.Formulas.{Formula, opposite}
use Rattle.pltl.specs.Formulas as f
use Rattle.calculus.specs.Sequents.{◌∈◌}
use Rattle.calculus.specs.Rules.{Set, Without, With, With2, Fits, Alternative, whole, on_left, on_right, IsAlways, Covers, SomeAgain, UntilAgain, Rule}
use Rattle.calculus.specs.Rules as rule
use Rattle.calculus.proofs.Decided.{iff_decided, or_decided, implies_decided, equal_decided, member_decided, all_decided, made_decided, parts}

-- n is a disjunction
abbrev pub IsOr : Formula → Type 0
IsOr f.True = ⊥
IsOr f.False = ⊥
IsOr (f.Is p) = ⊥
IsOr (f.Isn't p) = ⊥
IsOr (f.Next a) = ⊥
IsOr (f.Always a) = ⊥
IsOr (f.Eventually a) = ⊥
IsOr (f.Until a b) = ⊥
IsOr (f.Release a b) = ⊥
IsOr (f.And a b) = ⊥
IsOr (f.Or a b) = Unit {0}

pub alternative_of_or : {a n m : Formula} → Alternative a (f.Or n m) → (a ≡ f.Or n m) ⊎ (Alternative a n ⊎ Alternative a m)
alternative_of_or whole = inl refl
alternative_of_or (on_left s) = inr (inl s)
alternative_of_or (on_right s) = inr (inr s)

module _ (a : Formula) where
  pub same_alternative : {n : Formula} → a ≡ n → Alternative a n
  same_alternative e = subst (Alternative a) e whole

  pub only_whole : {n : Formula} → (IsOr n → ⊥) → Alternative a n → a ≡ n
  only_whole plain whole = refl
  only_whole plain (on_left s) = absurd (plain tt)
  only_whole plain (on_right s) = absurd (plain tt)

  unfoldable pub plain_alternative_decided : (n : Formula) → (IsOr n → ⊥) → Dec (Alternative a n)
  unfolding iff_decided equal_decided
  plain_alternative_decided n plain = iff_decided same_alternative (only_whole plain) (equal_decided a n)

  unfoldable pub alternative_decided : (n : Formula) → Dec (Alternative a n)
  unfolding iff_decided or_decided equal_decided plain_alternative_decided
  alternative_decided f.True = plain_alternative_decided f.True (λ i. i)
  alternative_decided f.False = plain_alternative_decided f.False (λ i. i)
  alternative_decided (f.Is p) = plain_alternative_decided (f.Is p) (λ i. i)
  alternative_decided (f.Isn't p) = plain_alternative_decided (f.Isn't p) (λ i. i)
  alternative_decided (f.Next n) = plain_alternative_decided (f.Next n) (λ i. i)
  alternative_decided (f.Always n) = plain_alternative_decided (f.Always n) (λ i. i)
  alternative_decided (f.Eventually n) = plain_alternative_decided (f.Eventually n) (λ i. i)
  alternative_decided (f.Until n m) = plain_alternative_decided (f.Until n m) (λ i. i)
  alternative_decided (f.Release n m) = plain_alternative_decided (f.Release n m) (λ i. i)
  alternative_decided (f.And n m) = plain_alternative_decided (f.And n m) (λ i. i)
  alternative_decided (f.Or n m) =
      iff_decided
      (⊎_elim same_alternative (⊎_elim on_left on_right))
      alternative_of_or
      (or_decided (equal_decided a (f.Or n m)) (or_decided (alternative_decided n) (alternative_decided m)))

unfoldable pub always_decided : (g : Formula) → Dec (IsAlways g)
unfolding iff_decided made_decided
always_decided g =
    iff_decided
    (λ s. (s.0, s.1))
    (λ s. (s.0, s.1, tt))
    (made_decided f.Always (λ g. (parts g).0) (λ a. refl) (λ _. Unit {0}) (λ _. yes tt) g)

module _ (Γ : List Formula) (m : Formula) where
  abbrev pub D : Set
  D = Without Γ m

  unfoldable pub without_decided : (g : Formula) → Dec (D g)
  unfolding member_decided equal_decided Dec.and Dec.not
  without_decided g = Dec.and (member_decided g Γ) (Dec.not (equal_decided g m))

  unfoldable pub covers_decided : (n : Formula) → Dec (Covers n D)
  unfolding iff_decided all_decided implies_decided Dec.not equal_decided always_decided alternative_decided
  covers_decided n =
      iff_decided
      (λ fits g d. fits g d.0 d.1)
      (λ covers g i differs. covers g (i, differs))
      (all_decided
      (λ g. (g ≡ m → ⊥) → (IsAlways g → ⊥) → Alternative (opposite g) n)
      (λ g. implies_decided (Dec.not (equal_decided g m)) (implies_decided (Dec.not (always_decided g)) (alternative_decided (opposite g) n)))
      Γ)

  -- a premise of D and of what Q adds
  unfoldable pub added_fits_decided : (Q : Set) → ((g : Formula) → Dec (Q g)) → (Δ : List Formula) → Dec (Fits Δ (λ g. D g ⊎ Q g))
  unfolding all_decided or_decided without_decided
  added_fits_decided Q dec Δ = all_decided (λ g. D g ⊎ Q g) (λ g. or_decided (without_decided g) (dec g)) Δ

  unfoldable pub with_fits_decided : (a : Formula) (Δ : List Formula) → Dec (Fits Δ (With D a))
  unfolding added_fits_decided equal_decided
  with_fits_decided a Δ = added_fits_decided (λ g. g ≡ a) (λ g. equal_decided g a) Δ

  unfoldable pub with2_fits_decided : (a b : Formula) (Δ : List Formula) → Dec (Fits Δ (With2 D a b))
  unfolding added_fits_decided or_decided equal_decided
  with2_fits_decided a b Δ = added_fits_decided (λ g. (g ≡ a) ⊎ (g ≡ b)) (λ g. or_decided (equal_decided g a) (equal_decided g b)) Δ

  unfoldable pub some_again_fits_decided : (a : Formula) (Δ : List Formula) → Dec (Fits Δ (SomeAgain D a))
  unfolding added_fits_decided made_decided covers_decided
  some_again_fits_decided a Δ =
      added_fits_decided
      (λ g. (n : Formula) × (g ≡ f.Next (f.Until n a)) × Covers n D)
      (made_decided (λ n. f.Next (f.Until n a)) (λ g. (parts (parts g).0).0) (λ n. refl) (λ n. Covers n D) covers_decided)
      Δ

  unfoldable pub until_again_fits_decided : (a b : Formula) (Δ : List Formula) → Dec (Fits Δ (UntilAgain D a b))
  unfolding added_fits_decided or_decided equal_decided made_decided covers_decided
  until_again_fits_decided a b Δ =
      added_fits_decided
      (λ g. (g ≡ a) ⊎ ((n : Formula) × (g ≡ f.Next (f.Until (f.And a n) b)) × Covers n D))
      (λ g. or_decided (equal_decided g a)
      (made_decided (λ n. f.Next (f.Until (f.And a n) b)) (λ g. (parts (parts (parts g).0).0).1) (λ n. refl) (λ n. Covers n D) covers_decided g))
      Δ

  -- m is made of a, or of a and b, with P
  abbrev pub Made : (Formula → Formula) → (Formula → Type 0) → Type 0
  Made C P = (a : Formula) × (m ≡ C a) × P a

  abbrev pub Made2 : (Formula → Formula → Formula) → (Formula → Formula → Type 0) → Type 0
  Made2 C P = (p : Formula × Formula) × (m ≡ C p.0 p.1) × P p.0 p.1

  -- The rules once more, as sums of what is decided, by the number of premises.
  abbrev pub Stepped : ℕ → List (List Formula) → Type 0
  Stepped n [] = (m ∈ Γ) × (((n ≡ 1) × (opposite m ∈ Γ)) ⊎ ((n ≡ 2) × (m ≡ f.False)))
  Stepped n (Δ ∷ []) =
      ((m ∈ Γ) ×
      (((n ≡ 3) × Made2 f.And (λ a b. Fits Δ (With2 D a b)))
      ⊎ ((n ≡ 5) × Made f.Always (λ a. Fits Δ (With2 D a (f.Next m))))))
      ⊎ ((n ≡ 11) × Fits Δ (λ g. f.Next g ∈ Γ))
  Stepped n (Δ ∷ Ε ∷ []) =
      (m ∈ Γ) ×
      (((n ≡ 4) × Made2 f.Or (λ a b. Fits Δ (With D a) × Fits Ε (With D b)))
      ⊎ ((n ≡ 6) × Made f.Eventually (λ a. Fits Δ (With D a) × Fits Ε (With D (f.Next m))))
      ⊎ ((n ≡ 7) × Made2 f.Until (λ a b. Fits Δ (With D b) × Fits Ε (With2 D a (f.Next m))))
      ⊎ ((n ≡ 8) × Made2 f.Release (λ a b. Fits Δ (With2 D a b) × Fits Ε (With2 D b (f.Next m))))
      ⊎ ((n ≡ 9) × Made f.Eventually (λ a. Fits Δ (With D a) × Fits Ε (SomeAgain D a)))
      ⊎ ((n ≡ 10) × Made2 f.Until (λ a b. Fits Δ (With D b) × Fits Ε (UntilAgain D a b))))
  Stepped n (Δ ∷ Ε ∷ Ζ ∷ Δs) = ⊥

  pub numbered : {n k : ℕ} {Δs : List (List Formula)} → n ≡ k → Rule Γ m k Δs → Rule Γ m n Δs
  numbered {Δs = Δs} e r = subst (λ n. Rule Γ m n Δs) (sym e) r

  pub stepped_rule : (n : ℕ) (Δs : List (List Formula)) → Stepped n Δs → Rule Γ m n Δs
  stepped_rule n [] (i, inl (e, o)) = numbered e (rule.contra i o)
  stepped_rule n [] (i, inr (e, s)) = numbered e (rule.false i s)
  stepped_rule n (Δ ∷ []) (inl (i, inl (e, (_, s, fits)))) = numbered e (rule.and i s fits)
  stepped_rule n (Δ ∷ []) (inl (i, inr (e, (_, s, fits)))) = numbered e (rule.always i s fits)
  stepped_rule n (Δ ∷ []) (inr (e, fits)) = numbered e (rule.next fits)
  stepped_rule n (Δ ∷ Ε ∷ []) (i, inl (e, (_, s, (fits, fits-too)))) = numbered e (rule.or i s fits fits-too)
  stepped_rule n (Δ ∷ Ε ∷ []) (i, inr (inl (e, (_, s, (fits, fits-too))))) = numbered e (rule.some i s fits fits-too)
  stepped_rule n (Δ ∷ Ε ∷ []) (i, inr (inr (inl (e, (_, s, (fits, fits-too)))))) = numbered e (rule.until i s fits fits-too)
  stepped_rule n (Δ ∷ Ε ∷ []) (i, inr (inr (inr (inl (e, (_, s, (fits, fits-too))))))) = numbered e (rule.release i s fits fits-too)
  stepped_rule n (Δ ∷ Ε ∷ []) (i, inr (inr (inr (inr (inl (e, (_, s, (fits, fits-too)))))))) = numbered e (rule.some+ i s fits fits-too)
  stepped_rule n (Δ ∷ Ε ∷ []) (i, inr (inr (inr (inr (inr (e, (_, s, (fits, fits-too)))))))) = numbered e (rule.until+ i s fits fits-too)
  stepped_rule n (Δ ∷ Ε ∷ Ζ ∷ Δs) s = absurd s

  pub rule_stepped : {n : ℕ} {Δs : List (List Formula)} → Rule Γ m n Δs → Stepped n Δs
  rule_stepped (rule.contra i o) = (i, inl (refl, o))
  rule_stepped (rule.false i s) = (i, inr (refl, s))
  rule_stepped (rule.and {a = a} {b = b} i s fits) = inl (i, inl (refl, ((a, b), s, fits)))
  rule_stepped (rule.always {a = a} i s fits) = inl (i, inr (refl, (a, s, fits)))
  rule_stepped (rule.next fits) = inr (refl, fits)
  rule_stepped (rule.or {a = a} {b = b} i s fits fits-too) = (i, inl (refl, ((a, b), s, (fits, fits-too))))
  rule_stepped (rule.some {a = a} i s fits fits-too) = (i, inr (inl (refl, (a, s, (fits, fits-too)))))
  rule_stepped (rule.until {a = a} {b = b} i s fits fits-too) = (i, inr (inr (inl (refl, ((a, b), s, (fits, fits-too))))))
  rule_stepped (rule.release {a = a} {b = b} i s fits fits-too) = (i, inr (inr (inr (inl (refl, ((a, b), s, (fits, fits-too)))))))
  rule_stepped (rule.some+ {a = a} i s fits fits-too) = (i, inr (inr (inr (inr (inl (refl, (a, s, (fits, fits-too))))))))
  rule_stepped (rule.until+ {a = a} {b = b} i s fits fits-too) = (i, inr (inr (inr (inr (inr (refl, ((a, b), s, (fits, fits-too))))))))

  -- the test of one rule: the number, then the shape of m, then what is left to show
  unfoldable pub one_part_decided : (n k : ℕ) (C : Formula → Formula) → ((a : Formula) → (parts (C a)).0 ≡ a) →
      {P : Formula → Type 0} → ((a : Formula) → Dec (P a)) → Dec ((n ≡ k) × Made C P)
  unfolding Dec.and ℕ_discrete made_decided
  one_part_decided n k C reads {P = P} dec = Dec.and (ℕ_discrete n k) (made_decided C (λ g. (parts g).0) reads P dec m)

  unfoldable pub two_parts_decided : (n k : ℕ) (C : Formula → Formula → Formula) →
      ((p : Formula × Formula) → parts (C p.0 p.1) ≡ p) →
      {P : Formula → Formula → Type 0} → ((a b : Formula) → Dec (P a b)) → Dec ((n ≡ k) × Made2 C P)
  unfolding Dec.and ℕ_discrete made_decided
  two_parts_decided n k C reads {P = P} dec =
      Dec.and (ℕ_discrete n k)
      (made_decided (λ p. C p.0 p.1) parts reads (λ p. P p.0 p.1) (λ p. dec p.0 p.1) m)

  unfoldable pub stepped_decided : (n : ℕ) (Δs : List (List Formula)) → Dec (Stepped n Δs)
  unfolding one_part_decided two_parts_decided with_fits_decided with2_fits_decided some_again_fits_decided until_again_fits_decided
  stepped_decided n [] =
      Dec.and (member_decided m Γ)
      (or_decided (Dec.and (ℕ_discrete n 1) (member_decided (opposite m) Γ))
      (Dec.and (ℕ_discrete n 2) (equal_decided m f.False)))
  stepped_decided n (Δ ∷ []) =
      or_decided
      (Dec.and (member_decided m Γ)
      (or_decided (two_parts_decided n 3 f.And (λ p. refl) (λ a b. with2_fits_decided a b Δ))
      (one_part_decided n 5 f.Always (λ a. refl) (λ a. with2_fits_decided a (f.Next m) Δ))))
      (Dec.and (ℕ_discrete n 11) (all_decided (λ g. f.Next g ∈ Γ) (λ g. member_decided (f.Next g) Γ) Δ))
  stepped_decided n (Δ ∷ Ε ∷ []) =
      Dec.and (member_decided m Γ)
      (or_decided (two_parts_decided n 4 f.Or (λ p. refl) (λ a b. Dec.and (with_fits_decided a Δ) (with_fits_decided b Ε)))
      (or_decided (one_part_decided n 6 f.Eventually (λ a. refl) (λ a. Dec.and (with_fits_decided a Δ) (with_fits_decided (f.Next m) Ε)))
      (or_decided (two_parts_decided n 7 f.Until (λ p. refl) (λ a b. Dec.and (with_fits_decided b Δ) (with2_fits_decided a (f.Next m) Ε)))
      (or_decided (two_parts_decided n 8 f.Release (λ p. refl) (λ a b. Dec.and (with2_fits_decided a b Δ) (with2_fits_decided b (f.Next m) Ε)))
      (or_decided (one_part_decided n 9 f.Eventually (λ a. refl) (λ a. Dec.and (with_fits_decided a Δ) (some_again_fits_decided a Ε)))
      (two_parts_decided n 10 f.Until (λ p. refl) (λ a b. Dec.and (with_fits_decided b Δ) (until_again_fits_decided a b Ε))))))))
  stepped_decided n (Δ ∷ Ε ∷ Ζ ∷ Δs) = no (λ s. s)

unfoldable pub rule_decided : (Γ : List Formula) (m : Formula) (n : ℕ) (Δs : List (List Formula)) → Dec (Rule Γ m n Δs)
unfolding iff_decided stepped_decided
rule_decided Γ m n Δs = iff_decided (stepped_rule Γ m n Δs) (rule_stepped Γ m) (stepped_decided Γ m n Δs)
