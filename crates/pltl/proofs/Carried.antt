-- Truth is the same along two sequences that agree from two positions on. Assumes nothing.
use Rattle.std.proofs.Common.{◌≡◌, ℕ, ◌+◌, ◌-◌, ◌≤◌, ◌↔◌, sym, ap, ◌∙◌, inl, inr, ⊎_elim, arith}
use Rattle.pltl.specs.Formulas.{Formula}
use Rattle.pltl.specs.Formulas as pltl
use Rattle.pltl.specs.Truth.{Sequence, EveryFrom, SomeFrom, UntilFrom, ReleaseFrom, Holds}
use Rattle.pltl.specs.Runs.{Run, endless}
use Rattle.pltl.specs.Theorems.{Periodic, Suffixes}
use Rattle.pltl.proofs.Positions.{Not}
use Rattle.pltl.proofs.Loops.{period, period_positive, state_again, shown, endless_shown}

-- P from i on is Q from j on
abbrev pub Along : ℕ → ℕ → (ℕ → Type 0) → (ℕ → Type 0) → Type 0
Along i j P Q = (m n : ℕ) → i ≤ m → m + j ≡ n + i → P m ↔ Q n

pub along_back : (i j : ℕ) (P Q : ℕ → Type 0) → Along i j P Q → Along j i Q P
along_back i j P Q along n m le e =
    let pq = along m n (omega arith) (omega arith) in
    (pq.1, pq.0)

pub not_along : (i j : ℕ) (P Q : ℕ → Type 0) → Along i j P Q → Along i j (Not P) (Not Q)
not_along i j P Q along m n le e =
    let pq = along m n le e in
    (λ no q. no (pq.1 q), λ no p. no (pq.0 p))

every_one_way : (i j : ℕ) (P Q : ℕ → Type 0) → Along i j P Q → (m n : ℕ) → i ≤ m → m + j ≡ n + i → EveryFrom m P → EveryFrom n Q
every_one_way i j P Q along m n le e every k nk =
    let here = m + (k - n) in
    (along here k (omega arith) (omega arith)).0 (every here (omega arith))

until_one_way : (i j : ℕ) (A B C D : ℕ → Type 0) → Along i j A C → Along i j B D → (m n : ℕ) → i ≤ m → m + j ≡ n + i → UntilFrom m A B → UntilFrom n C D
until_one_way i j A B C D ac bd m n le e u =
    let low : m ≤ u.0 = u.1 in
    let there = n + (u.0 - m) in (
      there,
      omega arith,
      (bd u.0 there (omega arith) (omega arith)).0 u.2,
      λ k nk kt.
          let here = m + (k - n) in
          (ac here k (omega arith) (omega arith)).0 (u.3 here (omega arith) (omega arith)),
    )

pub every_along : (i j : ℕ) (P Q : ℕ → Type 0) → Along i j P Q → Along i j (λ k. EveryFrom k P) (λ k. EveryFrom k Q)
every_along i j P Q along m n le e =
    (every_one_way i j P Q along m n le e, every_one_way j i Q P (along_back i j P Q along) n m (omega arith) (omega arith))

pub until_along : (i j : ℕ) (A B C D : ℕ → Type 0) → Along i j A C → Along i j B D → Along i j (λ k. UntilFrom k A B) (λ k. UntilFrom k C D)
until_along i j A B C D ac bd m n le e = (
  until_one_way i j A B C D ac bd m n le e,
  until_one_way j i C D A B (along_back i j A C ac) (along_back i j B D bd) n m (omega arith) (omega arith),
)

pub release_along : (i j : ℕ) (A B C D : ℕ → Type 0) → Along i j A C → Along i j B D → Along i j (λ k. ReleaseFrom k A B) (λ k. ReleaseFrom k C D)
release_along i j A B C D ac bd =
    not_along i j (λ k. UntilFrom k (Not A) (Not B)) (λ k. UntilFrom k (Not C) (Not D))
    (until_along i j (Not A) (Not B) (Not C) (Not D) (not_along i j A C ac) (not_along i j B D bd))

pub some_along : (i j : ℕ) (P Q : ℕ → Type 0) → Along i j P Q → Along i j (λ k. SomeFrom k P) (λ k. SomeFrom k Q)
some_along i j P Q along m n le e =
    let u = until_along i j (λ _. Unit {0}) P (λ _. Unit {0}) Q (λ _ _ _ _. (λ t. t, λ t. t)) along m n le e in (
      λ s. let t = u.0 (s.0, s.1, s.2, λ _ _ _. tt) in (t.0, t.1, t.2),
      λ s. let t = u.1 (s.0, s.1, s.2, λ _ _ _. tt) in (t.0, t.1, t.2),
    )

module _ (σ τ : Sequence) (i j : ℕ) (agree : (m n : ℕ) → i ≤ m → m + j ≡ n + i → σ m ≡ τ n) where
  pub truth_along : (f : Formula) → Along i j (Holds σ f) (Holds τ f)
  truth_along pltl.True m n le e = (λ t. t, λ t. t)
  truth_along pltl.False m n le e = (λ t. t, λ t. t)
  truth_along (pltl.Is p) m n le e =
      let s = ap (λ state. state p) (agree m n le e) in
      (λ h. sym s ∙ h, λ h. s ∙ h)
  truth_along (pltl.Isn't p) m n le e =
      let s = ap (λ state. state p) (agree m n le e) in
      (λ h. sym s ∙ h, λ h. s ∙ h)
  truth_along (pltl.Next a) m n le e = truth_along a (m + 1) (n + 1) (omega arith) (omega arith)
  truth_along (pltl.Always a) m n le e = every_along i j (Holds σ a) (Holds τ a) (truth_along a) m n le e
  truth_along (pltl.Eventually a) m n le e = some_along i j (Holds σ a) (Holds τ a) (truth_along a) m n le e
  truth_along (pltl.Until a b) m n le e = until_along i j (Holds σ a) (Holds σ b) (Holds τ a) (Holds τ b) (truth_along a) (truth_along b) m n le e
  truth_along (pltl.Release a b) m n le e = release_along i j (Holds σ a) (Holds σ b) (Holds τ a) (Holds τ b) (truth_along a) (truth_along b) m n le e
  truth_along (pltl.And a b) m n le e =
      let l = truth_along a m n le e in
      let r = truth_along b m n le e in
      (λ h. (l.0 h.0, r.0 h.1), λ h. (l.1 h.0, r.1 h.1))
  truth_along (pltl.Or a b) m n le e =
      let l = truth_along a m n le e in
      let r = truth_along b m n le e in
      (⊎_elim (λ h. inl (l.0 h)) (λ h. inr (r.0 h)), ⊎_elim (λ h. inl (l.1 h)) (λ h. inr (r.1 h)))

pub periodic : Periodic
periodic r f i le =
    truth_along (endless r) (endless r) r.back (r.back + period r)
    (λ m n low e. let later : n ≡ m + period r = omega arith in sym (ap (endless r) later ∙ state_again r m low))
    f i (i + period r) le (omega arith)

pub suffixes : Suffixes
suffixes r i = (
  s,
  λ f j. truth_along (endless r) (endless s) i 0
      (λ m n low e. let later : m ≡ i + n = omega arith in ap (endless r) later ∙ sym (endless_shown σ r.back (period r) (period_positive r) again n))
      f (i + j) j (omega arith) (omega arith),
)
  where
    σ : Sequence
    σ k = endless r (i + k)

    s : Run
    s = shown σ r.back (period r) (period_positive r)

    again : (k : ℕ) → r.back ≤ k → σ (k + period r) ≡ σ k
    again k le =
        let e : i + (k + period r) ≡ (i + k) + period r = omega arith in
        ap (endless r) e ∙ state_again r (i + k) (omega arith)
