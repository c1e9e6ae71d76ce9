-- Predicates on positions: until and release step by step, and decided where the predicates come again. Assumes nothing.
use Rattle.std.proofs.Common.{◌≡◌, ℕ, zero, suc, ◌+◌, ◌-◌, ◌<◌, ◌≤◌, ◌⊎◌, ◌↔◌, subst, inl, inr, ⊎_elim, arith}
use Rattle.std.proofs.lemmas.Bool.{cases_lt}
use Rattle.pltl.specs.Truth.{EveryFrom, SomeFrom, UntilFrom, ReleaseFrom}

abbrev pub Decided : (ℕ → Type 0) → Type 0
Decided P = (k : ℕ) → P k ⊎ (P k → ⊥)

abbrev pub Not : (ℕ → Type 0) → ℕ → Type 0
Not P k = P k → ⊥

-- from the back position on, what is true comes again after the period
abbrev pub Again : ℕ → ℕ → (ℕ → Type 0) → Type 0
Again back period P = (k : ℕ) → back ≤ k → P k ↔ P (k + period)

pub not_decided : (P : ℕ → Type 0) → Decided P → Decided (Not P)
not_decided P dec k = ⊎_elim (λ p. inr (λ n. n p)) inl (dec k)

pub not_again : (back period : ℕ) (P : ℕ → Type 0) → Again back period P → Again back period (Not P)
not_again back period P again k le = (λ n p. n ((again k le).1 p), λ n p. n ((again k le).0 p))

pub not_not : (P : ℕ → Type 0) → Decided P → (k : ℕ) → (Not P k → ⊥) → P k
not_not P dec k nn = ⊎_elim (λ p. p) (λ n. absurd (nn n)) (dec k)

-- the last position up to j
abbrev pub Last : (ℕ → Type 0) → ℕ → ℕ → Type 0
Last P i j = (k : ℕ) × (i ≤ k) × (k ≤ j) × P k × ((m : ℕ) → k < m → m ≤ j → P m → ⊥)

last_after : (P : ℕ → Type 0) → Decided P → (i : ℕ) → P i → (n j : ℕ) → j ≡ i + n → Last P i j
last_after P dec i here zero j e = (i, omega arith, omega arith, here, λ m lt le p. absurd (omega arith))
last_after P dec i here (suc n) j e =
    ⊎_elim
    (λ p. (j, omega arith, omega arith, p, λ m lt le q. absurd (omega arith)))
    (λ no.
    let l = last_after P dec i here n (j - 1) (omega arith) in
    let low : l.0 ≤ j - 1 = l.2 in (
      l.0,
      l.1,
      omega arith,
      l.3,
      λ m lt le p.
          ⊎_elim
          (λ below. l.4 m lt (omega arith) p)
          (λ above. let same : m ≡ j = omega arith in no (subst P same p))
          (cases_lt m j),
    ))
    (dec j)

pub last_before : (P : ℕ → Type 0) → ((m : ℕ) → P m ⊎ (P m → ⊥)) → (i j : ℕ) → i ≤ j → P i →
    (k : ℕ) × (i ≤ k) × (k ≤ j) × P k × ((m : ℕ) → k < m → m ≤ j → P m → ⊥)
last_before P dec i j le here = last_after P dec i here (j - i) j (omega arith)

-- what is true now or later
module _ (A : ℕ → Type 0) (i : ℕ) where
  pub every_steps : EveryFrom i A → A i × EveryFrom (i + 1) A
  every_steps e = (e i (omega arith), λ j le. e j (omega arith))

  pub every_by_step : A i × EveryFrom (i + 1) A → EveryFrom i A
  every_by_step s j le =
      ⊎_elim
      (λ lt. s.1 j (omega arith))
      (λ ge. let same : i ≡ j = omega arith in subst A same s.0)
      (cases_lt i j)

  pub some_steps : SomeFrom i A → A i ⊎ SomeFrom (i + 1) A
  some_steps s =
      let j = s.0 in
      let le : i ≤ j = s.1 in
      ⊎_elim
      (λ lt. inr (j, omega arith, s.2))
      (λ ge. let same : j ≡ i = omega arith in inl (subst A same s.2))
      (cases_lt i j)

  pub some_by_step : A i ⊎ SomeFrom (i + 1) A → SomeFrom i A
  some_by_step (inl a) = (i, omega arith, a)
  some_by_step (inr s) = let le : i + 1 ≤ s.0 = s.1 in (s.0, omega arith, s.2)

module _ (A B : ℕ → Type 0) (i : ℕ) where
  pub until_steps : UntilFrom i A B → B i ⊎ (A i × UntilFrom (i + 1) A B)
  until_steps u =
      let j = u.0 in
      let le : i ≤ j = u.1 in
      ⊎_elim
      (λ lt. inr (u.3 i (omega arith) lt, (j, omega arith, u.2, λ k ik kj. u.3 k (omega arith) kj)))
      (λ ge. let same : j ≡ i = omega arith in inl (subst B same u.2))
      (cases_lt i j)

  pub until_by_step : B i ⊎ (A i × UntilFrom (i + 1) A B) → UntilFrom i A B
  until_by_step (inl b) = (i, omega arith, b, λ k ik ki. absurd (omega arith))
  until_by_step (inr s) =
      let j = s.1.0 in
      let le : i + 1 ≤ j = s.1.1 in (
        j,
        omega arith,
        s.1.2,
        λ k ik kj.
            ⊎_elim
            (λ lt. s.1.3 k (omega arith) kj)
            (λ ge. let same : i ≡ k = omega arith in subst A same s.0)
            (cases_lt i k),
      )

module _ (A B : ℕ → Type 0) (decA : Decided A) (decB : Decided B) (i : ℕ) where
  pub release_steps : ReleaseFrom i A B → B i × (A i ⊎ ReleaseFrom (i + 1) A B)
  release_steps r = (
    not_not B decB i (λ no. r (until_by_step (Not A) (Not B) i (inl no))),
    ⊎_elim inl (λ no. inr (λ u. r (until_by_step (Not A) (Not B) i (inr (no, u))))) (decA i),
  )

pub release_by_step : (A B : ℕ → Type 0) (i : ℕ) → B i × (A i ⊎ ReleaseFrom (i + 1) A B) → ReleaseFrom i A B
release_by_step A B i s u =
    ⊎_elim
    (λ no. no s.0)
    (λ more. ⊎_elim more.0 (λ r. r more.1) s.1)
    (until_steps (Not A) (Not B) i u)

pub until_weaker : (A B C D : ℕ → Type 0) → ((k : ℕ) → A k → C k) → ((k : ℕ) → B k → D k) → (i : ℕ) → UntilFrom i A B → UntilFrom i C D
until_weaker A B C D ac bd i u = (u.0, u.1, bd u.0 u.2, λ k ik kj. ac k (u.3 k ik kj))

-- what is nowhere in a window of back + period positions is nowhere after it
module _ (back period : ℕ) (moves : 0 < period) (B : ℕ → Type 0) (again : Again back period B) (i : ℕ)
    (nowhere : (k : ℕ) → i ≤ k → k < i + (back + period) → B k → ⊥) where
  nowhere_below : (n j : ℕ) → j < n → i ≤ j → B j → ⊥
  nowhere_below zero j lt le b = omega arith
  nowhere_below (suc n) j lt le b =
      ⊎_elim
      (λ near. nowhere j le near b)
      (λ far.
      let before = j - period in
      let same : j ≡ before + period = omega arith in
      nowhere_below n before (omega arith) (omega arith) ((again before (omega arith)).1 (subst B same b)))
      (cases_lt j (i + (back + period)))

  pub nowhere_after : (j : ℕ) → i ≤ j → B j → ⊥
  nowhere_after j = nowhere_below (suc j) j (omega arith)

-- a search through the next n positions: until is settled, or B is at none of them
module _ (A B : ℕ → Type 0) (decA : Decided A) (decB : Decided B) where
  pub searched : (n i : ℕ) → (UntilFrom i A B ⊎ (UntilFrom i A B → ⊥)) ⊎ ((k : ℕ) → i ≤ k → k < i + n → B k → ⊥)
  searched zero i = inr (λ k ik ki b. omega arith)
  searched (suc n) i =
      ⊎_elim
      (λ b. inl (inl (until_by_step A B i (inl b))))
      (λ not-b.
      ⊎_elim
      (λ a.
      ⊎_elim
      (λ settled. inl
      (⊎_elim
      (λ u. inl (until_by_step A B i (inr (a, u))))
      (λ no. inr (λ u. ⊎_elim not-b (λ s. no s.1) (until_steps A B i u)))
      settled))
      (λ none. inr (λ k ik ki b.
      ⊎_elim
      (λ lt. none k (omega arith) (omega arith) b)
      (λ ge. let same : k ≡ i = omega arith in not-b (subst B same b))
      (cases_lt i k)))
      (searched n (i + 1)))
      (λ not_a. inl (inr (λ u. ⊎_elim not-b (λ s. not_a s.0) (until_steps A B i u))))
      (decA i))
      (decB i)

module _ (back period : ℕ) (moves : 0 < period) where
  pub until_decided : (A B : ℕ → Type 0) → Decided A → Decided B → Again back period B → Decided (λ i. UntilFrom i A B)
  until_decided A B decA decB again i =
      ⊎_elim
      (λ settled. settled)
      (λ none. inr (λ u. nowhere_after back period moves B again i none u.0 u.1 u.2))
      (searched A B decA decB (back + period) i)

  pub release_decided : (A B : ℕ → Type 0) → Decided A → Decided B → Again back period B → Decided (λ i. ReleaseFrom i A B)
  release_decided A B decA decB again =
      not_decided (λ i. UntilFrom i (Not A) (Not B))
      (until_decided (Not A) (Not B) (not_decided A decA) (not_decided B decB) (not_again back period B again))

  pub some_decided : (A : ℕ → Type 0) → Decided A → Again back period A → Decided (λ i. SomeFrom i A)
  some_decided A dec again i =
      ⊎_elim
      (λ u. inl (u.0, u.1, u.2))
      (λ no. inr (λ s. no (s.0, s.1, s.2, λ k ik kj. tt)))
      (until_decided (λ _. Unit {0}) A (λ _. inl tt) dec again i)

  pub every_or_some_not : (A : ℕ → Type 0) → Decided A → Again back period A → (i : ℕ) → EveryFrom i A ⊎ SomeFrom i (Not A)
  every_or_some_not A dec again i =
      ⊎_elim
      inr
      (λ no. inl (λ j le. not_not A dec j (λ na. no (j, le, na))))
      (some_decided (Not A) (not_decided A dec) (not_again back period A again) i)

  pub every_decided : (A : ℕ → Type 0) → Decided A → Again back period A → Decided (λ i. EveryFrom i A)
  every_decided A dec again i =
      ⊎_elim inl (λ s. inr (λ e. s.2 (e s.0 s.1))) (every_or_some_not A dec again i)
