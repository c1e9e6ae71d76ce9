-- Until over predicates on positions: by spans that double, and on a loop by two sweeps. Assumes nothing.
use Rattle.std.proofs.Common.{◌≡◌, ℕ, zero, suc, ◌+◌, ◌-◌, ◌<◌, ◌≤◌, ◌⊎◌, ◌↔◌, subst, inl, inr, ⊎_elim, arith}
use Rattle.std.proofs.lemmas.Bool.{cases_lt}
use Rattle.pltl.specs.Truth.{UntilFrom}
use Rattle.pltl.proofs.Positions.{Again}

-- A at each of the n positions from i on
abbrev pub Each : ℕ → (ℕ → Type 0) → ℕ → Type 0
Each n A i = (k : ℕ) → i ≤ k → k < i + n → A k

-- until, with B at one of the n positions from i on
abbrev pub Soon : ℕ → (ℕ → Type 0) → (ℕ → Type 0) → ℕ → Type 0
Soon n A B i = (j : ℕ) × (i ≤ j) × (j < i + n) × B j × ((k : ℕ) → i ≤ k → k < j → A k)

module _ (A : ℕ → Type 0) (i : ℕ) where
  pub each_one : Each 1 A i ↔ A i
  each_one = (λ h. h i (omega arith) (omega arith), λ a k ik ki. let e : i ≡ k = omega arith in subst A e a)

  module _ (n m : ℕ) where
    pub each_more : Each (n + m) A i ↔ (Each n A i × Each m A (i + n))
    each_more = (
      λ h. (λ k ik ki. h k ik (omega arith), λ k ik ki. h k (omega arith) (omega arith)),
      λ h k ik ki. ⊎_elim (λ l. h.0 k ik l) (λ g. h.1 k g (omega arith)) (cases_lt k (i + n)),
    )

module _ (A B : ℕ → Type 0) (i : ℕ) where
  pub soon_one : Soon 1 A B i ↔ B i
  soon_one = (
    λ s. let j = s.0 in let ij : i ≤ j = s.1 in let ji : j < i + 1 = s.2 in let e : j ≡ i = omega arith in subst B e s.3,
    λ b. (i, omega arith, omega arith, b, λ k ik ki. absurd (omega arith)),
  )

  pub soon_more : (n m : ℕ) → Soon (n + m) A B i ↔ (Soon n A B i ⊎ (Each n A i × Soon m A B (i + n)))
  soon_more n m = (
    λ s.
        let j = s.0 in
        let ij : i ≤ j = s.1 in
        let ji : j < i + (n + m) = s.2 in
        ⊎_elim
        (λ l. inl (j, ij, l, s.3, s.4))
        (λ g. inr (λ k ik ki. s.4 k ik (omega arith), (j, g, omega arith, s.3, λ k ik ki. s.4 k (omega arith) ki)))
        (cases_lt j (i + n)),
    ⊎_elim
        (λ s. let ji : s.0 < i + n = s.2 in (s.0, s.1, omega arith, s.3, s.4))
        (λ h.
        let s = h.1 in
        let j = s.0 in
        let ij : i + n ≤ j = s.1 in
        let ji : j < (i + n) + m = s.2 in
        (j, omega arith, omega arith, s.3, λ k ik ki. ⊎_elim (λ l. h.0 k ik l) (λ g. s.4 k g ki) (cases_lt k (i + n)))),
  )

  -- where B is at no position from n on, it is soon or never
  pub soon_is_until : (n : ℕ) → ((j : ℕ) → B j → j < n) → Soon n A B i ↔ UntilFrom i A B
  soon_is_until n ends =
      (λ s. (s.0, s.1, s.3, s.4), λ u. (u.0, u.1, (let l : u.0 < n = ends u.0 u.2 in omega arith), u.2, u.3))

-- On a loop whose last position, n - 1, is followed by the position back, A and B come again after the last position.
-- P and Q say the same of the positions of the list alone.
module _ (n back : ℕ) (inside : back < n) (A B P Q : ℕ → Type 0)
    (again-A : Again back (n - back) A) (again-B : Again back (n - back) B)
    (p : (k : ℕ) → P k ↔ ((k < n) × A k)) (q : (k : ℕ) → Q k ↔ ((k < n) × B k)) where
  -- Q, or the last position where the way goes on to Q from the back position
  abbrev pub Turn : ℕ → Type 0
  Turn k = Q k ⊎ ((k + 1 ≡ n) × P k × UntilFrom back P Q)

  -- from the back position no second turn is needed
  no_second_turn : (fuel j : ℕ) → j < fuel → back ≤ j → B j → ((k : ℕ) → back ≤ k → k < j → A k) → UntilFrom back P Q
  no_second_turn zero j lt le b a = absurd (omega arith)
  no_second_turn (suc fuel) j lt le b a =
      ⊎_elim
      (λ l. (j, le, (q j).1 (l, b), λ k bk kj. (p k).1 (omega arith, a k bk kj)))
      (λ g.
      let before = j - (n - back) in
      let e : j ≡ before + (n - back) = omega arith in
      no_second_turn fuel before (omega arith) (omega arith) ((again-B before (omega arith)).1 (subst B e b)) (λ k bk kj. a k bk (omega arith)))
      (cases_lt j n)

  pub looped : (i : ℕ) → i < n → UntilFrom i A B → UntilFrom i P Turn
  looped i lt u =
      let j = u.0 in
      let ij : i ≤ j = u.1 in
      ⊎_elim
      (λ l. (j, ij, inl ((q j).1 (l, u.2)), λ k ik kj. (p k).1 (omega arith, u.3 k ik kj)))
      (λ g.
      let before = j - (n - back) in
      let e : j ≡ before + (n - back) = omega arith in
      let from_back = no_second_turn (suc before) before (omega arith) (omega arith) ((again-B before (omega arith)).1 (subst B e u.2))
      (λ k bk kj. (again-A k bk).1 (u.3 (k + (n - back)) (omega arith) (omega arith))) in (
        n - 1,
        omega arith,
        inr (omega arith, (p (n - 1)).1 (omega arith, u.3 (n - 1) (omega arith) (omega arith)), from_back),
        λ k ik kj. (p k).1 (omega arith, u.3 k ik (omega arith)),
      ))
      (cases_lt j n)

  pub unlooped : (i : ℕ) → UntilFrom i P Turn → (i < n) × UntilFrom i A B
  unlooped i t =
      let j = t.0 in
      let ij : i ≤ j = t.1 in
      ⊎_elim
      (λ h. let jn : j < n = ((q j).0 h).0 in (omega arith, (j, ij, ((q j).0 h).1, λ k ik kj. ((p k).0 (t.3 k ik kj)).1)))
      (λ h.
      let last : j + 1 ≡ n = h.0 in
      let u = h.2 in
      let m = u.0 in
      let bm : back ≤ m = u.1 in
      let mn : m < n = ((q m).0 u.2).0 in (
        omega arith,
        (
          m + (n - back),
          omega arith,
          (again-B m bm).0 ((q m).0 u.2).1,
          λ k ik kj.
              ⊎_elim
              (λ l. ⊎_elim (λ kl. ((p k).0 (t.3 k ik kl)).1) (λ kg. let e : j ≡ k = omega arith in subst A e ((p j).0 h.1).1) (cases_lt k j))
              (λ g.
              let before = k - (n - back) in
              let e : before + (n - back) ≡ k = omega arith in
              subst A e ((again-A before (omega arith)).0 ((p before).0 (u.3 before (omega arith) (omega arith))).1))
              (cases_lt k n),
        ),
      ))
      t.2
