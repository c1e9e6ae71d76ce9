-- Words as rows: each sign, from the rows of its parts. Assumes nothing.
use Rattle.std.proofs.Common.{◌≡◌, ℕ, ◌+◌, ◌-◌, ◌<◌, true, not, ◌&&◌, ◌||◌, eqb, ltb, ◌⊎◌, ◌↔◌, Decides, sym, ◌∙◌, subst, inl, inr, ⊎_elim, arith}
use Rattle.std.proofs.lemmas.Bool.{cases_lt, cases_Bool, both_ways, and_parts, and_from, or_cases, or_left, or_right, not-true, not_from_false, ltb-true, lt-ltb, eqb-true, eq-eqb}
use Rattle.pltl.specs.Truth.{EveryFrom, SomeFrom, UntilFrom}
use Rattle.pltl.proofs.Positions.{Decided, Not, Again, not_not}
use Rattle.tables.specs.Rows.{bit}
use Rattle.tables.specs.Words.{In, GoalOrTurn}
use Rattle.tables.proofs.BitTests.{bit_zero}
use Rattle.tables.proofs.Sweeps.{looped, unlooped}

-- w has the bits of the positions before n where P is true
abbrev pub Marks : ℕ → (ℕ → Type 0) → ℕ → Type 0
Marks n P w = (i : ℕ) → (bit w i ≡ true → (i < n) × P i) × (i < n → P i → bit w i ≡ true)

module _ (n : ℕ) where
  pub marks_like : (P Q : ℕ → Type 0) (w : ℕ) → ((i : ℕ) → i < n → P i ↔ Q i) → Marks n P w → Marks n Q w
  marks_like P Q w same m i =
      (λ b. let h = (m i).0 b in (h.0, (same i h.0).0 h.1), λ lt q. (m i).1 lt ((same i lt).1 q))

  pub marks_all : (w : ℕ) → ((i : ℕ) → bit w i ≡ ltb i n) → Marks n (λ _. Unit {0}) w
  marks_all w is i = (λ b. (ltb-true i n (sym (is i) ∙ b), tt), λ lt _. is i ∙ lt-ltb i n lt)

  pub marks_none : Marks n (λ _. ⊥) 0
  marks_none i = (λ b. absurd (both_ways (bit 0 i) (bit_zero i) b), λ lt no. absurd no)

  module _ (P Q : ℕ → Type 0) (v w u : ℕ) (mP : Marks n P v) (mQ : Marks n Q w) where
    pub marks_both : ((i : ℕ) → bit u i ≡ (bit v i && bit w i)) → Marks n (λ i. P i × Q i) u
    marks_both is i = (
      λ b. let h = and_parts (bit v i) (bit w i) (sym (is i) ∙ b) in (((mP i).0 h.0).0, (((mP i).0 h.0).1, ((mQ i).0 h.1).1)),
      λ lt h. is i ∙ and_from (bit v i) (bit w i) ((mP i).1 lt h.0) ((mQ i).1 lt h.1),
    )

    pub marks_either : ((i : ℕ) → bit u i ≡ (bit v i || bit w i)) → Marks n (λ i. P i ⊎ Q i) u
    marks_either is i = (
      λ b. ⊎_elim (λ h. (((mP i).0 h).0, inl ((mP i).0 h).1)) (λ h. (((mQ i).0 h).0, inr ((mQ i).0 h).1)) (or_cases (bit v i) (bit w i) (sym (is i) ∙ b)),
      λ lt. ⊎_elim (λ p. is i ∙ or_left (bit v i) (bit w i) ((mP i).1 lt p)) (λ q. is i ∙ or_right (bit v i) (bit w i) ((mQ i).1 lt q)),
    )

  pub marks_not : (P : ℕ → Type 0) (v u : ℕ) → Marks n P v → ((i : ℕ) → bit u i ≡ (ltb i n && not (bit v i))) → Marks n (Not P) u
  marks_not P v u m is i = (
    λ b.
        let h = and_parts (ltb i n) (not (bit v i)) (sym (is i) ∙ b) in
        let lt = ltb-true i n h.0 in
        (lt, λ p. both_ways (bit v i) (not-true (bit v i) h.1) ((m i).1 lt p)),
    λ lt no. is i ∙ and_from (ltb i n) (not (bit v i)) (lt-ltb i n lt)
        (⊎_elim (λ t. absurd (no ((m i).0 t).1)) (λ f. not_from_false (bit v i) f) (cases_Bool (bit v i))),
  )

  -- the loop
  module _ (back : ℕ) (inside : back < n) where
    pub marks_next : (P : ℕ → Type 0) (v u : ℕ) → P back ↔ P n → Marks n P v → ((i : ℕ) → bit u i ≡ (bit v (i + 1) || (eqb (i + 1) n && bit v back))) → Marks n (λ i. P (i + 1)) u
    marks_next P v u turn m is i = (
      λ b. ⊎_elim
          (λ h. let r = (m (i + 1)).0 h in let lt : i + 1 < n = r.0 in (omega arith, r.1))
          (λ h.
          let s = and_parts (eqb (i + 1) n) (bit v back) h in
          let e : i + 1 ≡ n = eqb-true (i + 1) n s.0 in
          (omega arith, subst P (sym e) (turn.0 ((m back).0 s.1).1)))
          (or_cases (bit v (i + 1)) (eqb (i + 1) n && bit v back) (sym (is i) ∙ b)),
      λ lt p. is i ∙ ⊎_elim
          (λ l. or_left (bit v (i + 1)) (eqb (i + 1) n && bit v back) ((m (i + 1)).1 l p))
          (λ g.
          let e : i + 1 ≡ n = omega arith in
          or_right (bit v (i + 1)) (eqb (i + 1) n && bit v back) (and_from (eqb (i + 1) n) (bit v back) (eq-eqb (i + 1) n e) ((m back).1 inside (turn.1 (subst P e p)))))
          (cases_lt (i + 1) n),
    )

    pub marks_until : (P Q : ℕ → Type 0) → Again back (n - back) P → Again back (n - back) Q → (v w u : ℕ) → Marks n P v → Marks n Q w →
        ((i : ℕ) → Decides (bit u i) (UntilFrom i (In v) (GoalOrTurn v w n back))) → Marks n (λ i. UntilFrom i P Q) u
    marks_until P Q again-P again-Q v w u mP mQ is i =
        let p : (k : ℕ) → In v k ↔ ((k < n) × P k) = λ k. ((mP k).0, λ h. (mP k).1 h.0 h.1) in
        let q : (k : ℕ) → In w k ↔ ((k < n) × Q k) = λ k. ((mQ k).0, λ h. (mQ k).1 h.0 h.1) in (
          λ b. unlooped n back inside P Q (In v) (In w) again-P again-Q p q i ((is i).0 b),
          λ lt h. (is i).1 (looped n back inside P Q (In v) (In w) again-P again-Q p q i lt h),
        )

pub until_all_is_some : (P : ℕ → Type 0) (i : ℕ) → UntilFrom i (λ _. Unit {0}) P ↔ SomeFrom i P
until_all_is_some P i = (λ u. (u.0, u.1, u.2), λ s. (s.0, s.1, s.2, λ k ik kj. tt))

pub never_not_is_every : (P : ℕ → Type 0) → Decided P → (i : ℕ) → (UntilFrom i (λ _. Unit {0}) (Not P) → ⊥) ↔ EveryFrom i P
never_not_is_every P dec i =
    (λ no j ij. not_not P dec j (λ np. no (j, ij, np, λ k ik kj. tt)), λ e u. u.2 (e u.0 u.1))
