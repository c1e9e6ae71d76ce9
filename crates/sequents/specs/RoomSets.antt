-- Sets of formulas and the sequents that hold them. Assumes nothing.
use Rattle.std.specs.Prelude.{◌≡◌, ℕ, ◌<◌, not, ◌&&◌, ◌||◌, ◌⊎◌, List, length, ◌==◌, nat_lt, refl}
use Rattle.std.proofs.Common.{sym, ap, subst, ◌∙◌, inl, inr, ⊎_elim, arith}
use Rattle.std.proofs.lemmas.Bool.{eqb-true, eqb-false, eq-eqb, ne_eqb, lt-ltb, and_parts, and_from, or_cases, or_left, or_right, not-true, not_from_false}
use Rattle.pltl.specs.Formulas.{Formula}
use Rattle.pltl.specs.Formulas as f
use Rattle.pltl.specs.declared.Shape.{Shape}
use Rattle.calculus.specs.Rules.{Set, Without, With, With2, Covers, SomeAgain, UntilAgain}
use Rattle.tables.specs.declared.number.Number.{Number}
use Rattle.tables.specs.declared.sequent.Sequent.{Sequent}
use Rattle.tables.specs.Listing.{numbered}
use Rattle.tables.specs.Sets.{member}
use Rattle.sequents.specs.declared.rooms.More.{More}
use Rattle.sequents.specs.declared.rooms.More.TheVariants.{Nothing, NextOf}
use Rattle.sequents.specs.declared.rooms.More.TheVariants as more
use Rattle.kits.specs.Steps.{formulas_in}
use Rattle.sequents.specs.Rooms.{Inside, Added, Principal}
use Rattle.kits.proofs.InSequents.{in_from_number, number_from_in, member_few}

-- two sets have the same formulas
abbrev pub Same : Set → Set → Type 0
Same S T = (g : Formula) → (S g → T g) × (T g → S g)

-- t is s with the number a
abbrev pub WithNumber : Sequent → Number → Sequent → Type 0
WithNumber s a t = (k : ℕ) → member t k ≡ (member s k || (nat_lt k 512 && k == a.0))

module _ (fs : List Formula) (s t : Sequent) (a : Number) (w : WithNumber s a t) where
  pub with_from : (g : Formula) → Inside fs t g → Inside fs s g ⊎ (g ≡ numbered fs a.0)
  with_from g i =
      let r = number_from_in fs t g i in
      ⊎_elim
      (λ h. inl (subst (Inside fs s) r.3 (in_from_number fs s r.0 r.1 h)))
      (λ h. inr (sym r.3 ∙ ap (numbered fs) (eqb-true r.0 a.0 (and_parts _ _ h).1)))
      (or_cases (member s r.0) (nat_lt r.0 512 && r.0 == a.0) (sym (w r.0) ∙ r.2))

  pub with_kept : (g : Formula) → Inside fs s g → Inside fs t g
  with_kept g i =
      let r = number_from_in fs s g i in
      subst (Inside fs t) r.3 (in_from_number fs t r.0 r.1 (w r.0 ∙ or_left _ _ r.2))

  pub with_new : a.0 < length fs → a.0 < 512 → Inside fs t (numbered fs a.0)
  with_new lt few = in_from_number fs t a.0 lt (w a.0 ∙ or_right _ _ (and_from _ _ (lt-ltb a.0 512 few) (eq-eqb a.0 a.0 refl)))

  pub with_to : a.0 < length fs → a.0 < 512 → (g : Formula) → Inside fs s g ⊎ (g ≡ numbered fs a.0) → Inside fs t g
  with_to lt few g = ⊎_elim (with_kept g) (λ e. subst (Inside fs t) (sym e) (with_new lt few))

-- a set with two more
module _ (D : Set) (a b : Formula) where
  pub both_from : (g : Formula) → With D a g ⊎ (g ≡ b) → With2 D a b g
  both_from g (inl (inl d)) = inl d
  both_from g (inl (inr e)) = inr (inl e)
  both_from g (inr e) = inr (inr e)

  pub both_to : (g : Formula) → With2 D a b g → With D a g ⊎ (g ≡ b)
  both_to g (inl d) = inl (inl d)
  both_to g (inr (inl e)) = inl (inr e)
  both_to g (inr (inr e)) = inr e

-- what covers a set covers each set inside it
pub covers_inside : {n : Formula} {S T : Set} → ((g : Formula) → T g → S g) → Covers n S → Covers n T
covers_inside h covers g i = covers g (h g i)

-- what a premise in a room may have
abbrev pub Filled : List Formula → Sequent → Sequent → More → Set
Filled fs rest t m g = Inside fs t g ⊎ Added fs rest m g

module _ (fs : List Formula) (conclusion : Sequent) (m : Number) (shape : Shape Number) (rest : Sequent) (p : Principal fs conclusion m shape rest) where
  abbrev pub Γ : List Formula
  Γ = formulas_in fs conclusion

  abbrev pub M : Formula
  M = numbered fs m.0

  abbrev pub D : Set
  D = Without Γ M

  abbrev pub At : Number → Formula
  At a = numbered fs a.0

  -- the rest has what the conclusion has beside the principal formula
  pub rest_from : (g : Formula) → Inside fs rest g → D g
  rest_from g i =
      let r = number_from_in fs rest g i in
      let b = and_parts (member conclusion r.0) (not (r.0 == m.0)) (sym (p.without r.0) ∙ r.2) in (
        subst (Inside fs conclusion) r.3 (in_from_number fs conclusion r.0 r.1 b.0),
        λ e. eqb-false r.0 m.0 (not-true _ b.1) (p.lawful.once r.0 m.0 r.1 p.inside (r.3 ∙ e)),
      )

  pub rest_to : (g : Formula) → D g → Inside fs rest g
  rest_to g d =
      let r = number_from_in fs conclusion g d.0 in
      let differs : r.0 ≡ m.0 → ⊥ = λ e. d.1 (sym r.3 ∙ ap (numbered fs) e) in
      subst (Inside fs rest) r.3
      (in_from_number fs rest r.0 r.1 (p.without r.0 ∙ and_from _ _ r.2 (not_from_false _ (ne_eqb r.0 m.0 differs))))

  pub rest_same : Same (Inside fs rest) D
  rest_same g = (rest_from g, rest_to g)

  -- parts have numbers of formulas that a sequent can hold
  pub part_inside : (a : Number) → a.0 < m.0 → a.0 < length fs
  part_inside a lt = omega (arith, p.inside)

  pub part_few : (a : Number) → a.0 < m.0 → a.0 < 512
  part_few a lt = omega (arith, member_few conclusion m.0 p.here)

  module _ (a : Number) (low : a.0 < m.0) (t : Sequent) (w : WithNumber rest a t) where
    pub with_same : Same (Inside fs t) (With D (At a))
    with_same g = (
      λ i. ⊎_elim (λ r. inl (rest_from g r)) inr (with_from fs rest t a w g i),
      λ d. with_to fs rest t a w (part_inside a low) (part_few a low) g (⊎_elim (λ r. inl (rest_to g r)) inr d),
    )

    pub with2_same : (b : Number) → b.0 < m.0 → (u : Sequent) → WithNumber t b u → Same (Inside fs u) (With2 D (At a) (At b))
    with2_same b low-too u v g = (
      λ i. both_from D (At a) (At b) g (⊎_elim (λ r. inl ((with_same g).0 r)) inr (with_from fs t u b v g i)),
      λ d. with_to fs t u b v (part_inside b low-too) (part_few b low-too) g (⊎_elim (λ r. inl ((with_same g).1 r)) inr (both_to D (At a) (At b) g d)),
    )

  -- rooms with nothing more
  pub plain_same : (t : Sequent) (T : Set) → Same (Inside fs t) T → Same (Filled fs rest t Nothing) T
  plain_same t T same g = (⊎_elim (same g).0 (λ n. absurd n), λ i. inl ((same g).1 i))

  -- with next of a number
  pub next_same : Same (Filled fs rest rest (NextOf m)) (With D (f.Next M))
  next_same g = (⊎_elim (λ i. inl (rest_from g i)) inr, ⊎_elim (λ i. inl (rest_to g i)) inr)

  module _ (a : Number) (low : a.0 < m.0) (t : Sequent) (w : WithNumber rest a t) where
    pub with_next_same : Same (Filled fs rest t (NextOf m)) (With2 D (At a) (f.Next M))
    with_next_same g = (
      λ i. both_from D (At a) (f.Next M) g (⊎_elim (λ r. inl ((with_same a low t w g).0 r)) inr i),
      λ d. ⊎_elim (λ r. inl ((with_same a low t w g).1 r)) inr (both_to D (At a) (f.Next M) g d),
    )

    pub until_again_same : (b : Number) → Same (Filled fs rest t (more.UntilAgain a b)) (UntilAgain D (At a) (At b))
    until_again_same b g = (
      ⊎_elim
          (λ i. ⊎_elim inl (λ e. inr (inl e)) ((with_same a low t w g).0 i))
          (λ s. inr (inr (s.0, s.1, covers_inside rest_to s.2))),
      ⊎_elim
          (λ d. inl ((with_same a low t w g).1 (inl d)))
          (⊎_elim (λ e. inl ((with_same a low t w g).1 (inr e))) (λ s. inr (s.0, s.1, covers_inside rest_from s.2))),
    )

  pub some_again_same : (a : Number) → Same (Filled fs rest rest (more.SomeAgain a)) (SomeAgain D (At a))
  some_again_same a g = (
    ⊎_elim (λ i. inl (rest_from g i)) (λ s. inr (s.0, s.1, covers_inside rest_to s.2)),
    ⊎_elim (λ d. inl (rest_to g d)) (λ s. inr (s.0, s.1, covers_inside rest_from s.2)),
  )
