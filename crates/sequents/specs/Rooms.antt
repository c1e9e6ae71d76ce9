-- What a premise may have, as numbers. Assumes nothing.
use Rattle.std.specs.Prelude.{◌≡◌, ℕ, ◌%◌, ◌<◌, Bool, true, not, ◌&&◌, ◌⊎◌, List, [], ◌∷◌, length, Some, None, Option, ◌==◌, nat_lt}
use Rattle.pltl.specs.Formulas.{Formula}
use Rattle.pltl.specs.Formulas as f
use Rattle.calculus.specs.Sequents.{◌∈◌}
use Rattle.calculus.specs.Rules.{Covers, Fits, Rule}
use Rattle.tables.specs.declared.sequent.Sequent.{Sequent}
use Rattle.pltl.specs.declared.Shape.{Shape}
use Rattle.tables.specs.declared.number.Number.{Number}
use Rattle.tables.specs.Listing.{numbered, formula_over, parts_below, Lawful}
use Rattle.tables.specs.Sets.{member}
use Rattle.sequents.specs.declared.rooms.Conclusion.{Conclusion}
use Rattle.sequents.specs.declared.rooms.More.{More}
use Rattle.sequents.specs.declared.rooms.More.TheVariants.{Nothing, NextOf, SomeAgain, UntilAgain}
use Rattle.sequents.specs.declared.rooms.Room.{Room}
use Rattle.sequents.specs.declared.rooms.Plan.{Plan}
use Rattle.sequents.specs.declared.rooms.Plan.TheVariants.{Closed, One, Two}
use Rattle.kits.specs.Steps.{formulas_in}

-- The formulas of a sequent as a set.
abbrev pub Inside : List Formula → Sequent → Formula → Type 0
Inside fs s g = g ∈ formulas_in fs s

-- g is a side of the disjunction n.
abbrev pub Side : Formula → Formula → Type 0
Side g n = (h : Formula) × ((n ≡ f.Or g h) ⊎ (n ≡ f.Or h g))

-- What a rule adds beside single formulas, where D is the sequent `rest`.
abbrev pub Added : List Formula → Sequent → More → Formula → Type 0
Added fs rest Nothing g = ⊥
Added fs rest (NextOf m) g = g ≡ f.Next (numbered fs m.0)
Added fs rest (SomeAgain a) g = (n : Formula) × (g ≡ f.Next (f.Until n (numbered fs a.0))) × Covers n (Inside fs rest)
Added fs rest (UntilAgain a b) g = (n : Formula) × (g ≡ f.Next (f.Until (f.And (numbered fs a.0) n) (numbered fs b.0))) × Covers n (Inside fs rest)

-- A premise fits a room: each of its formulas is in the room's sequent or is one that the rule adds.
abbrev pub FitsRoom : List Formula → Sequent → Room → List Formula → Type 0
FitsRoom fs rest r Δ = Fits Δ (λ g. Inside fs r.set g ⊎ Added fs rest r.more g)

-- The premises fit a plan, in order, and are as many.
abbrev pub FitsPlan : List Formula → Sequent → Plan → List (List Formula) → Type 0
FitsPlan fs rest Closed [] = Unit {0}
FitsPlan fs rest Closed (Δ ∷ Δs) = ⊥
FitsPlan fs rest (One r) [] = ⊥
FitsPlan fs rest (One r) (Δ ∷ []) = FitsRoom fs rest r Δ
FitsPlan fs rest (One r) (Δ ∷ Ε ∷ Δs) = ⊥
FitsPlan fs rest (Two r s) [] = ⊥
FitsPlan fs rest (Two r s) (Δ ∷ []) = ⊥
FitsPlan fs rest (Two r s) (Δ ∷ Ε ∷ []) = FitsRoom fs rest r Δ × FitsRoom fs rest s Ε
FitsPlan fs rest (Two r s) (Δ ∷ Ε ∷ Ζ ∷ Δs) = ⊥

-- Numbers of formulas only.
abbrev pub more_inside : List Formula → More → Bool
more_inside fs Nothing = true
more_inside fs (NextOf m) = nat_lt m.0 (length fs)
more_inside fs (SomeAgain a) = nat_lt a.0 (length fs)
more_inside fs (UntilAgain a b) = nat_lt a.0 (length fs) && nat_lt b.0 (length fs)

abbrev pub plan_inside : List Formula → Plan → Bool
plan_inside fs Closed = true
plan_inside fs (One r) = more_inside fs r.more
plan_inside fs (Two r s) = more_inside fs r.more && more_inside fs s.more

-- m is the number of a formula of the conclusion, of this shape, and `rest` is the conclusion without it.
pub record Principal (fs : List Formula) (conclusion : Sequent) (m : Number) (shape : Shape Number) (rest : Sequent) : Type 0 where
  pub lawful : Lawful fs
  pub even : length fs % 2 ≡ 0
  pub inside : m.0 < length fs
  pub here : member conclusion m.0 ≡ true
  pub is : formula_over fs shape ≡ numbered fs m.0
  pub parts : parts_below m.0 shape ≡ true
  pub without : (k : ℕ) → member rest k ≡ (member conclusion k && not (k == m.0))

-- A plan says which premises a rule allows; where there is no plan, it allows none.
abbrev pub Plans : List Formula → Sequent → (List (List Formula) → Type 0) → Option Plan → Type 0
Plans fs rest Allows (Some p) = (plan_inside fs p ≡ true) × ((Δs : List (List Formula)) → (Allows Δs → FitsPlan fs rest p Δs) × (FitsPlan fs rest p Δs → Allows Δs))
Plans fs rest Allows None = (Δs : List (List Formula)) → Allows Δs → ⊥

-- The plan of a rule, for each table and conclusion in which the principal formula and the rest are these.
abbrev pub PlanOf : ℕ → Conclusion → Option Plan → Type 0
PlanOf n c p = (fs : List Formula) (conclusion : Sequent) → Principal fs conclusion c.m c.shape c.d → Plans fs c.d (Rule (formulas_in fs conclusion) (numbered fs c.m.0) n) p
