-- The rule of kit `u`: unit closure. A reader has to believe this file. Assumes nothing.
use Rattle.std.specs.Prelude.{◌⊎◌, List}
use Rattle.pltl.specs.Formulas.{Formula, opposite}
use Rattle.pltl.specs.Formulas as f
use Rattle.calculus.specs.Sequents.{◌∈◌}

-- The closure of a set: the least set with it inside such that A&B brings A and B, GA brings A, and A|B with the
-- opposite of one side brings the other.
pub data Closure (Γ : List Formula) : Formula → Type 0 where
  given : {a : Formula} → a ∈ Γ → Closure Γ a
  and_left : {a b : Formula} → Closure Γ (f.And a b) → Closure Γ a
  and_right : {a b : Formula} → Closure Γ (f.And a b) → Closure Γ b
  always : {a : Formula} → Closure Γ (f.Always a) → Closure Γ a
  or_left : {a b : Formula} → Closure Γ (f.Or a b) → Closure Γ (opposite b) → Closure Γ a
  or_right : {a b : Formula} → Closure Γ (f.Or a b) → Closure Γ (opposite a) → Closure Γ b

-- The closure contains false or two opposites.
abbrev pub Contradicts : List Formula → Type 0
Contradicts Γ = Closure Γ f.False ⊎ ((a : Formula) × Closure Γ a × Closure Γ (opposite a))
