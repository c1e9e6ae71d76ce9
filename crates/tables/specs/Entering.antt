-- Numbering, on formulas alone: parts first, left first, the opposite beside it, nothing twice. Assumes nothing.
use Rattle.std.specs.Prelude.{ℕ, ◌+◌, Bool, true, false, cond, List, [], ◌∷◌, ◌++◌, length, nat_lt}
use Rattle.std.proofs.Math.Decide.{ℕ_discrete}
use Rattle.pltl.specs.Formulas.{Formula, opposite, same-formula}
use Rattle.pltl.specs.Formulas as formula

abbrev pub decided : {A : Type 0} → Dec A → Bool
decided (yes p) = true
decided (no p) = false

-- whether two formulas are equal
unfoldable pub same : Formula → Formula → Bool
same f g = decided (same-formula ℕ_discrete f g)

-- The number of a formula: the first index at which it stands, or the length of the list.
unfoldable pub place : List Formula → Formula → ℕ
place [] f = 0
place (g ∷ gs) f = cond (same g f) 0 (place gs f + 1)

-- A formula is added with its opposite behind it, unless it is there.
unfoldable pub added : List Formula → Formula → List Formula
added fs f = cond (nat_lt (place fs f) (length fs)) fs (fs ++ f ∷ opposite f ∷ [])

-- A formula is entered after its parts, left first.
unfoldable pub enter : List Formula → Formula → List Formula
enter fs formula.True = added fs formula.True
enter fs formula.False = added fs formula.False
enter fs (formula.Is p) = added fs (formula.Is p)
enter fs (formula.Isn't p) = added fs (formula.Isn't p)
enter fs (formula.Next a) = added (enter fs a) (formula.Next a)
enter fs (formula.Always a) = added (enter fs a) (formula.Always a)
enter fs (formula.Eventually a) = added (enter fs a) (formula.Eventually a)
enter fs (formula.Until a b) = added (enter (enter fs a) b) (formula.Until a b)
enter fs (formula.Release a b) = added (enter (enter fs a) b) (formula.Release a b)
enter fs (formula.And a b) = added (enter (enter fs a) b) (formula.And a b)
enter fs (formula.Or a b) = added (enter (enter fs a) b) (formula.Or a b)

-- The table when a formula's parts are entered.
abbrev pub enter_parts : List Formula → Formula → List Formula
enter_parts fs formula.True = fs
enter_parts fs formula.False = fs
enter_parts fs (formula.Is p) = fs
enter_parts fs (formula.Isn't p) = fs
enter_parts fs (formula.Next a) = enter fs a
enter_parts fs (formula.Always a) = enter fs a
enter_parts fs (formula.Eventually a) = enter fs a
enter_parts fs (formula.Until a b) = enter (enter fs a) b
enter_parts fs (formula.Release a b) = enter (enter fs a) b
enter_parts fs (formula.And a b) = enter (enter fs a) b
enter_parts fs (formula.Or a b) = enter (enter fs a) b
