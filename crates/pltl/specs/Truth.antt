-- Truth on an endless sequence of states, by positions. A reader has to believe this file. Assumes nothing.
use Rattle.std.specs.Prelude.{◌≡◌, ℕ, ◌+◌, ◌<◌, ◌≤◌, Bool, true, false, ◌⊎◌}
use Rattle.pltl.specs.Formulas.{Tree, Formula}
use Rattle.pltl.specs.Formulas as pltl

-- A state is a set of letters, and a sequence has a state at each position 0, 1, 2 and so on.
abbrev pub State : Type 0
State = ℕ → Bool

abbrev pub Sequence : Type 0
Sequence = ℕ → State

-- From position i on: A at every j ≥ i;
-- A at some j ≥ i; B at some j ≥ i, and A at every k with i ≤ k < j.
abbrev pub EveryFrom : ℕ → (ℕ → Type 0) → Type 0
EveryFrom i A = (j : ℕ) → i ≤ j → A j

abbrev pub SomeFrom : ℕ → (ℕ → Type 0) → Type 0
SomeFrom i A = (j : ℕ) × (i ≤ j) × A j

abbrev pub UntilFrom : ℕ → (ℕ → Type 0) → (ℕ → Type 0) → Type 0
UntilFrom i A B = (j : ℕ) × (i ≤ j) × B j × ((k : ℕ) → i ≤ k → k < j → A k)

-- A releases B where "not A until not B" is false.
abbrev pub ReleaseFrom : ℕ → (ℕ → Type 0) → (ℕ → Type 0) → Type 0
ReleaseFrom i A B = UntilFrom i (λ k. A k → ⊥) (λ k. B k → ⊥) → ⊥

-- A formula in normal form is true at position i.
abbrev pub Holds : Sequence → Formula → ℕ → Type 0
Holds σ pltl.True i = Unit {0}
Holds σ pltl.False i = ⊥
Holds σ (pltl.Is p) i = σ i p ≡ true
Holds σ (pltl.Isn't p) i = σ i p ≡ false
Holds σ (pltl.Next a) i = Holds σ a (i + 1)
Holds σ (pltl.Always a) i = EveryFrom i (Holds σ a)
Holds σ (pltl.Eventually a) i = SomeFrom i (Holds σ a)
Holds σ (pltl.Until a b) i = UntilFrom i (Holds σ a) (Holds σ b)
Holds σ (pltl.Release a b) i = ReleaseFrom i (Holds σ a) (Holds σ b)
Holds σ (pltl.And a b) i = Holds σ a i × Holds σ b i
Holds σ (pltl.Or a b) i = Holds σ a i ⊎ Holds σ b i

-- A syntax tree is true at position i: not and implies mean not and implies.
abbrev pub HoldsAsWritten : Sequence → Tree → ℕ → Type 0
HoldsAsWritten σ pltl.one i = Unit {0}
HoldsAsWritten σ pltl.zero i = ⊥
HoldsAsWritten σ (pltl.letter p) i = σ i p ≡ true
HoldsAsWritten σ (pltl.not a) i = HoldsAsWritten σ a i → ⊥
HoldsAsWritten σ (pltl.next a) i = HoldsAsWritten σ a (i + 1)
HoldsAsWritten σ (pltl.always a) i = EveryFrom i (HoldsAsWritten σ a)
HoldsAsWritten σ (pltl.eventually a) i = SomeFrom i (HoldsAsWritten σ a)
HoldsAsWritten σ (pltl.until a b) i = UntilFrom i (HoldsAsWritten σ a) (HoldsAsWritten σ b)
HoldsAsWritten σ (pltl.release a b) i = ReleaseFrom i (HoldsAsWritten σ a) (HoldsAsWritten σ b)
HoldsAsWritten σ (pltl.and a b) i = HoldsAsWritten σ a i × HoldsAsWritten σ b i
HoldsAsWritten σ (pltl.or a b) i = HoldsAsWritten σ a i ⊎ HoldsAsWritten σ b i
HoldsAsWritten σ (pltl.implies a b) i = HoldsAsWritten σ a i → HoldsAsWritten σ b i
