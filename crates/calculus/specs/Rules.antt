-- The sequent rules of kit `s`. A reader has to believe this file. Assumes nothing.
use Rattle.std.specs.Prelude.{◌≡◌, ℕ, ◌⊎◌, List, [], ◌∷◌, ◌≢◌}
use Rattle.pltl.specs.Formulas.{Formula, opposite}
use Rattle.pltl.specs.Formulas as f
use Rattle.calculus.specs.Sequents.{◌∈◌}

-- A set by what is in it.
abbrev pub Set : Type 1
Set = Formula → Type 0

-- The set Γ without the formula m.
abbrev pub Without : List Formula → Formula → Set
Without Γ m g = (g ∈ Γ) × (g ≢ m)

-- The set D with one formula more, and with two.
abbrev pub With : Set → Formula → Set
With D a g = D g ⊎ (g ≡ a)

abbrev pub With2 : Set → Formula → Formula → Set
With2 D a b g = D g ⊎ ((g ≡ a) ⊎ (g ≡ b))

-- A premise fits a set when all its formulas are in the set.
abbrev pub Fits : List Formula → Set → Type 0
Fits Δ S = (g : Formula) → g ∈ Δ → S g

-- The alternatives of N are N and, if N is a disjunction, the alternatives of both sides.
pub data Alternative (a : Formula) : Formula → Type 0 where
  whole : Alternative a a
  on_left : {n m : Formula} → Alternative a n → Alternative a (f.Or n m)
  on_right : {n m : Formula} → Alternative a m → Alternative a (f.Or n m)

-- g is an always-formula
abbrev pub IsAlways : Formula → Type 0
IsAlways g = (a : Formula) × (g ≡ f.Always a)

-- N has among its alternatives the opposite of every formula of D that is not an always-formula.
abbrev pub Covers : Formula → Set → Type 0
Covers n D = (g : Formula) → D g → (IsAlways g → ⊥) → Alternative (opposite g) n

-- What the context rules add: any X(NUA), any X((A&N)UB), where N covers D.
abbrev pub SomeAgain : Set → Formula → Set
SomeAgain D a g = D g ⊎ ((n : Formula) × (g ≡ f.Next (f.Until n a)) × Covers n D)

abbrev pub UntilAgain : Set → Formula → Formula → Set
UntilAgain D a b g = D g ⊎ ((g ≡ a) ⊎ ((n : Formula) × (g ≡ f.Next (f.Until (f.And a n) b)) × Covers n D))

-- The rules by number: the conclusion is Γ with m in it, the premises are Δ or Δ and Ε, and D is Γ without m.
pub data Rule (Γ : List Formula) (m : Formula) : ℕ → List (List Formula) → Type 0 where
  contra : m ∈ Γ → opposite m ∈ Γ → Rule Γ m 1 []
  false : m ∈ Γ → m ≡ f.False → Rule Γ m 2 []
  and : {a b : Formula} {Δ : List Formula} → m ∈ Γ → m ≡ f.And a b → Fits Δ (With2 (Without Γ m) a b) → Rule Γ m 3 (Δ ∷ [])
  or : {a b : Formula} {Δ Ε : List Formula} → m ∈ Γ → m ≡ f.Or a b → Fits Δ (With (Without Γ m) a) → Fits Ε (With (Without Γ m) b) → Rule Γ m 4 (Δ ∷ Ε ∷ [])
  always : {a : Formula} {Δ : List Formula} → m ∈ Γ → m ≡ f.Always a → Fits Δ (With2 (Without Γ m) a (f.Next m)) → Rule Γ m 5 (Δ ∷ [])
  some : {a : Formula} {Δ Ε : List Formula} → m ∈ Γ → m ≡ f.Eventually a → Fits Δ (With (Without Γ m) a) → Fits Ε (With (Without Γ m) (f.Next m)) → Rule Γ m 6 (Δ ∷ Ε ∷ [])
  until : {a b : Formula} {Δ Ε : List Formula} → m ∈ Γ → m ≡ f.Until a b → Fits Δ (With (Without Γ m) b) → Fits Ε (With2 (Without Γ m) a (f.Next m)) → Rule Γ m 7 (Δ ∷ Ε ∷ [])
  release : {a b : Formula} {Δ Ε : List Formula} → m ∈ Γ → m ≡ f.Release a b → Fits Δ (With2 (Without Γ m) a b) → Fits Ε (With2 (Without Γ m) b (f.Next m)) → Rule Γ m 8 (Δ ∷ Ε ∷ [])
  some+ : {a : Formula} {Δ Ε : List Formula} → m ∈ Γ → m ≡ f.Eventually a → Fits Δ (With (Without Γ m) a) → Fits Ε (SomeAgain (Without Γ m) a) → Rule Γ m 9 (Δ ∷ Ε ∷ [])
  until+ : {a b : Formula} {Δ Ε : List Formula} → m ∈ Γ → m ≡ f.Until a b → Fits Δ (With (Without Γ m) b) → Fits Ε (UntilAgain (Without Γ m) a b) → Rule Γ m 10 (Δ ∷ Ε ∷ [])
  -- next has no principal formula
  next : {Δ : List Formula} → Fits Δ (λ g. f.Next g ∈ Γ) → Rule Γ m 11 (Δ ∷ [])
