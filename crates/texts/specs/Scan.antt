-- Reading as one pass from left to right: what is pending at each level is kept as a function from the tree
-- that is still to come. `Reading.antt` says what it amounts to. Assumes nothing.
use Rattle.std.specs.Prelude.{ℕ, ◌+◌, cond, List, [], ◌∷◌, length, Ok, Err, Result, ◌==◌, nat_lt}
use Rattle.pltl.specs.Formulas.{Tree, one, zero, letter, not, next, always, eventually, until, release, and, or, implies}
use Rattle.texts.specs.declared.Sign.{Sign}
use Rattle.texts.specs.declared.Sign.TheVariants.{Not, Next, Always, Eventually, Until, Release, And, Or, Minus, Greater, Open, Close, One, Zero, Letter}
use Rattle.texts.specs.declared.faults.TextFault.{TextFault}
use Rattle.texts.specs.declared.faults.TextFault.TheVariants.{Empty, TooLong, Unexpected, Incomplete}
use Rattle.texts.specs.Signs.{sign_of}

abbrev pub Pending : Type 0
Pending = Tree → Tree

abbrev pub nothing : Pending
nothing t = t

-- What is pending inside one pair of brackets, or outside all: left sides of `->`, `|`, `&`, `U` and `R`
-- whose right side is still to come, and one-sided signs.
pub record Frame : Type 0 where
  pub implication : Pending
  pub disjunction : Pending
  pub conjunction : Pending
  pub temporal : Pending
  pub unary : Pending

-- Where the pass is: before a unary, after one, after the minus of `->`, or past all hope. The list has the
-- frames outside the open brackets, the innermost first.
pub data State : Type 0 where
  before : Pending → Pending → Pending → Pending → Pending → List Frame → State
  after : Pending → Pending → Pending → Pending → Tree → List Frame → State
  arrow : Pending → Pending → Pending → Pending → Tree → List Frame → State
  stuck : State

abbrev pub close : Pending → Pending → Pending → Pending → Tree → List Frame → State
close i d c t v [] = stuck
close i d c t v (f ∷ fs) = after f.implication f.disjunction f.conjunction f.temporal (f.unary (i (d (c (t v))))) fs

-- One step of the pass, by the sign that comes next; a sign that is not named leads nowhere.
abbrev pub step_before : Pending → Pending → Pending → Pending → Pending → List Frame → Sign → State
step_before i d c t u fs Not = before i d c t (λ x. u (not x)) fs
step_before i d c t u fs Next = before i d c t (λ x. u (next x)) fs
step_before i d c t u fs Always = before i d c t (λ x. u (always x)) fs
step_before i d c t u fs Eventually = before i d c t (λ x. u (eventually x)) fs
step_before i d c t u fs Open = before nothing nothing nothing nothing nothing (record { implication = i; disjunction = d; conjunction = c; temporal = t; unary = u } ∷ fs)
step_before i d c t u fs One = after i d c t (u one) fs
step_before i d c t u fs Zero = after i d c t (u zero) fs
step_before i d c t u fs (Letter k) = after i d c t (u (letter k)) fs
step_before i d c t u fs _ = stuck

abbrev pub step_after : Pending → Pending → Pending → Pending → Tree → List Frame → Sign → State
step_after i d c t v fs Until = before i d c (λ x. t (until v x)) nothing fs
step_after i d c t v fs Release = before i d c (λ x. t (release v x)) nothing fs
step_after i d c t v fs And = before i d (λ x. c (and (t v) x)) nothing nothing fs
step_after i d c t v fs Or = before i (λ x. d (or (c (t v)) x)) nothing nothing nothing fs
step_after i d c t v fs Minus = arrow i d c t v fs
step_after i d c t v fs Close = close i d c t v fs
step_after i d c t v fs _ = stuck

abbrev pub step_arrow : Pending → Pending → Pending → Pending → Tree → List Frame → Sign → State
step_arrow i d c t v fs Greater = before (λ x. i (implies (d (c (t v))) x)) nothing nothing nothing nothing fs
step_arrow i d c t v fs _ = stuck

unfoldable pub step : State → ℕ → State
step (before i d c t u fs) b = step_before i d c t u fs (sign_of b)
step (after i d c t v fs) b = step_after i d c t v fs (sign_of b)
step (arrow i d c t v fs) b = step_arrow i d c t v fs (sign_of b)
step stuck b = stuck

-- The outcome where the text ends, at offset n.
abbrev pub ended : ℕ → State → Result Tree TextFault
ended n (before i d c t u fs) = Err (Incomplete n)
ended n (after i d c t v []) = Ok (i (d (c (t v))))
ended n (after i d c t v (f ∷ fs)) = Err (Incomplete n)
ended n (arrow i d c t v fs) = Err (Incomplete n)
ended n stuck = Err (Incomplete n)

-- The outcome r of the rest, unless the byte at offset n has led nowhere.
abbrev pub unless_stuck : ℕ → State → Result Tree TextFault → Result Tree TextFault
unless_stuck n (before i d c t u fs) r = r
unless_stuck n (after i d c t v fs) r = r
unless_stuck n (arrow i d c t v fs) r = r
unless_stuck n stuck r = Err (Unexpected n)

-- The outcome of the bytes w, which begin at offset n, from a state.
unfoldable pub scan : ℕ → State → List ℕ → Result Tree TextFault
scan n s [] = ended n s
scan n s (b ∷ w) = unless_stuck n (step s b) (scan (n + 1) (step s b) w)

abbrev pub start : State
start = before nothing nothing nothing nothing nothing []

unfoldable pub reading : List ℕ → Result Tree TextFault
reading w = cond (length w == 0) (Err Empty) (cond (nat_lt 512 (length w)) (Err TooLong) (scan 0 start w))
