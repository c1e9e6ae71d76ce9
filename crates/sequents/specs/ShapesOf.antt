-- The shape of a formula, read off the formula: so a shape of another sign is none of it. Assumes nothing.
use Rattle.std.specs.Prelude.{◌≡◌, ℕ, ◌<◌, cond, List, length, ◌==◌, ◌≢◌, refl}
use Rattle.std.proofs.Common.{sym, ap, ◌∙◌, ⊎_elim}
use Rattle.std.proofs.lemmas.List.{get_or_past}
use Rattle.std.proofs.lemmas.Bool.{cases_lt}
use Rattle.pltl.specs.Formulas.{Formula}
use Rattle.pltl.specs.Formulas as f
use Rattle.pltl.specs.declared.Shape.{Shape}
use Rattle.pltl.specs.declared.Shape.TheVariants.{True, False, Letter, NotLetter, Next, Always, Eventually, Until, Release, And, Or}
use Rattle.tables.specs.declared.number.Number.{Number}
use Rattle.tables.specs.Listing.{numbered, formula_over}

-- the outermost sign, by number
abbrev pub kind : Formula → ℕ
kind f.True = 0
kind f.False = 1
kind (f.Is p) = 2
kind (f.Isn't p) = 3
kind (f.Next a) = 4
kind (f.Always a) = 5
kind (f.Eventually a) = 6
kind (f.Until a b) = 7
kind (f.Release a b) = 8
kind (f.And a b) = 9
kind (f.Or a b) = 10

abbrev none : Number
none = record { 0 = 0 }

abbrev pub left : Shape Number → Number
left True = none
left False = none
left (Letter p) = none
left (NotLetter p) = none
left (Next a) = a
left (Always a) = a
left (Eventually a) = a
left (Until a b) = a
left (Release a b) = a
left (And a b) = a
left (Or a b) = a

abbrev pub right : Shape Number → Number
right True = none
right False = none
right (Letter p) = none
right (NotLetter p) = none
right (Next a) = a
right (Always a) = a
right (Eventually a) = a
right (Until a b) = b
right (Release a b) = b
right (And a b) = b
right (Or a b) = b

-- the shape with a sign over the parts of a shape; the shape itself for letters and true
abbrev pub made : Shape Number → ℕ → Shape Number
made s k =
    cond (k == 1) False
    (cond (k == 4) (Next (left s))
    (cond (k == 5) (Always (left s))
    (cond (k == 6) (Eventually (left s))
    (cond (k == 7) (Until (left s) (right s))
    (cond (k == 8) (Release (left s) (right s))
    (cond (k == 9) (And (left s) (right s))
    (cond (k == 10) (Or (left s) (right s)) s)))))))

made_again : (fs : List Formula) (s : Shape Number) → s ≡ made s (kind (formula_over fs s))
made_again fs True = refl
made_again fs False = refl
made_again fs (Letter p) = refl
made_again fs (NotLetter p) = refl
made_again fs (Next a) = refl
made_again fs (Always a) = refl
made_again fs (Eventually a) = refl
made_again fs (Until a b) = refl
made_again fs (Release a b) = refl
made_again fs (And a b) = refl
made_again fs (Or a b) = refl

-- the shape of a formula has the formula's sign
pub shape_of : (fs : List Formula) (s : Shape Number) (g : Formula) → formula_over fs s ≡ g → s ≡ made s (kind g)
shape_of fs s g e = made_again fs s ∙ ap (λ h. made s (kind h)) e

-- the number of a formula that is not true is in use
pub named_inside : (fs : List Formula) (k : ℕ) (g : Formula) → (kind g ≢ 0) → numbered fs k ≡ g → k < length fs
named_inside fs k g differs e =
    ⊎_elim
    (λ lt. lt)
    (λ ge. absurd (differs (sym (ap kind (sym (get_or_past fs k f.True ge) ∙ e)))))
    (cases_lt k (length fs))
