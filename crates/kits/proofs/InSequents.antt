-- The formulas of a sequent, by number, and the laws of a table's formulas. Assumes nothing.
use Rattle.std.proofs.Common.{◌≡◌, ℕ, zero, suc, ◌+◌, ◌%◌, ◌<◌, ◌≤◌, Bool, true, false, cond, List, [], ◌∷◌, length, vec_items, sym, refl, ◌∙◌, subst, inl, inr, add-one, arith}
use Rattle.std.proofs.lemmas.Bool.{ltb-true, and_parts}
use Rattle.pltl.specs.Formulas.{Formula}
use Rattle.calculus.specs.Sequents.{◌∈◌}
use Rattle.tables.specs.declared.table.Table.{Table}
use Rattle.tables.specs.declared.sequent.Sequent.{Sequent}
use Rattle.tables.specs.Listing.{numbered, Lawful}
use Rattle.tables.specs.Sets.{member, chosen}
use Rattle.tables.proofs.Laws.{lawful_from}
use Rattle.tables.proofs.Listed.{length_formulas}
use Rattle.kits.specs.Steps.{listed, formulas_in}

-- a formula of a list is in the list with one more in front, or as it is
kept_in : (b : Bool) (g f : Formula) (cs : List Formula) → g ∈ cs → g ∈ cond b (f ∷ cs) cs
kept_in true g f cs i = inr i
kept_in false g f cs i = i

in_chosen : (S : ℕ → Bool) (fs : List Formula) (k : ℕ) → k < length fs → S k ≡ true → numbered fs k ∈ chosen S fs
unfolding chosen
in_chosen S [] k lt s = absurd (omega arith)
in_chosen S (f ∷ fs) zero lt s = subst (λ b. f ∈ cond b (f ∷ chosen (λ n. S (n + 1)) fs) (chosen (λ n. S (n + 1)) fs)) (sym s) (inl refl)
in_chosen S (f ∷ fs) (suc k) lt s = kept_in (S 0) _ f _ (in_chosen (λ n. S (n + 1)) fs k (omega arith) (subst (λ m. S m ≡ true) (sym (add-one k)) s))

-- a number of the set names the formula
abbrev Numbers : (ℕ → Bool) → List Formula → Formula → Type 0
Numbers S fs g = (k : ℕ) × (k < length fs) × (S k ≡ true) × (numbered fs k ≡ g)

module _ (S : ℕ → Bool) (f : Formula) (fs : List Formula) (g : Formula) where
  numbers_after : Numbers (λ n. S (n + 1)) fs g → Numbers S (f ∷ fs) g
  numbers_after r = (suc r.0, omega (arith, r.1), subst (λ m. S m ≡ true) (add-one r.0) r.2, r.3)

  numbers_front : (b : Bool) → S 0 ≡ b → (cs : List Formula) → (g ∈ cs → Numbers (λ n. S (n + 1)) fs g) → g ∈ cond b (f ∷ cs) cs → Numbers S (f ∷ fs) g
  numbers_front true e cs h (inl i) = (0, omega arith, e, sym i)
  numbers_front true e cs h (inr i) = numbers_after (h i)
  numbers_front false e cs h i = numbers_after (h i)

number_of_chosen : (S : ℕ → Bool) (fs : List Formula) (g : Formula) → g ∈ chosen S fs → Numbers S fs g
unfolding chosen
number_of_chosen S [] g i = absurd i
number_of_chosen S (f ∷ fs) g i = numbers_front S f fs g (S 0) refl _ (number_of_chosen (λ n. S (n + 1)) fs g) i

-- the formula of a number of a sequent is in it
pub in_from_number : (fs : List Formula) (s : Sequent) (k : ℕ) → k < length fs → member s k ≡ true → numbered fs k ∈ formulas_in fs s
in_from_number fs s = in_chosen (member s) fs

-- a formula of a sequent has a number in it
pub number_from_in : (fs : List Formula) (s : Sequent) (g : Formula) → g ∈ formulas_in fs s → (k : ℕ) × (k < length fs) × (member s k ≡ true) × (numbered fs k ≡ g)
number_from_in fs s = number_of_chosen (member s) fs

-- a formula of a sequent has all its numbers in it
pub member_from_in : (fs : List Formula) → Lawful fs → (s : Sequent) (k : ℕ) → k < length fs → numbered fs k ∈ formulas_in fs s → member s k ≡ true
member_from_in fs law s k lt i =
    let r = number_from_in fs s (numbered fs k) i in
    subst (λ j. member s j ≡ true) (law.once r.0 k r.1 lt r.3) r.2

-- only numbers below 512 are in a sequent
pub member_few : (s : Sequent) (k : ℕ) → member s k ≡ true → k < 512
unfolding member
member_few s k e = ltb-true k 512 (and_parts _ _ e).0

-- the laws of a table's formulas
pub table_lawful : (t : Table) → Lawful (listed t)
table_lawful t = lawful_from t.lawful

pub table_even : (t : Table) → length (listed t) % 2 ≡ 0
table_even t = subst (λ n. n % 2 ≡ 0) (t.shapes.ok.0 ∙ sym (length_formulas (vec_items t.shapes))) t.even

pub table_few : (t : Table) → length (listed t) ≤ 512
table_few t = omega (arith, t.few, t.shapes.ok.0, length_formulas (vec_items t.shapes))

pub table_begun : (t : Table) → 2 ≤ length (listed t)
table_begun t = omega (arith, t.begun, t.shapes.ok.0, length_formulas (vec_items t.shapes))
