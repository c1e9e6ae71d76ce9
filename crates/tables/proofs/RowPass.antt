-- One pass over the numbers: the row of the next number, from the rows before it. Assumes nothing.
use Rattle.std.proofs.Common.{◌≡◌, ℕ, ◌+◌, ◌<◌, ltb, List, length, get_or, set, sym, ap, ◌∙◌, subst, ⊎_elim, arith}
use Rattle.std.proofs.lemmas.List.{get_or-set_same, get_or-set_other}
use Rattle.std.proofs.lemmas.Bool.{cases_lt, ltb-true}
use Rattle.pltl.specs.Runs.{Run}
use Rattle.pltl.specs.Shapes.{Each}
use Rattle.pltl.specs.declared.Shape.{Shape}
use Rattle.pltl.specs.declared.Shape.TheVariants.{True}
use Rattle.pltl.proofs.Tests.{each_from_test}
use Rattle.tables.specs.declared.number.Number.{Number}
use Rattle.tables.specs.Listing.{numbered, formula_over, formulas, PartsFirst}
use Rattle.tables.specs.Rows.{RowOf}
use Rattle.tables.proofs.Listed.{formula_of_number}

module _ (ss : List (Shape Number)) (order : PartsFirst ss) (words : List ℕ) (i w : ℕ) (inside : i < length ss) (room : i < length words)
    (r : Run) (before : (k : ℕ) → k < i → RowOf r (numbered (formulas ss) k) (get_or words k 0)) (s : Shape Number) (is : s ≡ get_or ss i True)
    (here : Each (λ n. RowOf r (numbered (formulas ss) n.0) (get_or words n.0 0)) s → RowOf r (formula_over (formulas ss) s) w) where
  row_here : RowOf r (numbered (formulas ss) i) w
  row_here =
      let parts = each_from_test (λ n. ltb n.0 i) (λ n. RowOf r (numbered (formulas ss) n.0) (get_or words n.0 0)) (λ n t. before n.0 (ltb-true n.0 i t)) (get_or ss i True) (order i inside) in
      let row = here (subst (Each (λ n. RowOf r (numbered (formulas ss) n.0) (get_or words n.0 0))) (sym is) parts) in
      subst (λ f. RowOf r f w) (ap (formula_over (formulas ss)) is ∙ sym (formula_of_number ss i order inside)) row

  pub row_added : (next : List ℕ) → next ≡ set words i w → (k : ℕ) → k < i + 1 → RowOf r (numbered (formulas ss) k) (get_or next k 0)
  row_added next changed k lt =
      ⊎_elim
      (λ l. subst (RowOf r (numbered (formulas ss) k)) (sym (ap (λ v. get_or v k 0) changed ∙ get_or-set_other words i k w 0 (omega arith))) (before k l))
      (λ g.
      let e : i ≡ k = omega arith in
      subst (λ j. RowOf r (numbered (formulas ss) j) (get_or next j 0)) e
      (subst (RowOf r (numbered (formulas ss) i)) (sym (ap (λ v. get_or v i 0) changed ∙ get_or-set_same words i w 0 room)) row_here))
      (cases_lt k i)
