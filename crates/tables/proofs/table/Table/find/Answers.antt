use Rattle.std.proofs.Common.{◌≡◌, ◌%◌, Some, None, vec_items, subst, ap, ◌∙◌, arith, rules}
use Rattle.std.proofs.lemmas.Iterator.{IsFirst-from_position, YieldsList-from_slice}
use Rattle.pltl.specs.declared.Shape.TheVariants.{True}
use Rattle.tables.specs.Listing.{formula_over, formulas}
use Rattle.tables.proofs.Laws.{lawful_from}
use Rattle.tables.proofs.Listed.{length_formulas, formula_of_number, not_listed}
use Rattle.tables.proofs.table.Table.find.Goals as goal

pub returns-in_err-place : goal.returns-in_err-place
returns-in_err-place c =
    let t = c.args.self.now in
    let ss = vec_items t.shapes in
    let s = c.args.shape in
    let none = IsFirst-from_position _ _ None (λ x. x ≡ s) (λ x. x ≡ s → ⊥) c.in_err-place.ensures.ran (YieldsList-from_slice ss cc) (λ x q h. search rules) (λ x q h. search rules) in
    rw c.from_residual.ensures
    (not_listed ss s (lawful_from t.lawful) (subst (λ n. n % 2 ≡ 0) t.shapes.ok.0 t.even) t.order c.requires (λ k lt. none k True (omega arith) lt))

pub returns : goal.returns
returns c =
    let ss = vec_items c.args.self.now.shapes in
    let s = c.args.shape in
    let i = c.in_ok-place.place in
    let first = IsFirst-from_position _ _ (Some i) (λ x. x ≡ s) (λ x. x ≡ s → ⊥) c.in_ok-place.ensures.ran (YieldsList-from_slice ss cc) (λ x q h. search rules) (λ x q h. search rules) in
    (omega (arith, length_formulas ss, first.0), formula_of_number ss i c.args.self.now.order first.0 ∙ ap (formula_over (formulas ss)) (first.1 True))
