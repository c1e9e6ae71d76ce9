use Rattle.std.proofs.Common.{◌≡◌, zero, suc, List, [], ◌∷◌, ◌++◌, vec_items, sym, refl, ap, ◌∙◌, subst, arith, rules}
use Rattle.pltl.specs.Formulas as formula
use Rattle.pltl.specs.declared.Shape.{Shape}
use Rattle.pltl.specs.declared.Shape.TheVariants.{True, False}
use Rattle.tables.specs.declared.number.Number.{Number}
use Rattle.tables.specs.Listing.{formulas, PartsFirst, Lawful}
use Rattle.tables.proofs.Laws.{lawful_start}
use Rattle.tables.proofs.table.Table.new.Goals as goal
use Rattle.tables.proofs.table.Table.new.Goals.{After-push_reserved-2}

start : List (Shape Number)
start = True ∷ False ∷ []

start_formulas : formulas start ≡ formula.True ∷ formula.False ∷ []
unfolding start formulas
start_formulas = refl

start_order : PartsFirst start
unfolding start
start_order zero h = refl
start_order (suc zero) h = refl
start_order (suc (suc i)) h = absurd (omega arith)

holds : (c : After-push_reserved-2) → vec_items c.push_reserved-2.new.self ≡ start
unfolding start
holds c =
    c.push_reserved-2.ensures.items
    ∙ ap (λ l. l ++ False ∷ []) (c.push_reserved.ensures.items ∙ ap (λ l. l ++ True ∷ []) c.in_ok-shapes.ensures.items)

pub invariant_of-result : goal.invariant_of-result
invariant_of-result c = record { room = search rules; few = search rules; order = subst PartsFirst (sym (holds c)) start_order; begun = search rules; even = search rules; lawful = ∣ subst (λ l. Lawful (formulas l)) (sym (holds c)) (subst Lawful (sym start_formulas) lawful_start) ∣₁ }

pub returns : goal.returns
returns c = ap formulas (holds (goal.at.returns c).After-push_reserved-2) ∙ start_formulas
