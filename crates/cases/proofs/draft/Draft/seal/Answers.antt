use Rattle.std.proofs.Common.{◌≡◌, ◌<◌, true, map, length, vec_items, sym, ap, ◌∙◌, subst, arith}
use Rattle.std.proofs.lemmas.Bool.{cond-true, cond-false}
use Rattle.tables.specs.Listing.{formulas}
use Rattle.tables.specs.Sets.{member}
use Rattle.tables.proofs.Listed.{length_formulas}
use Rattle.cases.specs.Good.{Good}
use Rattle.cases.specs.Drafts.{sealed}
use Rattle.cases.specs.Models.{SteppedModel}
use Rattle.cases.specs.Recordings.{run_model}
use Rattle.cases.specs.Roots.{plain, all_below}
use Rattle.cases.specs.Steps.{without_steps}
use Rattle.cases.specs.Views.{draft_model}
use Rattle.cases.proofs.Goods.{good_sealed}
use Rattle.cases.proofs.draft.Draft.seal.Goals as goal
use Rattle.cases.proofs.draft.Draft.seal.Goals.{then-not-property, else-not-property}

pub invariant_of-result : goal.invariant_of-result
invariant_of-result g c =
    let t = c.args.self in
    let ss = vec_items t.table.shapes in
    let begun : 0 < length (formulas ss) = omega (arith, length_formulas ss, t.table.shapes.ok.0, t.table.begun) in
    let good = good_sealed (draft_model t) begun t.inside in
    let roots : plain (vec_items c.if-not-property.roots.numbers) ≡ (sealed (draft_model t)).roots = elim c.if-not-property.branch [
      | then-not-property w ↦ ap (λ r. plain (vec_items r.numbers)) w.roots-is ∙ w.note.ensures ∙ sym (cond-false t.property _ _ w.if-not-property.true)
      | else-not-property w ↦ ap (λ r. plain (vec_items r.numbers)) w.roots-is ∙ sym (cond-true t.property _ _ w.if-not-property.false)
    ] in
    let same : ◌≡◌ {A = SteppedModel} (record { case = record { formulas = formulas ss; roots = plain (vec_items c.if-not-property.roots.numbers); run = run_model c.new.result }; steps = map member (vec_items t.steps) }) (without_steps (sealed (draft_model t))) = λ i. record { case = record { formulas = formulas ss; roots = roots i; run = c.new.ensures i }; steps = ap (map member) t.none i } in
    record { room = t.room; few = omega (arith, t.steps.ok.0, ap length t.none); inside = subst (λ l. all_below (length (formulas ss)) l ≡ true) (sym roots) good.rooted; good = ∣ subst Good (sym same) good ∣₁ }
