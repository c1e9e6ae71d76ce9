use Rattle.std.proofs.Common.{◌<◌, length, sym, ◌∙◌, subst, inl, inr, ⊎_elim, arith}
use Rattle.std.proofs.lemmas.Bool.{true≢false}
use Rattle.pltl.specs.Formulas.{opposite}
use Rattle.pltl.specs.Formulas as f
use Rattle.calculus.specs.Sequents.{◌∈◌}
use Rattle.tables.specs.Listing.{numbered}
use Rattle.kits.specs.Steps.{listed, formulas_in}
use Rattle.kits.proofs.InSequents.{in_from_number, number_from_in, member_from_in, table_lawful, table_begun}
use Rattle.units.proofs.closure.is_contradictory.Goals as goal

pub returns-then-contains : goal.returns-then-contains
returns-then-contains c =
    let t = c.args.table.now in
    let fs = listed t in
    let closed = c.closure-closed.result in
    let second : 1 < length fs = omega (arith, table_begun t) in
    let has : f.False ∈ formulas_in fs closed = subst (λ g. g ∈ formulas_in fs closed) (table_lawful t).false_second (in_from_number fs closed 1 second (sym c.if-contains.ensures)) in
    (λ e. inl ((c.closure-closed.ensures f.False).0 has), λ h. c.if-contains.true)

pub returns-else-contains : goal.returns-else-contains
returns-else-contains c =
    let t = c.args.table.now in
    let fs = listed t in
    let closed = c.closure-closed.result in
    let second : 1 < length fs = omega (arith, table_begun t) in
    let lacks : f.False ∈ formulas_in fs closed → ⊥ =
    λ i. true≢false (sym (member_from_in fs (table_lawful t) closed 1 second (subst (λ g. g ∈ formulas_in fs closed) (sym (table_lawful t).false_second) i)) ∙ sym c.if-contains.ensures)
    in (
      λ e.
          let two = c.has_opposites.ensures.0 e in
          let g = numbered fs two.0 in
          inr (g, (c.closure-closed.ensures g).0 two.2, (c.closure-closed.ensures (opposite g)).0 two.3),
      ⊎_elim
          (λ h. absurd (lacks ((c.closure-closed.ensures f.False).1 h)))
          (λ h.
          let i = (c.closure-closed.ensures h.0).1 h.1 in
          let o = (c.closure-closed.ensures (opposite h.0)).1 h.2 in
          let k = number_from_in fs closed h.0 i in
          c.has_opposites.ensures.1 (
            k.0,
            k.1,
            in_from_number fs closed k.0 k.1 k.2,
            subst (λ g. opposite g ∈ formulas_in fs closed) (sym k.3) o,
          )),
    )
