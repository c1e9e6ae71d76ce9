use Rattle.std.proofs.Common.{◌<◌, sym, ap, ◌∙◌, subst, inl, inr, ⊎_elim, arith}
use Rattle.std.proofs.lemmas.Bool.{ltb-true}
use Rattle.pltl.specs.Formulas.{Next}
use Rattle.calculus.proofs.Decided.{parts}
use Rattle.sequents.specs.Rooms.{Inside}
use Rattle.kits.specs.Steps.{listed}
use Rattle.kits.proofs.InSequents.{table_few}
use Rattle.sequents.specs.RoomSets.{with_from, with_kept, with_new}
use Rattle.sequents.proofs.premises.with_next.Goals as goal

pub returns-in-Some-Next : goal.returns-in-Some-Next
returns-in-Some-Next c =
    let t = c.args.table.now in
    let fs = listed t in
    let k = c.args.k.0 in
    let a = c.in-Some-Next.a in
    let h = rw c.in-Some-Next.field-0-is at c.in-Some-Next.ensures in
    let few = table_few t in
    let low : a.0 < k = ltb-true a.0 k h.2 in
    λ g. (
      λ i. ⊎_elim inl (λ e. inr (h.0, sym h.1 ∙ ap Next (sym e))) (with_from fs c.args.found c.with.result a c.with.ensures g i),
      ⊎_elim
          (with_kept fs c.args.found c.with.result a c.with.ensures g)
          (λ n. subst (Inside fs c.with.result) (ap (λ x. (parts x).0) (h.1 ∙ n.1))
          (with_new fs c.args.found c.with.result a c.with.ensures (omega (arith, h.0)) (omega (arith, h.0)))),
    )
