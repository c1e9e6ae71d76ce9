use Rattle.std.proofs.Common.{◌<◌, ltb, length, ap, ◌∙◌, arith}
use Rattle.std.proofs.lemmas.Bool.{both_ways, ltb-true, and_parts, eq-eqb}
use Rattle.calculus.proofs.Decided.{parts}
use Rattle.kits.specs.Steps.{listed}
use Rattle.kits.proofs.InSequents.{table_lawful}
use Rattle.sequents.proofs.premises.Context.is_until_again.Goals as goal

pub returns-else-eq : goal.returns-else-eq
returns-else-eq c =
    let t = c.args.self.table.now in
    let fs = listed t in
    let k = c.args.k.0 in
    let x = c.in-Some-Until.both in
    let y = c.in-Some-Until.goal in
    let h = rw c.in-Some-Until.field-0-is at c.in-Some-Until.ensures in
    let low = and_parts (ltb x.0 k) (ltb y.0 k) h.2 in
    let low_one : y.0 < k = ltb-true y.0 k low.1 in
    let inside : y.0 < length fs = omega (arith, h.0) in (
      λ e. absurd (both_ways _ c.if-eq.false e),
      λ s. c.eq.ensures ∙ eq-eqb _ _ ((table_lawful t).once y.0 c.args.b.0 inside c.requires.1.1 (ap (λ g. (parts g).1) (h.1 ∙ s.1))),
    )
