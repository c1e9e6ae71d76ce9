use Rattle.std.proofs.Common.{◌≡◌, ◌<◌, true, length, sym, ap, ◌∙◌, subst, arith}
use Rattle.std.proofs.lemmas.Bool.{ltb-true, eq-eqb, eqb-true}
use Rattle.pltl.specs.Formulas.{Next}
use Rattle.calculus.proofs.Decided.{parts}
use Rattle.tables.specs.Listing.{numbered}
use Rattle.sequents.specs.Rooms.{Added, more_inside}
use Rattle.kits.specs.Steps.{listed}
use Rattle.kits.proofs.InSequents.{table_lawful}
use Rattle.sequents.proofs.premises.Context.is_added.Goals as goal

pub returns-in-NextOf : goal.returns-in-NextOf
returns-in-NextOf c =
    let t = c.args.self.table.now in
    let fs = listed t in
    let d = c.args.self.d.now in
    let k = c.args.k.0 in
    let a = c.in-Next.next in
    let m = c.in-NextOf.m in
    let h = rw c.in-Next.is at c.in-Some.ensures in
    let low : a.0 < k = ltb-true a.0 k h.2 in
    let inside : m.0 < length fs = ltb-true m.0 (length fs) (subst (λ x. more_inside fs x ≡ true) c.in-NextOf.is c.requires) in (
      λ e lt. subst (λ x. Added fs d x (numbered fs k)) (sym c.in-NextOf.is) (sym h.1 ∙ ap (λ n. Next (numbered fs n)) (eqb-true _ _ (sym c.eq.ensures ∙ e))),
      λ added.
          let e : numbered fs k ≡ Next (numbered fs m.0) = subst (λ x. Added fs d x (numbered fs k)) c.in-NextOf.is (added h.0) in
          c.eq.ensures ∙ eq-eqb _ _ ((table_lawful t).once a.0 m.0 (omega (arith, h.0)) inside (ap (λ g. (parts g).0) (h.1 ∙ e))),
    )
