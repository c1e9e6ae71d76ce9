use Rattle.std.proofs.Common.{◌≡◌, sym, ap, ◌∙◌, subst}
use Rattle.pltl.specs.Formulas.{Always}
use Rattle.tables.specs.Numbers.{beside}
use Rattle.tables.specs.Sets.{member}
use Rattle.tables.proofs.Laws.{named_beside}
use Rattle.sequents.specs.Rooms.{Inside}
use Rattle.kits.specs.Steps.{listed}
use Rattle.kits.proofs.InSequents.{in_from_number, member_from_in, table_lawful, table_even}
use Rattle.sequents.specs.ShapesOf.{shape_of}
use Rattle.sequents.proofs.premises.is_covered.Goals as goal

pub returns-in_default-shape : goal.returns-in_default-shape
returns-in_default-shape c =
    let t = c.args.table.now in
    let fs = listed t in
    let s = c.args.alternatives.now in
    let k = c.args.k.0 in
    let h = c.in-Some.ensures in
    let named = named_beside fs (table_lawful t) (table_even t) k h.0 in
    let is : c.contains.result ≡ member s (beside k) = c.contains.ensures ∙ ap (λ n. member s n.0) c.dual.ensures in (
      λ e lt plain. subst (Inside fs s) named.1 (in_from_number fs s (beside k) named.0 (sym is ∙ e)),
      λ all.
          is ∙ member_from_in fs (table_lawful t) s (beside k) named.0
          (subst (Inside fs s) (sym named.1) (all h.0 (λ a. c.in_default-shape.not-Always _ (shape_of fs c.in-Some.shape (Always a.0) (h.1 ∙ a.1))))),
    )
