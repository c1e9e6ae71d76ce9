use Rattle.std.proofs.Common.{sym, refl, subst}
use Rattle.cases.specs.Good.{Good}
use Rattle.cases.specs.Steps.{with_case}
use Rattle.cases.specs.Views.{case_model, stepped_model}
use Rattle.cases.proofs.Goods.{good_from, good_loop}
use Rattle.cases.proofs.Looped.{loop_taken, loop_refused, taken_means, refused_means}
use Rattle.cases.proofs.draft.Case.close_loop.Goals as goal

pub returns-in-Some : goal.returns-in-Some
returns-in-Some g c =
    let m = case_model c.args.self.now in
    let found = c.in-Some.ensures in
    let a = loop_refused m c.args.back c.in_ok-count.count c.in-Some.number c.in_ok-count.ensures.value found in
    record { value = a.0; after = a.1; means = λ u p q. refused_means m c.args.back u p q c.in-Some.number (sym found); steps = refl; kit = refl }

pub invariant_of-self : goal.invariant_of-self
invariant_of-self g c =
    let t = c.args.self.now in
    let m = case_model t in
    let none = c.in_default.ensures in
    let a = loop_taken m c.args.back c.in_ok-count.count _ c.in_ok-count.ensures.value c.in_ok-count.ensures.after none in
    record { room = t.room; few = t.few; inside = t.inside; good = ∣ subst (λ n. Good (with_case (stepped_model t) n)) (sym a.1) (good_loop (stepped_model t) c.args.back (good_from t.good)) ∣₁ }

pub returns : goal.returns
returns g c =
    let m = case_model c.args.self.now in
    let none = c.in_default.ensures in
    let a = loop_taken m c.args.back c.in_ok-count.count _ c.in_ok-count.ensures.value c.in_ok-count.ensures.after none in
    record { value = a.0; after = a.1; means = λ u p q. taken_means m c.args.back u p q c.in_ok-count.count (sym none); steps = refl; kit = refl }
