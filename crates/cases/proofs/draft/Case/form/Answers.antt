use Rattle.std.proofs.Common.{vec_items}
use Rattle.tables.proofs.Growth.{length_grown}
use Rattle.cases.specs.Roots.{plain}
use Rattle.cases.proofs.Inside.{all_below_more}
use Rattle.cases.specs.Views.{stepped_model}
use Rattle.cases.proofs.Goods.{good_from, good_grown}
use Rattle.cases.proofs.draft.Case.form.Goals as goal

pub invariant_of-self : goal.invariant_of-self
invariant_of-self g c =
    let t = c.args.self.now in
    record { room = t.room; few = t.few; inside = all_below_more (plain (vec_items t.roots.numbers)) _ _ (length_grown c.enter.ensures.grown) t.inside; good = ∣ good_grown (stepped_model t) _ c.enter.ensures.grown (good_from t.good) ∣₁ }
