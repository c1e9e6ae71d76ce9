use Rattle.std.proofs.Common.{vec_items, sym, refl, ap, ◌∙◌, subst, arith}
use Rattle.std.proofs.lemmas.List.{length-map}
use Rattle.tables.specs.Sets.{member}
use Rattle.cases.specs.Good.{Good}
use Rattle.cases.specs.Promise.{KitLaw}
use Rattle.cases.specs.Roots.{contains}
use Rattle.cases.specs.Steps.{changed_unless, with_step}
use Rattle.cases.specs.Views.{stepped_model, kit_model, step_call_model}
use Rattle.cases.proofs.Goods.{good_from, good_step}
use Rattle.cases.proofs.Admitted.{step_admitted}
use Rattle.cases.proofs.HandedSteps.{with_pushed}
use Rattle.cases.proofs.draft.Case.step.Goals as goal

pub invariant_of-self : goal.invariant_of-self
invariant_of-self g c =
    let m = stepped_model c.args.self.now in
    let s = step_call_model c.args.step in
    let kit = c.args.self.now.kit in
    let k = kit_model g.K.Kit.knows g.K.Kit.allows kit in
    let steps = c.args.self.now.steps in
    let told = c.in_ok-conclusion.ensures in
    let taken = step_admitted k m s told.0 in
    let law : KitLaw k = record { sound = g.met.K.Kit.sound kit; known = g.met.K.Kit.allowed_known kit } in
    let new = with_pushed m (vec_items steps) (vec_items c.push_reserved.new.self) c.in_ok-conclusion.conclusion (contains s.conclusion) refl c.push_reserved.ensures.items told.1 in record { inside = c.args.self.now.inside; room = omega (arith, c.push_reserved.ensures.capacity, c.args.self.now.room); few = omega (arith, c.push_reserved.ensures.len, taken.room, steps.ok.0, length-map (vec_items steps) member); good = ∣ subst Good (ap (λ o. changed_unless o (with_step m (contains s.conclusion)) m) told.0 ∙ sym new) (good_step k law m s (good_from c.args.self.now.good)) ∣₁ }
