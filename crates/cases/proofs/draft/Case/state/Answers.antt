use Rattle.std.proofs.Common.{sym, subst}
use Rattle.cases.specs.Good.{Good}
use Rattle.cases.specs.Loops.{with_run}
use Rattle.cases.specs.Steps.{with_case}
use Rattle.cases.specs.Views.{case_model, stepped_model}
use Rattle.cases.proofs.Goods.{good_from, good_state}
use Rattle.cases.proofs.draft.Case.state.Goals as goal

pub invariant_of-self : goal.invariant_of-self
invariant_of-self g c =
    let t = c.args.self.now in
    record { room = t.room; few = t.few; inside = t.inside; good = ∣ subst (λ r. Good (with_case (stepped_model t) (with_run (case_model t) r))) (sym c.record.ensures.after) (good_state (stepped_model t) c.args.letters (good_from t.good)) ∣₁ }
