use Rattle.std.proofs.Common.{◌≡◌, cond, sym, ◌∙◌, subst}
use Rattle.std.proofs.lemmas.Bool.{cond-true, cond-false}
use Rattle.cases.specs.Recordings.{is_closed}
use Rattle.std.specs.List.{list_any}
use Rattle.cases.specs.Verdicts.{only_roots, verdict, Means}
use Rattle.cases.specs.Views.{stepped_model}
use Rattle.cases.proofs.Goods.{good_from}
use Rattle.cases.proofs.Meant.{good_means}
use Rattle.cases.proofs.draft.Case.verdict.Goals as goal

pub returns-then-has_refuted_roots : goal.returns-then-has_refuted_roots
returns-then-has_refuted_roots g c =
    let s = stepped_model c.args.self.now in
    let m = s.case in
    let is : 1 ≡ verdict s = sym (cond-true (list_any (only_roots m) s.steps) 1 (cond (is_closed m.run.back) 2 0) (sym c.if-has_refuted_roots.ensures)) in
    record { value = is; means = subst (Means m) (sym is) (good_means s (good_from c.args.self.now.good)) }

pub returns-then-is_closed : goal.returns-then-is_closed
returns-then-is_closed g c =
    let s = stepped_model c.args.self.now in
    let m = s.case in
    let is : 2 ≡ verdict s = sym (cond-false (list_any (only_roots m) s.steps) 1 (cond (is_closed m.run.back) 2 0) (sym c.if-has_refuted_roots.ensures) ∙ cond-true (is_closed m.run.back) 2 0 (sym c.if-is_closed.ensures)) in
    record { value = is; means = subst (Means m) (sym is) (good_means s (good_from c.args.self.now.good)) }
