use Rattle.std.proofs.Common.{Err, sym, ap, ◌∙◌}
use Rattle.std.proofs.lemmas.Result.{err_from_is_err_and}
use Rattle.cases.specs.Drafts.{clause, after_clause, clause_of, after_clause_of}
use Rattle.cases.specs.declared.faults.CallFault.TheVariants.{Case}
use Rattle.cases.specs.Results.{call_number}
use Rattle.cases.specs.Views.{draft_model}
use Rattle.cases.proofs.draft.Draft.clause.Goals as goal

pub returns-in_err-kind-clause-value : goal.returns-in_err-kind-clause-value
unfolding clause
returns-in_err-kind-clause-value g c =
    let p = err_from_is_err_and c.from_residual.result c.from_residual.ensures.1 in
    ap call_number p.1 ∙ ap Err p.2 ∙ ap (λ f. Err (Case f)) c.in_err-kind.ensures.1 ∙ ap (λ k. clause_of (draft_model c.args.self.now) k c.args.text.now) (sym c.in_err-kind.ensures.0)

pub returns-in_err-kind-clause-after : goal.returns-in_err-kind-clause-after
unfolding after_clause
returns-in_err-kind-clause-after g c = ap (λ k. after_clause_of (draft_model c.args.self.now) k c.args.text.now) (sym c.in_err-kind.ensures.0)

pub returns-clause-value : goal.returns-clause-value
unfolding clause
returns-clause-value g c = let d = draft_model c.args.self.now in c.add.ensures.value ∙ ap (λ k. clause_of d k c.args.text.now) (sym c.in_ok-kind.ensures)

pub returns-clause-after : goal.returns-clause-after
unfolding after_clause
returns-clause-after g c = let d = draft_model c.args.self.now in c.add.ensures.after ∙ ap (λ k. after_clause_of d k c.args.text.now) (sym c.in_ok-kind.ensures)
