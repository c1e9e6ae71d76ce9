use Rattle.std.proofs.Common.{◌≡◌, true, eqb, ltb, length, sym, ap, ◌∙◌, subst}
use Rattle.std.proofs.lemmas.Bool.{cond-true, cond-false, eqb-true, eq-eqb, ne_eqb, ltb-true, lt-ltb}
use Rattle.calculus.specs.Rules.{Rule}
use Rattle.tables.specs.Listing.{numbered}
use Rattle.sequents.specs.Numbered.{rule_number}
use Rattle.sequents.specs.SequentRules.{principal_fits}
use Rattle.kits.specs.Steps.{listed, step_model}
use Rattle.sequents.specs.AllowedSteps.{allowed_is, is_allowed, same_tests}
use Rattle.sequents.proofs.RuleNumbers.{not_eleven}
use Rattle.sequents.proofs.judging.is_allowed.Goals as goal

pub returns-then-step-eq0 : goal.returns-then-step-eq0
returns-then-step-eq0 c =
    let fs = listed c.args.table.now in
    let st = c.args.step.now in
    let model = step_model fs st c.args.premises.now in
    let is : st.rule ≡ 11 = c.requires ∙ ap rule_number c.in-Next.is in
    let m = numbered fs st.principal in
    let fits : principal_fits fs st.rule st.principal ≡ true = cond-true (eqb st.rule 11) (eqb st.principal 0) (ltb st.principal (length fs)) (eq-eqb st.rule 11 is) ∙ eq-eqb st.principal 0 c.if-step-eq0.true in
    same_tests _ _
    (λ e. is_allowed fs model fits (subst (λ n. Rule model.conclusion m n model.premises) (sym is) ((c.come_next.ensures m).0 e)))
    (λ a. (c.come_next.ensures m).1 (subst (λ n. Rule model.conclusion m n model.premises) is (allowed_is fs model a).1))

pub returns-else-step-eq0 : goal.returns-else-step-eq0
returns-else-step-eq0 c =
    let fs = listed c.args.table.now in
    let st = c.args.step.now in
    let model = step_model fs st c.args.premises.now in
    let fits = cond-true (eqb st.rule 11) (eqb st.principal 0) (ltb st.principal (length fs)) (eq-eqb st.rule 11 (c.requires ∙ ap rule_number c.in-Next.is)) in
    same_tests _ _
    (λ e. absurd (c.if-step-eq0.false (eqb-true st.principal 0 e)))
    (λ a. sym fits ∙ (allowed_is fs model a).0)

pub returns-in_default : goal.returns-in_default
returns-in_default c =
    let fs = listed c.args.table.now in
    let st = c.args.step.now in
    let model = step_model fs st c.args.premises.now in
    let fits = cond-false (eqb st.rule 11) (eqb st.principal 0) (ltb st.principal (length fs)) (ne_eqb st.rule 11 (λ e. not_eleven c.args.rule c.in_default.not-Next (sym c.requires ∙ e))) in
    same_tests _ _
    (λ e. let h = c.has_principal.ensures.0 e in is_allowed fs model (fits ∙ lt-ltb st.principal (length fs) h.0) (subst (λ n. Rule model.conclusion (numbered fs st.principal) n model.premises) (sym c.requires) h.1))
    (λ a. let h = allowed_is fs model a in c.has_principal.ensures.1 (ltb-true st.principal (length fs) (sym fits ∙ h.0), subst (λ n. Rule model.conclusion (numbered fs st.principal) n model.premises) c.requires h.1))
