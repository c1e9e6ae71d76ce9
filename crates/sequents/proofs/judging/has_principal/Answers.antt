use Rattle.std.proofs.Common.{map, sym, ◌∙◌}
use Rattle.std.proofs.lemmas.Bool.{both_ways, false≢true}
use Rattle.sequents.specs.Rooms.{Principal}
use Rattle.kits.specs.Steps.{listed, formulas_in}
use Rattle.sequents.specs.AllowedSteps.{principal_in}
use Rattle.kits.proofs.InSequents.{member_from_in, table_lawful, table_even}
use Rattle.sequents.proofs.RuleNumbers.{not_eleven}
use Rattle.sequents.proofs.judging.has_principal.Goals as goal
use Rattle.sequents.proofs.judging.has_principal.Goals.{After-plan}

pub returns-then-not-contains : goal.returns-then-not-contains
returns-then-not-contains c =
    let t = c.args.table.now in
    let fs = listed t in
    let st = c.args.step.now in (
      λ z. absurd (false≢true z),
      λ s. absurd (both_ways _ c.if-not-contains.true (c.contains.ensures ∙ member_from_in fs (table_lawful t) st.conclusion st.principal s.0 (principal_in s.1 (not_eleven c.args.rule c.requires)))),
    )

-- the number of the principal formula, its shape and the rest
principal : (c : After-plan) → Principal (listed c.args.table.now) c.args.step.now.conclusion (record { 0 = c.args.step.now.principal }) c.in-Some.shape c.without-d.result
principal c =
    let t = c.args.table.now in
    let h = c.in-Some.ensures in
    record {
      lawful = table_lawful t;
      even = table_even t;
      inside = h.0;
      here = sym c.contains.ensures ∙ c.if-not-contains.false;
      is = h.1;
      parts = h.2;
      without = c.without-d.ensures;
    }

pub returns-in_default-plan : goal.returns-in_default-plan
returns-in_default-plan c =
    let fs = listed c.args.table.now in (
      λ z. absurd (false≢true z),
      λ s. absurd (c.in_default-plan.ensures fs c.args.step.now.conclusion (principal (goal.at.returns-in_default-plan c).After-plan) (map (formulas_in fs) c.args.premises.now) s.1),
    )

pub fit-requires : goal.fit-requires
fit-requires c = (c.in-Some-plan.ensures (listed c.args.table.now) c.args.step.now.conclusion (principal (goal.at.fit-requires c).After-plan)).0

pub returns : goal.returns
returns c =
    let fs = listed c.args.table.now in
    let h = (c.in-Some-plan.ensures fs c.args.step.now.conclusion (principal (goal.at.returns c).After-plan)).1 (map (formulas_in fs) c.args.premises.now) in (
      λ e. (c.in-Some.ensures.0, h.1 (c.fit.ensures.0 e)),
      λ s. c.fit.ensures.1 (h.0 s.1),
    )
