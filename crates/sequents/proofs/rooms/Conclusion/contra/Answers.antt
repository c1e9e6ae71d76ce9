use Rattle.std.proofs.Common.{sym, ap, ◌∙◌}
use Rattle.tables.specs.Sets.{member}
use Rattle.sequents.specs.RulePlans.{contra_plan, contra_none}
use Rattle.sequents.proofs.rooms.Conclusion.contra.Goals as goal

pub returns-then-contains : goal.returns-then-contains
returns-then-contains c =
    λ fs conclusion p.
    contra_plan fs conclusion c.args.self.m c.args.self.shape c.args.self.d p
    (ap (λ n. member c.args.self.d n.0) (sym c.dual.ensures) ∙ sym c.contains.ensures ∙ c.if-contains.true)

pub returns-else-contains : goal.returns-else-contains
returns-else-contains c =
    λ fs conclusion p.
    contra_none fs conclusion c.args.self.m c.args.self.shape c.args.self.d p
    (ap (λ n. member c.args.self.d n.0) (sym c.dual.ensures) ∙ sym c.contains.ensures ∙ c.if-contains.false)
