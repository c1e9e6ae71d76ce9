use Rattle.sequents.specs.RulePlans.{or_plan}
use Rattle.sequents.proofs.rooms.Conclusion.or.Goals as goal

pub returns : goal.returns
returns c =
    λ fs conclusion p.
    or_plan fs conclusion c.args.self.m c.args.self.shape c.args.self.d p c.in-Or.a c.in-Or.b c.in-Or.is
    c.with.result c.with-2.result c.with.ensures c.with-2.ensures
    c.of.result c.of-2.result c.of.ensures c.of-2.ensures
