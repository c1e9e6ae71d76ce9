use Rattle.sequents.specs.RulePlans.{until_plan}
use Rattle.sequents.proofs.rooms.Conclusion.until.Goals as goal

pub returns : goal.returns
returns c =
    λ fs conclusion p.
    until_plan fs conclusion c.args.self.m c.args.self.shape c.args.self.d p c.in-Until.a c.in-Until.b c.in-Until.is
    c.with.result c.with-2.result c.with.ensures c.with-2.ensures
    c.of.result c.with_next.result c.of.ensures c.with_next.ensures
