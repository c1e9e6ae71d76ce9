use Rattle.sequents.specs.RulePlans.{and_plan}
use Rattle.sequents.proofs.rooms.Conclusion.and.Goals as goal

pub returns : goal.returns
returns c =
    λ fs conclusion p.
    and_plan fs conclusion c.args.self.m c.args.self.shape c.args.self.d p c.in-And.a c.in-And.b c.in-And.is
    c.with.result c.with-2.result c.with.ensures c.with-2.ensures
    c.of.result c.of.ensures
