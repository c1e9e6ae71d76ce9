use Rattle.sequents.specs.RulePlans.{some_plan}
use Rattle.sequents.proofs.rooms.Conclusion.some.Goals as goal

pub returns : goal.returns
returns c =
    λ fs conclusion p.
    some_plan fs conclusion c.args.self.m c.args.self.shape c.args.self.d p c.in-Eventually.a c.in-Eventually.is
    c.with.result c.with.ensures
    c.of.result c.with_next.result c.of.ensures c.with_next.ensures
