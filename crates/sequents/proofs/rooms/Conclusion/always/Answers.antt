use Rattle.sequents.specs.RulePlans.{always_plan}
use Rattle.sequents.proofs.rooms.Conclusion.always.Goals as goal

pub returns : goal.returns
returns c =
    λ fs conclusion p.
    always_plan fs conclusion c.args.self.m c.args.self.shape c.args.self.d p c.in-Always.a c.in-Always.is
    c.with.result c.with.ensures
    c.with_next.result c.with_next.ensures
