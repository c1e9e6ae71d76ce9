use Rattle.std.proofs.Common.{refl}
use Rattle.sequents.specs.RulePlans.{until+_plan}
use Rattle.sequents.proofs.rooms.Conclusion.until_again.Goals as goal

pub returns : goal.returns
returns c =
    λ fs conclusion p.
    until+_plan fs conclusion c.args.self.m c.args.self.shape c.args.self.d p c.in-Until.a c.in-Until.b c.in-Until.is
    c.with.result c.with-2.result c.with.ensures c.with-2.ensures
    c.of.result _ c.of.ensures refl
