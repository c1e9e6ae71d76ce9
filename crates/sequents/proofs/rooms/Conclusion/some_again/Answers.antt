use Rattle.std.proofs.Common.{refl}
use Rattle.sequents.specs.RulePlans.{some+_plan}
use Rattle.sequents.proofs.rooms.Conclusion.some_again.Goals as goal

pub returns : goal.returns
returns c =
    λ fs conclusion p.
    some+_plan fs conclusion c.args.self.m c.args.self.shape c.args.self.d p c.in-Eventually.a c.in-Eventually.is
    c.with.result c.with.ensures
    c.of.result _ c.of.ensures refl
