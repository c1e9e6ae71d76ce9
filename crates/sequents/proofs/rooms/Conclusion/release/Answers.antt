use Rattle.sequents.specs.RulePlans.{release_plan}
use Rattle.sequents.proofs.rooms.Conclusion.release.Goals as goal

pub returns : goal.returns
returns c =
    λ fs conclusion p.
    release_plan fs conclusion c.args.self.m c.args.self.shape c.args.self.d p c.in-Release.a c.in-Release.b c.in-Release.is
    c.with.result c.with-2.result c.with-3.result c.with.ensures c.with-2.ensures c.with-3.ensures
    c.of.result c.with_next.result c.of.ensures c.with_next.ensures
