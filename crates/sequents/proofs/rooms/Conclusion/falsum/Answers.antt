use Rattle.sequents.specs.RulePlans.{false_plan}
use Rattle.sequents.proofs.rooms.Conclusion.falsum.Goals as goal

pub returns-in-False : goal.returns-in-False
returns-in-False c = λ fs conclusion p. false_plan fs conclusion c.args.self.m c.args.self.shape c.args.self.d p c.in-False.is
