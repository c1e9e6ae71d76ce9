use Rattle.std.proofs.Common.{⊎_elim, arith}
use Rattle.std.proofs.lemmas.Bool.{cases_lt}
use Rattle.tables.proofs.InSets.{none_before_more, smallest_found, member_past}
use Rattle.tables.proofs.sequent.Sequent.first.Goals as goal

pub returns-in-Some : goal.returns-in-Some
returns-in-Some c =
    let found = c.in-Some.ensures in
    smallest_found c.args.self.now c.loop-i.i c.loop-i-test.true c.loop-i.invariant c.in-Some.at found.0 found.1 found.2

pub loop-i-preserved : goal.loop-i-preserved
loop-i-preserved c = none_before_more c.args.self.now c.loop-i.i c.loop-i-test.true c.loop-i.invariant c.in_default.ensures

pub returns : goal.returns
returns c k = ⊎_elim (λ l. c.loop-i.invariant k (omega arith)) (member_past c.args.self.now k) (cases_lt k 512)
