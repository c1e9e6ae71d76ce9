use Rattle.std.proofs.Common.{length, ap, arith}
use Rattle.tables.proofs.SetLists.{numbers_taken, numbers_none}
use Rattle.tables.proofs.sequent.iter.MembersIterator.next.Goals as goal

pub returns-in_err-first-clause-steps : goal.returns-in_err-first-clause-steps
returns-in_err-first-clause-steps c = let none = numbers_none c.args.self.now.rest c.in_err-first.ensures in rw c.from_residual.ensures (none, none)

pub returns-clause-steps : goal.returns-clause-steps
returns-clause-steps c = numbers_taken c.args.self.now.rest c.without-self.result c.in_ok-first.first c.in_ok-first.ensures c.without-self.ensures

pub returns-clause-goes : goal.returns-clause-goes
returns-clause-goes c =
    let e = ap length (numbers_taken c.args.self.now.rest c.without-self.result c.in_ok-first.first c.in_ok-first.ensures c.without-self.ensures) in
    record { on = λ _. (tt, tt, omega arith); keeps = tt; rests = λ _. tt }
