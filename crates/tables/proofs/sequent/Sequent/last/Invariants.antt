use Rattle.std.proofs.Common.{◌≡◌}
use Rattle.tables.proofs.InSets.{Seen}
use Rattle.tables.proofs.sequent.Sequent.last.Given as goal

abbrev pub invariant-loop-i : goal.invariant-loop-i
invariant-loop-i l = (l.i-iterator.iter.count ≡ 0) × Seen l.self l.i-iterator.iter.iter.rest.now
