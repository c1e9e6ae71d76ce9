use Rattle.std.proofs.Common.{◌+◌, ◌-◌, length}
use Rattle.casefile.proofs.values.Reader.numbers.Given as goal

abbrev pub decreases-loop-self : goal.decreases-loop-self
decreases-loop-self l = length l.self.value.now + 1 - l.self.at
