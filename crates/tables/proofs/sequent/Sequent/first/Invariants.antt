use Rattle.std.proofs.Common.{◌≡◌, ℕ, ◌*◌, ◌<◌, false}
use Rattle.tables.specs.Sets.{member}
use Rattle.tables.proofs.sequent.Sequent.first.Given as goal

abbrev pub invariant-loop-i : goal.invariant-loop-i
invariant-loop-i l = (k : ℕ) → k < l.i * 64 → member l.self k ≡ false
