use Rattle.std.proofs.Common.{◌≡◌, ℕ, ◌<◌, ◌≤◌, length, get_or}
use Rattle.tables.specs.Words.{marked}
use Rattle.tables.proofs.states.mark.Given as goal

abbrev pub invariant-loop-p : goal.invariant-loop-p
invariant-loop-p l =
    (length l.word-items ≡ 26)
    × ((k : ℕ) → k < l.p → get_or l.word-items k 0 ≡ marked l.fn.words l.letters l.at k)
    × ((k : ℕ) → l.p ≤ k → get_or l.word-items k 0 ≡ get_or l.fn.words k 0)
