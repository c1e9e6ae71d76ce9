use Rattle.std.proofs.Common.{◌+◌, ◌≤◌, length, vec_len, vec_capacity}
use Rattle.casefile.proofs.evidence.enter_calls.Given as goal

-- room for what is left
abbrev pub invariant-loop-line : goal.invariant-loop-line
invariant-loop-line l = vec_len l.entries + length l.read ≤ vec_capacity l.entries + l.line-index
