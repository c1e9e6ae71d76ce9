use Rattle.std.proofs.Common.{◌≡◌, ◌≤◌}
use Rattle.casefile.proofs.values.Reader.number.Given as goal

-- as many digits as were read
abbrev pub invariant-loop-byte : goal.invariant-loop-byte
invariant-loop-byte l =
    (l.digits ≡ l.byte-index)
    × (l.digits ≡ 0 → l.number ≡ 0)
    × (l.digits ≤ 1 → l.number ≤ 9)
    × (l.digits ≤ 2 → l.number ≤ 99)
    × (l.digits ≤ 3 → l.number ≤ 999)
    × (l.number ≤ 9999)
