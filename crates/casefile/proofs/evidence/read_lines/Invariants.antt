use Rattle.std.proofs.Common.{◌≡◌, ◌+◌, ◌-◌, ◌≤◌, length, drop, vec_len, vec_capacity}
use Rattle.casefile.specs.Newlines.{newlines}
use Rattle.casefile.proofs.evidence.read_lines.Given as goal

-- the file is the same, and there is room for the lines that are left
abbrev pub invariant-loop-line : goal.invariant-loop-line
invariant-loop-line g l =
    (l.lines.file.now ≡ l.initial.lines.file.now)
    × (vec_len l.read + newlines (drop l.lines.at l.initial.lines.file.now) ≤ vec_len l.initial.read + newlines (drop l.initial.lines.at l.initial.lines.file.now))
    × (vec_capacity l.read ≡ vec_capacity l.initial.read)

abbrev pub decreases-loop-line : goal.decreases-loop-line
decreases-loop-line g l = length l.lines.file.now - l.lines.at
