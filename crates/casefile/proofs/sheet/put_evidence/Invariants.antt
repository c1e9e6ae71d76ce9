use Rattle.std.proofs.Common.{◌+◌, ◌*◌, ◌≤◌}
use Rattle.casefile.specs.Sheets.{Kept}
use Rattle.casefile.proofs.sheet.put_evidence.Given as goal

-- the room for what is left, and the buffer past what is written
abbrev pub invariant-loop-i : goal.invariant-loop-i
invariant-loop-i l = (l.at ≤ l.start + 64 * l.i) × (l.start ≤ l.at) × Kept l.initial.out l.out l.at
