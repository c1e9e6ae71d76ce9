use Rattle.std.proofs.Common.{◌-◌, length}
use Rattle.casefile.proofs.Serving.{Served}
use Rattle.casefile.proofs.sheet.draft_lines.Given as goal

abbrev pub invariant-loop-line : goal.invariant-loop-line
invariant-loop-line g l = Served l.initial.lines.file.now l.lines.file.now l.initial.lines.at l.lines.at l.initial.out l.out l.initial.at l.at

abbrev pub decreases-loop-line : goal.decreases-loop-line
decreases-loop-line g l = length l.lines.file.now - l.lines.at
