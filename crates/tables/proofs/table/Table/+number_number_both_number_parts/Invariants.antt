use Rattle.std.proofs.Common.{◌+◌, ◌*◌, max}
use Rattle.tables.proofs.table.Table.+number_number_both_number_parts.Given as goal

abbrev pub decreases-number : goal.decreases-number
decreases-number l = l.part.node * 3 + 2

abbrev pub decreases-number_parts : goal.decreases-number_parts
decreases-number_parts l = l.part.node * 3 + 1

abbrev pub decreases-number_both : goal.decreases-number_both
decreases-number_both l = max l.left.node l.right.node * 3 + 3
