use Rattle.std.proofs.Common.{sym, ◌∙◌}
use Rattle.std.proofs.lemmas.Bool.{le-ltb}
use Rattle.tables.proofs.InSets.{member_inside, member_past}
use Rattle.tables.proofs.sequent.Sequent.contains.Goals as goal

pub returns-then-n-lt-NUMBERS : goal.returns-then-n-lt-NUMBERS
returns-then-n-lt-NUMBERS c = c.holds_at.ensures ∙ sym (member_inside c.args.self.now c.args.n.0 c.if-n-lt-NUMBERS.true)

pub returns-else-n-lt-NUMBERS : goal.returns-else-n-lt-NUMBERS
returns-else-n-lt-NUMBERS c = le-ltb c.args.n.0 512 c.if-n-lt-NUMBERS.false ∙ sym (member_past c.args.self.now c.args.n.0 c.if-n-lt-NUMBERS.false)
