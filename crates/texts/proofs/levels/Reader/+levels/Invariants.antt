use Rattle.std.proofs.Common.{◌+◌, ◌-◌, ◌*◌, length}
use Rattle.texts.specs.Grammar.{implication, disjunction, conjunction, temporal, unary}
use Rattle.texts.specs.Parsing.{rank}
use Rattle.texts.proofs.levels.Reader.+levels.Given as goal

abbrev pub decreases-unary : goal.decreases-unary
decreases-unary l = (length l.self.now.text.now - l.self.now.at) * 5 + rank unary

abbrev pub decreases-temporal : goal.decreases-temporal
decreases-temporal l = (length l.self.now.text.now - l.self.now.at) * 5 + rank temporal

abbrev pub decreases-conjunction : goal.decreases-conjunction
decreases-conjunction l = (length l.self.now.text.now - l.self.now.at) * 5 + rank conjunction

abbrev pub decreases-disjunction : goal.decreases-disjunction
decreases-disjunction l = (length l.self.now.text.now - l.self.now.at) * 5 + rank disjunction

abbrev pub decreases-implication : goal.decreases-implication
decreases-implication l = (length l.self.now.text.now - l.self.now.at) * 5 + rank implication
