use Rattle.std.proofs.Common.{◌/◌, ◌||◌, get_or, refl, ap, ◌∙◌, rules}
use Rattle.tables.specs.Rows.{bit}
use Rattle.tables.proofs.BitTests.{bit_only}
use Rattle.tables.proofs.InSets.{members_with}
use Rattle.tables.proofs.sequent.Sequent.with.Goals as goal

pub returns-then-n-lt-NUMBERS : goal.returns-then-n-lt-NUMBERS
returns-then-n-lt-NUMBERS c =
    let s = c.args.self in
    let n = c.args.n.0 in
    members_with _ s n c.either.result c.if-n-lt-NUMBERS.true (search rules) refl
    (λ j. c.either.ensures j ∙ ap (λ b. bit (get_or s.words (n / 64) 0) j || b) (ap (λ w. bit w j) c.only.ensures ∙ bit_only _ j))
