use Rattle.std.proofs.Common.{not, ◌&&◌, ◌||◌, eqb, ltb, ap, ◌∙◌}
use Rattle.tables.specs.Sets.{member}
use Rattle.tables.proofs.InSets.{members_without}
use Rattle.tables.proofs.sequent.Sequent.without.Goals as goal

pub returns : goal.returns
returns c k =
    let s = c.args.self in
    let n = c.args.n.0 in
    c.minus.ensures k
    ∙ ap (λ b. member s k && not b) (c.with.ensures k ∙ ap (λ b. b || (ltb k 512 && eqb k n)) (c.empty.ensures k))
    ∙ members_without s n k
