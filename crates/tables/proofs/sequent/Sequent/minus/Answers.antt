use Rattle.std.proofs.Common.{◌≡◌, ℕ, not, ◌&&◌, ltb, get_or, rules, tests}
use Rattle.tables.specs.Rows.{bit}
use Rattle.tables.proofs.InSets.{members_minus}
use Rattle.tables.proofs.MadeWords.{made_words}
use Rattle.tables.proofs.sequent.Sequent.minus.Goals as goal

pub returns : goal.returns
returns c =
    let s = c.args.self.now in
    let t = c.args.other.now in
    members_minus _ s t
    (made_words c.from_fn.ensures.items (λ i w. (j : ℕ) → bit w j ≡ (bit (get_or s.words i 0) j && (ltb j 64 && not (bit (get_or t.words i 0) j)))) (λ i w q h. search (rules, tests)))
