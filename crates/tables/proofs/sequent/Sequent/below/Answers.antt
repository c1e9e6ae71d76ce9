use Rattle.std.proofs.Common.{◌≡◌, ℕ, ◌+◌, ◌*◌, ◌<◌, ◌&&◌, ltb, get_or, rules, tests}
use Rattle.tables.specs.Rows.{bit}
use Rattle.tables.proofs.InSets.{members_below}
use Rattle.tables.proofs.MadeWords.{made_words}
use Rattle.tables.proofs.sequent.Sequent.below.Goals as goal

pub returns : goal.returns
returns c =
    let s = c.args.self.now in
    members_below _ s c.args.len
    (made_words c.from_fn.ensures.items (λ i w. (j : ℕ) → j < 64 → bit w j ≡ (bit (get_or s.words i 0) j && ltb (i * 64 + j) c.args.len)) (λ i w q h. search (rules, tests)))
