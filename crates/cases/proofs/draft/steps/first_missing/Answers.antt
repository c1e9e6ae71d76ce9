use Rattle.std.proofs.Common.{ℕ, Bool, ◌&&◌, leb, not, ◌∙◌, rules, tests}
use Rattle.std.proofs.lemmas.Iterator.{YieldsList-from_slice}
use Rattle.std.proofs.lemmas.Iterator.Adapters.{position_from-zero}
use Rattle.std.proofs.lemmas.Iterator.Search.{position_from_yields_List}
use Rattle.cases.proofs.Listed.{missing_at}
use Rattle.cases.proofs.draft.steps.first_missing.Goals as goal

pub returns : goal.returns
returns c =
    let ps = c.args.numbers.now in
    let missing : ℕ → Bool = λ p. not (leb 1 p && leb p c.args.count) in
    position_from_yields_List missing _ _ _ c.position.ensures.ran (YieldsList-from_slice ps (cc)) (λ x b q k. search (rules, tests))
    ∙ position_from-zero missing ps ∙ missing_at c.args.count 0 ps
