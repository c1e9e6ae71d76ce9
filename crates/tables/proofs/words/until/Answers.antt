use Rattle.std.proofs.Common.{ℕ, ◌&&◌, ◌||◌, ◌↔◌, sym, ap, ◌∙◌, subst}
use Rattle.tables.specs.Rows.{bit}
use Rattle.tables.specs.Words.{In, GoalOrTurn}
use Rattle.tables.proofs.BitTests.{bit_only}
use Rattle.tables.proofs.SweptWords.{goals_turned, goals_plain, swept_to}
use Rattle.tables.proofs.words.until.Goals as goal
use Rattle.tables.proofs.words.until.Goals.{then-turns, else-turns}

pub returns : goal.returns
returns c =
    let t = c.args.through in
    let g = c.args.goal in
    let len = c.args.len in
    let back = c.args.back in
    let first = c.sweep.result in
    let from_back = c.sweep.ensures back in
    let goals : (k : ℕ) → In c.if-turns.goals k ↔ GoalOrTurn t g len back k =
    elim c.if-turns.branch [
      | then-turns w ↦
          goals_turned t g len back c.requires.0 first from_back (sym c.holds_at-turns.ensures ∙ w.if-turns.true) c.if-turns.goals
          (λ k. ap (λ x. bit x k) w.goals-is ∙ w.either-goals.ensures k ∙ ap (λ b. bit g k || b) (w.both.ensures k ∙ ap (λ b. bit t k && b) (ap (λ x. bit x k) w.only.ensures ∙ bit_only _ k)))
      | else-turns w ↦
          subst (λ x. (k : ℕ) → In x k ↔ GoalOrTurn t g len back k) (sym w.goals-is)
          (goals_plain t g len back c.requires.0 first from_back (sym c.holds_at-turns.ensures ∙ w.if-turns.false))
    ] in
    swept_to t g c.if-turns.goals c.sweep-2.result (GoalOrTurn t g len back) goals c.sweep-2.ensures
