use Rattle.std.proofs.Common.{◌≡◌, ◌+◌, length, drop, sym, ap, ◌∙◌, arith}
use Rattle.std.proofs.lemmas.List.{at_drop_all, drop-drop}
use Rattle.casefile.specs.Newlines.{newlines}
use Rattle.casefile.proofs.Passing.{first_passed, none_passed}
use Rattle.casefile.proofs.lines.Lines.next_line.Goals as goal
use Rattle.casefile.proofs.lines.Lines.next_line.Goals.{in-Some, in-None}

pub returns-clause-passed : goal.returns-clause-passed
returns-clause-passed c =
    let file = c.args.self.now.file.now in
    let at = c.args.self.now.at in
    let rest = c.rest-rest.result.now in
    let next : newlines (drop (at + c.match-find.passed.1) file) ≡ newlines (drop c.match-find.passed.1 rest) = ap newlines (sym (drop-drop c.match-find.passed.1 at file) ∙ ap (drop c.match-find.passed.1) (sym c.rest-rest.ensures)) in
    let was : newlines (drop at file) ≡ newlines rest = ap newlines (sym c.rest-rest.ensures) in
    elim c.match-find.branch [
      | in-Some w ↦ omega (arith, next, was, (first_passed rest w.in-Some.len w.in-Some.ensures).1, ap (λ x. newlines (drop x.1 rest)) w.passed-is)
      | in-None w ↦ omega (arith, next, was, none_passed rest w.in-None.ensures, ap (λ x. newlines (drop x.1 rest)) w.passed-is, at_drop_all newlines rest (length rest) (omega arith))
    ]
