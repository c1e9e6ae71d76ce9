use Rattle.std.proofs.Common.{◌≡◌, ◌∙◌, eqb, count_by, rules}
use Rattle.casefile.proofs.Passing.{newlines_counted}
use Rattle.casefile.proofs.sheet.count_lines.Goals as goal

pub returns : goal.returns
returns c = let h : c.count.result ≡ count_by (λ b. eqb b 10) c.args.file.now = search rules in h ∙ newlines_counted c.args.file.now
