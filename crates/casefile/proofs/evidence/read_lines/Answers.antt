use Rattle.std.proofs.Common.{◌≡◌, ◌-◌, ◌<◌, length, drop, sym, ◌∙◌, subst, arith}
use Rattle.std.proofs.lemmas.Bool.{ltb-true}
use Rattle.casefile.specs.Newlines.{newlines}
use Rattle.casefile.proofs.Passing.{newline_ahead}
use Rattle.casefile.proofs.evidence.read_lines.Goals as goal

pub push_reserved-requires : goal.push_reserved-requires
push_reserved-requires g c =
    let n = c.in-Some.ensures in
    let inv = c.loop-line.invariant in
    let file = c.args.lines.now.file.now in
    let j = c.loop-line.lines.at in
    let lt : j < length file = subst (λ x. j < length x) inv.0 (ltb-true j (length c.loop-line.lines.file.now) (sym n.some)) in
    omega (arith, inv.1, inv.2, newline_ahead file j lt c.requires.ended.ends, c.requires.room)

pub loop-line-preserved : goal.loop-line-preserved
loop-line-preserved g c =
    let n = c.in-Some.ensures in
    let inv = c.loop-line.invariant in
    let file = c.args.lines.now.file.now in
    let j = c.loop-line.lines.at in
    let k = c.next_line.new.self.at in
    let lt : j < length file = subst (λ x. j < length x) inv.0 (ltb-true j (length c.loop-line.lines.file.now) (sym n.some)) in
    let passed : newlines (drop k file) ≡ newlines (drop j file) - 1 = subst (λ x. newlines (drop k x) ≡ newlines (drop j x) - 1) inv.0 n.passed in
    (n.file ∙ inv.0, omega (arith, inv.1, newline_ahead file j lt c.requires.ended.ends, passed, c.push_reserved.ensures.len), omega (arith, inv.2, c.push_reserved.ensures.capacity))
