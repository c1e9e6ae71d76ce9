use Rattle.std.proofs.Common.{◌≡◌, length, ◌∙◌, arith, rules}
use Rattle.tables.proofs.InSets.{seen_none, seen_found, seen_more}
use Rattle.tables.proofs.sequent.Sequent.last.Goals as goal

pub loop-i-init : goal.loop-i-init
loop-i-init c =
    let s = c.args.self.now in
    let long : length s.words ≡ 8 = search rules in
    let left : c.into_iter-i-iterator.result.iter.iter.rest.now ≡ s.words = cc in
    let none : c.into_iter-i-iterator.result.iter.count ≡ 0 = cc in
    (none, seen_none s _ long left)

pub returns-in-Some-last_in : goal.returns-in-Some-last_in
returns-in-Some-last_in c =
    let inv = c.loop-i.invariant in
    let turn = c.in-Some.ensures.steps in
    let found = c.in-Some-last_in.ensures in
    seen_found c.args.self.now _ c.next.new.self.iter.iter.rest.now c.in-Some.word.now turn.1.0 inv.1 c.in-Some.i c.in-Some-last_in.at (omega (arith, turn.1.1, inv.0)) found.0 found.1 found.2

pub loop-i-preserved : goal.loop-i-preserved
loop-i-preserved c =
    let inv = c.loop-i.invariant in
    let turn = c.in-Some.ensures.steps in
    (turn.0 ∙ inv.0, seen_more c.args.self.now _ c.next.new.self.iter.iter.rest.now c.in-Some.word.now turn.1.0 inv.1 c.in_default.ensures)
