use Rattle.std.proofs.Common.{◌∙◌, arith}
use Rattle.casefile.proofs.Serving.{left_one, room_one, served_on, line_short}
use Rattle.casefile.proofs.sheet.draft_lines.Goals as goal

pub put_answer-at-requires : goal.put_answer-at-requires
put_answer-at-requires g c =
    let n = c.in-Some.ensures in
    room_one c.requires.ended c.loop-line.invariant (record { same = n.file; some = n.some; passed = n.passed }) c.requires.room

pub loop-line-preserved : goal.loop-line-preserved
loop-line-preserved g c =
    let n = c.in-Some.ensures in
    let w = c.put_answer-at.ensures in
    served_on c.requires.ended c.loop-line.invariant (record { same = n.file; some = n.some; passed = n.passed }) w.kept w.ahead w.room

pub returns-in-Ok-None : goal.returns-in-Ok-None
returns-in-Ok-None g c =
    let n = c.in-Some.ensures in
    let s = c.loop-line.invariant in
    record {
      file = n.file ∙ s.same;
      room = left_one c.requires.ended s (record { same = n.file; some = n.some; passed = n.passed });
      ahead = s.ahead;
      kept = s.kept;
    }

pub put_fault-requires : goal.put_fault-requires
put_fault-requires g c =
    let n = c.in-Some.ensures in
    let l = c.next_line.new.self in
    let short = line_short c.requires.ended c.loop-line.invariant (record { same = n.file; some = n.some; passed = n.passed }) l.counted l.inside in
    record {
      room = room_one c.requires.ended c.loop-line.invariant (record { same = n.file; some = n.some; passed = n.passed }) c.requires.room;
      line = omega (arith, short, c.line.ensures);
    }

pub returns-in-Err : goal.returns-in-Err
returns-in-Err g c =
    let n = c.in-Some.ensures in
    let w = c.put_fault.ensures in
    let s = served_on c.requires.ended c.loop-line.invariant (record { same = n.file; some = n.some; passed = n.passed }) w.kept w.ahead w.room in
    record { file = s.same; room = omega (arith, s.left); ahead = s.ahead; kept = s.kept }
