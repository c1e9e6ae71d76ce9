use Rattle.std.proofs.Common.{ℕ, ◌≤◌, List, length, drop, length-drop, ap, arith}
use Rattle.casefile.specs.Newlines.{newlines}
use Rattle.casefile.proofs.Passing.{newlines_few}
use Rattle.casefile.proofs.Writing.{kept_on}
use Rattle.casefile.proofs.sheet.kit_sheet.Goals as goal

pub put_evidence-requires : goal.put_evidence-requires
put_evidence-requires g c =
    let d = c.in-Continue.ensures in
    let same = ap (λ (f : List ℕ). newlines (drop c.draft_lines.new.lines.at f)) d.file in
    let l = c.draft_lines.new.lines in
    let read : length c.as_slice-3.result.now ≤ newlines (drop l.at l.file.now) = omega (arith, c.read_lines.ensures.few, c.as_slice-3.ensures.len, c.in_ok-read.ensures.len) in
    record {
      room = omega (arith, d.room, c.put_letter-at.ensures.room, c.put_answer-at.ensures.room, c.put_answer-at.ensures.kept.long, d.kept.long, c.put_letter-at.ensures.kept.long, c.requires.room, same, read);
      line = omega (arith, read, newlines_few (drop l.at l.file.now), length-drop l.at l.file.now, c.line-passed.ensures, l.counted, l.inside, ap length d.file, c.requires.ended.short);
    }

pub returns-in-Break : goal.returns-in-Break
returns-in-Break g c =
    let d = c.in-Break.ensures in
    (omega (arith, d.room, c.put_letter-at.ensures.room), kept_on c.put_letter-at.ensures.kept d.kept d.ahead)

pub returns : goal.returns
returns g c =
    let d = c.in-Continue.ensures in
    let same = ap (λ (f : List ℕ). newlines (drop c.draft_lines.new.lines.at f)) d.file in
    let l = c.draft_lines.new.lines in
    let read : length c.as_slice-3.result.now ≤ newlines (drop l.at l.file.now) = omega (arith, c.read_lines.ensures.few, c.as_slice-3.ensures.len, c.in_ok-read.ensures.len) in
    let a = c.put_answer-at.ensures in
    let e = c.put_evidence.ensures in (
      omega (arith, d.room, c.put_letter-at.ensures.room, a.room, e.room, same, read),
      kept_on (kept_on (kept_on c.put_letter-at.ensures.kept d.kept d.ahead) a.kept a.ahead) e.kept e.ahead,
    )
