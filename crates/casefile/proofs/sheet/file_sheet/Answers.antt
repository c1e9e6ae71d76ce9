use Rattle.std.proofs.Common.{sym, ◌∙◌, subst, arith, lit<}
use Rattle.std.proofs.lemmas.Result.{MatchResult-weaker}
use Rattle.casefile.specs.Sheets.{LinesEnd}
use Rattle.casefile.proofs.Serving.{first_room}
use Rattle.casefile.proofs.sheet.file_sheet.Goals as goal

pub kit_sheet-requires : goal.kit_sheet-requires
kit_sheet-requires c =
    let n = c.in-Some.ensures in
    let m = c.new-lines.ensures in
    let room = first_room c.requires.ended m.file m.at (record { same = n.file; some = n.some; passed = n.passed }) in
    record { ended = subst LinesEnd (sym (n.file ∙ m.file)) c.requires.ended; room = omega (arith, room, c.requires.room) }

pub kit_sheet-requires-in-Ok-Units : goal.kit_sheet-requires-in-Ok-Units
kit_sheet-requires-in-Ok-Units c =
    let n = c.in-Some.ensures in
    let m = c.new-lines.ensures in
    let room = first_room c.requires.ended m.file m.at (record { same = n.file; some = n.some; passed = n.passed }) in
    record { ended = subst LinesEnd (sym (n.file ∙ m.file)) c.requires.ended; room = omega (arith, room, c.requires.room) }

pub kit_sheet-requires-in-Ok-Both : goal.kit_sheet-requires-in-Ok-Both
kit_sheet-requires-in-Ok-Both c =
    let n = c.in-Some.ensures in
    let m = c.new-lines.ensures in
    let room = first_room c.requires.ended m.file m.at (record { same = n.file; some = n.some; passed = n.passed }) in
    record { ended = subst LinesEnd (sym (n.file ∙ m.file)) c.requires.ended; room = omega (arith, room, c.requires.room) }

pub put_fault-requires : goal.put_fault-requires
put_fault-requires c =
    let n = c.in-Some.ensures in
    let m = c.new-lines.ensures in
    let room = first_room c.requires.ended m.file m.at (record { same = n.file; some = n.some; passed = n.passed }) in
    record { room = omega (arith, room, c.requires.room); line = lit< tt }

pub returns-in-Ok-Sequents : goal.returns-in-Ok-Sequents
returns-in-Ok-Sequents c =
    let n = c.in-Some.ensures in
    let m = c.new-lines.ensures in
    let room = first_room c.requires.ended m.file m.at (record { same = n.file; some = n.some; passed = n.passed }) in
    MatchResult-weaker c.kit_sheet.result c.kit_sheet.ensures (λ x p. (omega (arith, room, p.0), p.1)) (λ y q. q)

pub returns-in-Ok-Units : goal.returns-in-Ok-Units
returns-in-Ok-Units c =
    let n = c.in-Some.ensures in
    let m = c.new-lines.ensures in
    let room = first_room c.requires.ended m.file m.at (record { same = n.file; some = n.some; passed = n.passed }) in
    MatchResult-weaker c.kit_sheet-in-Ok-Units.result c.kit_sheet-in-Ok-Units.ensures (λ x p. (omega (arith, room, p.0), p.1)) (λ y q. q)

pub returns-in-Ok-Both : goal.returns-in-Ok-Both
returns-in-Ok-Both c =
    let n = c.in-Some.ensures in
    let m = c.new-lines.ensures in
    let room = first_room c.requires.ended m.file m.at (record { same = n.file; some = n.some; passed = n.passed }) in
    MatchResult-weaker c.kit_sheet-in-Ok-Both.result c.kit_sheet-in-Ok-Both.ensures (λ x p. (omega (arith, room, p.0), p.1)) (λ y q. q)

pub returns-in-Err : goal.returns-in-Err
returns-in-Err c =
    let n = c.in-Some.ensures in
    let m = c.new-lines.ensures in
    let w = c.put_fault.ensures in
    let room = first_room c.requires.ended m.file m.at (record { same = n.file; some = n.some; passed = n.passed }) in
    (omega (arith, room, w.room), w.kept)
