use Rattle.std.proofs.Common.{◌^◌, ◌<◌, sym, subst, arith}
use Rattle.casefile.specs.Fields.{refusal_lines}
use Rattle.casefile.proofs.Writing.{refusal_short, wrote_kept}
use Rattle.casefile.proofs.Short.{Short, short}
use Rattle.casefile.proofs.sheet.put_fault.Goals as goal

pub put_refusal-requires : goal.put_refusal-requires
put_refusal-requires c =
    let r = c.from.result in
    let s : Short r = subst Short (sym c.from.ensures) (short c.args.fault) in
    let fits : r.place < 2 ^ 64 = omega arith in
    omega (arith, refusal_short c.args.line r s.number s.layer c.requires.line fits)

pub returns : goal.returns
returns c =
    let r = c.from.result in
    let s : Short r = subst Short (sym c.from.ensures) (short c.args.fault) in
    let fits : r.place < 2 ^ 64 = omega arith in
    let few = refusal_short c.args.line r s.number s.layer c.requires.line fits in
    let w = c.put_refusal.ensures in
    record { room = omega (arith, w.value, few); ahead = omega (arith, w.value); kept = wrote_kept {bs = refusal_lines c.args.line r} (record { value = w.value; after = w.after }) (omega (arith, few)) }
