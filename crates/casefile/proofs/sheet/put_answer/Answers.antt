use Rattle.std.proofs.Common.{◌^◌, ◌<◌, arith}
use Rattle.casefile.proofs.Writing.{field_short, wrote_kept}
use Rattle.casefile.proofs.sheet.put_answer.Goals as goal

pub put_field-requires : goal.put_field-requires
put_field-requires c =
    let fits : c.from.result < 2 ^ 64 = omega arith in
    omega (arith, field_short _ c.from.result c.key-key.ensures fits)

pub returns : goal.returns
returns c =
    let fits : c.from.result < 2 ^ 64 = omega arith in
    let short = field_short _ c.from.result c.key-key.ensures fits in
    let w = c.put_field.ensures in
    record { room = omega (arith, w.value, short); ahead = omega (arith, w.value); kept = wrote_kept (record { value = w.value; after = w.after }) (omega (arith, short)) }
