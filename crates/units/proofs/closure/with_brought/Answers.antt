use Rattle.std.proofs.Common.{ltb}
use Rattle.std.proofs.lemmas.Bool.{and_parts, ltb-true}
use Rattle.kits.specs.Steps.{listed}
use Rattle.units.proofs.ClosedSets.{and_gained, always_gained, or_gained}
use Rattle.kits.proofs.InSequents.{table_lawful, table_even, table_few}
use Rattle.units.proofs.closure.with_brought.Goals as goal

pub returns-in-Some-And : goal.returns-in-Some-And
returns-in-Some-And c =
    let t = c.args.table.now in
    let k = c.args.k.0 in
    let a = c.in-Some-And.a.0 in
    let b = c.in-Some-And.b.0 in
    let found = rw c.in-Some-And.field-0-is at c.in-Some-And.ensures in
    let below = and_parts (ltb a k) (ltb b k) found.2 in
    let g = and_gained (listed t) (table_few t) c.args.set k found.0 c.requires a b c.with.result c.with-in-Some-And.result found.1 (ltb-true a k below.0) (ltb-true b k below.1) c.with.ensures c.with-in-Some-And.ensures in
    record { kept = g.0; sound = g.1; brought = λ lt. g.2 }

pub returns-in-Some-Always : goal.returns-in-Some-Always
returns-in-Some-Always c =
    let t = c.args.table.now in
    let k = c.args.k.0 in
    let a = c.in-Some-Always.a.0 in
    let found = rw c.in-Some-Always.field-0-is at c.in-Some-Always.ensures in
    let g = always_gained (listed t) (table_few t) c.args.set k found.0 c.requires a c.with-in-Some-Always.result found.1 (ltb-true a k found.2) c.with-in-Some-Always.ensures in
    record { kept = g.0; sound = g.1; brought = λ lt. g.2 }

pub returns-in-Some-Or : goal.returns-in-Some-Or
returns-in-Some-Or c =
    let t = c.args.table.now in
    let k = c.args.k.0 in
    let a = c.in-Some-Or.a.0 in
    let b = c.in-Some-Or.b.0 in
    let found = rw c.in-Some-Or.field-0-is at c.in-Some-Or.ensures in
    let below = and_parts (ltb a k) (ltb b k) found.2 in
    let g = or_gained (listed t) (table_few t) c.args.set k found.0 c.requires (table_lawful t) (table_even t) a b c.with_side.result c.with_side-in-Some-Or.result found.1 (ltb-true a k below.0) (ltb-true b k below.1) c.with_side.ensures c.with_side-in-Some-Or.ensures in
    record { kept = g.0; sound = g.1; brought = λ lt. g.2 }
