use Rattle.std.proofs.Common.{◌≡◌, ◌<◌, true, length, rules}
use Rattle.std.proofs.lemmas.Bool.Decides.{Decides-like}
use Rattle.tables.specs.Numbers.{beside}
use Rattle.tables.specs.Sets.{member}
use Rattle.tables.proofs.SetLists.{decides_any}
use Rattle.kits.specs.Steps.{listed}
use Rattle.kits.proofs.InSequents.{in_from_number, member_from_in, table_lawful, table_even}
use Rattle.units.proofs.ClosedSets.{opposite_from_beside, beside_from_opposite}
use Rattle.units.proofs.closure.has_opposites.Goals as goal

pub returns : goal.returns
returns c =
    let t = c.args.table.now in
    let fs = listed t in
    let law = table_lawful t in
    let even = table_even t in
    let s = c.args.set.now in
    Decides-like c.any.result
    (λ h. let k = h.0 in let here = h.2 in (k, here.0, in_from_number fs s k here.0 h.1, opposite_from_beside fs law even s k here.0 here.1))
    (λ h. let k = h.0 in (k, member_from_in fs law s k h.1 h.2, (h.1, beside_from_opposite fs law even s k h.1 h.3)))
    (decides_any (λ x. (x.0 < length fs) × (member s (beside x.0) ≡ true)) s c.iter.result _ _ c.any.result c.iter.ensures c.any.ensures.ran (λ x b q h. search rules))
