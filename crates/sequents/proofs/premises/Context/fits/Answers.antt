use Rattle.std.proofs.Common.{◌<◌, not, length, sym, ◌∙◌, subst, inl, inr, ⊎_elim, rules}
use Rattle.std.proofs.lemmas.Bool.{both_ways, and_parts, and_from, not-true, not_from_false, cases_Bool}
use Rattle.std.proofs.lemmas.Bool.Decides.{Decides-like}
use Rattle.tables.specs.Listing.{numbered}
use Rattle.tables.specs.Sets.{member}
use Rattle.tables.proofs.SetLists.{decides_all}
use Rattle.sequents.specs.Rooms.{Inside, Added}
use Rattle.kits.specs.Steps.{listed}
use Rattle.kits.proofs.InSequents.{in_from_number, number_from_in, member_from_in, table_lawful}
use Rattle.sequents.proofs.premises.Context.fits.Goals as goal

pub returns : goal.returns
returns c =
    let t = c.args.self.table.now in
    let fs = listed t in
    let d = c.args.self.d.now in
    let room = c.args.room in
    let premise = c.args.premise.now in
    let beside = c.minus-beside.result in
    Decides-like c.all.result
    (λ all g i.
    let r = number_from_in fs premise g i in
    ⊎_elim
    (λ m. inl (subst (Inside fs room.set) r.3 (in_from_number fs room.set r.0 r.1 m)))
    (λ m. inr (subst (Added fs d room.more) r.3 (all r.0 (c.minus-beside.ensures r.0 ∙ and_from _ _ r.2 (not_from_false _ m)) r.1)))
    (cases_Bool (member room.set r.0)))
    (λ fits k m lt.
    let here = and_parts (member premise k) (not (member room.set k)) (sym (c.minus-beside.ensures k) ∙ m) in
    ⊎_elim
    (λ i. absurd (both_ways _ (not-true _ here.1) (member_from_in fs (table_lawful t) room.set k lt i)))
    (λ a. a)
    (fits (numbered fs k) (in_from_number fs premise k lt here.0)))
    (decides_all (λ x. x.0 < length fs → Added fs d room.more (numbered fs x.0)) beside c.iter.result _ _ c.all.result c.iter.ensures c.all.ensures.ran (λ x b q h. search rules))
