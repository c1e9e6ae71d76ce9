use Rattle.std.proofs.Common.{◌<◌, length, sym, ap, ◌∙◌, subst, rules}
use Rattle.std.proofs.lemmas.Bool.Decides.{Decides-like}
use Rattle.pltl.specs.Formulas.{opposite}
use Rattle.calculus.specs.Sequents.{◌∈◌}
use Rattle.calculus.specs.Rules.{Alternative, IsAlways}
use Rattle.tables.specs.Listing.{numbered}
use Rattle.tables.specs.Numbers.{beside}
use Rattle.tables.proofs.Laws.{named_beside}
use Rattle.tables.proofs.SetLists.{decides_all}
use Rattle.sequents.specs.Rooms.{Inside}
use Rattle.kits.specs.Steps.{listed, formulas_in}
use Rattle.kits.proofs.InSequents.{in_from_number, number_from_in, table_lawful, table_even}
use Rattle.sequents.proofs.premises.Context.covers.Goals as goal

pub returns : goal.returns
returns c =
    let t = c.args.self.table.now in
    let fs = listed t in
    let s = c.alternatives-alternatives.result in
    let are = c.alternatives-alternatives.ensures in
    let d = c.args.self.d.now in
    let n = numbered fs c.args.n.0 in
    Decides-like c.all.result
    (λ all g i plain.
    let r = number_from_in fs d g i in
    let o = all r.0 r.2 r.1 (λ a. plain (a.0, sym r.3 ∙ a.1)) in
    let q = number_from_in fs s (opposite (numbered fs r.0)) o in
    subst (λ x. Alternative x n) (q.3 ∙ ap opposite r.3) ((are q.0 q.1).0 q.2))
    (λ covers k m lt plain.
    let named = named_beside fs (table_lawful t) (table_even t) k lt in
    let alternative = covers (numbered fs k) (in_from_number fs d k lt m) plain in
    subst (Inside fs s) named.1 (in_from_number fs s (beside k) named.0 ((are (beside k) named.0).1 (subst (λ g. Alternative g n) (sym named.1) alternative))))
    (decides_all (λ x. x.0 < length fs → (IsAlways (numbered fs x.0) → ⊥) → opposite (numbered fs x.0) ∈ formulas_in fs s) d c.iter.result _ _ c.all.result c.iter.ensures c.all.ensures.ran (λ x b q h. search rules))
