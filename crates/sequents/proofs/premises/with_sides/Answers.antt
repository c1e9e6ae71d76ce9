use Rattle.std.proofs.Common.{◌≡◌, ◌<◌, ◌&&◌, eqb, ltb, sym, ap, ◌∙◌, subst, inl, inr, ⊎_elim, arith}
use Rattle.std.proofs.lemmas.Bool.{ltb-true, eqb-true, and_parts, or_cases}
use Rattle.pltl.specs.Formulas.{Or}
use Rattle.calculus.proofs.Decided.{parts}
use Rattle.tables.specs.Listing.{numbered}
use Rattle.tables.specs.Sets.{member}
use Rattle.sequents.specs.Rooms.{Inside}
use Rattle.kits.specs.Steps.{listed}
use Rattle.kits.proofs.InSequents.{table_few}
use Rattle.sequents.specs.RoomSets.{with_kept, with_new}
use Rattle.sequents.proofs.premises.with_sides.Goals as goal

pub returns-in-Some-Or : goal.returns-in-Some-Or
returns-in-Some-Or c =
    let t = c.args.table.now in
    let fs = listed t in
    let k = c.args.k.0 in
    let a = c.in-Some-Or.a in
    let b = c.in-Some-Or.b in
    let s = c.args.found in
    let u = c.with.result in
    let v = c.with-in-Some-Or.result in
    let wu = c.with.ensures in
    let wv = c.with-in-Some-Or.ensures in
    let h = rw c.in-Some-Or.field-0-is at c.in-Some-Or.ensures in
    let few = table_few t in
    let low = and_parts (ltb a.0 k) (ltb b.0 k) h.2 in
    let low-a : a.0 < k = ltb-true a.0 k low.0 in
    let low-b : b.0 < k = ltb-true b.0 k low.1 in
    record {
      kept = λ g i. with_kept fs u v b wv g (with_kept fs s u a wu g i);
      sides = λ x y lt e.
          let same = ap parts (h.1 ∙ e) in (
            subst (λ q. Inside fs v q.0) same (with_kept fs u v b wv _ (with_new fs s u a wu (omega arith) (omega arith))),
            subst (λ q. Inside fs v q.1) same (with_new fs u v b wv (omega arith) (omega arith)),
          );
      others = λ j lt m.
          ⊎_elim
          (λ old.
          ⊎_elim
          inl
          (λ new.
          let e : j ≡ a.0 = eqb-true j a.0 (and_parts _ _ new).1 in
          inr (omega arith, (numbered fs b.0, inl (sym h.1 ∙ ap (λ i. Or (numbered fs i) (numbered fs b.0)) (sym e)))))
          (or_cases (member s j) (ltb j 512 && eqb j a.0) (sym (wu j) ∙ old)))
          (λ new.
          let e : j ≡ b.0 = eqb-true j b.0 (and_parts _ _ new).1 in
          inr (omega arith, (numbered fs a.0, inr (sym h.1 ∙ ap (λ i. Or (numbered fs a.0) (numbered fs i)) (sym e)))))
          (or_cases (member u j) (ltb j 512 && eqb j b.0) (sym (wv j) ∙ m));
    }
