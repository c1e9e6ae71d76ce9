use Rattle.std.proofs.Common.{◌≡◌, ℕ, ◌<◌, ◌≤◌, true, false, ◌&&◌, eqb, ltb, List, length, sym, ◌∙◌, subst, inl, inr, ⊎_elim, arith}
use Rattle.std.proofs.lemmas.Bool.{both_ways, cases_eq, cases_lt, eqb-true, and_parts, or_cases}
use Rattle.pltl.specs.Formulas.{Formula, Or}
use Rattle.calculus.specs.Sequents.{◌∈◌}
use Rattle.calculus.specs.Rules.{Alternative, whole, on_left, on_right}
use Rattle.tables.specs.declared.number.Number.{Number}
use Rattle.tables.specs.declared.sequent.Sequent.{Sequent}
use Rattle.tables.specs.Listing.{numbered}
use Rattle.tables.specs.Sets.{member}
use Rattle.sequents.specs.Rooms.{Side}
use Rattle.kits.specs.Steps.{listed, formulas_in}
use Rattle.kits.proofs.InSequents.{number_from_in, member_from_in, table_lawful, table_few}
use Rattle.sequents.specs.RoomSets.{WithNumber, with_new}
use Rattle.sequents.specs.ShapesOf.{named_inside}
use Rattle.sequents.proofs.premises.alternatives.Goals as goal

-- a side is an alternative, and so is a side of an alternative
side_of : {g n : Formula} → Side g n → Alternative g n
side_of {g} (h, inl e) = subst (Alternative g) (sym e) (on_left whole)
side_of {g} (h, inr e) = subst (Alternative g) (sym e) (on_right whole)

side_alternative : {g n a : Formula} → Side g n → Alternative n a → Alternative g a
side_alternative side whole = side_of side
side_alternative side (on_left s) = on_left (side_alternative side s)
side_alternative side (on_right s) = on_right (side_alternative side s)

-- a number that names a disjunction is in use
side_inside : (fs : List Formula) (k : ℕ) (g : Formula) → Side g (numbered fs k) → k < length fs
side_inside fs k g (h, inl e) = named_inside fs k (Or g h) (λ z. omega arith) e
side_inside fs k g (h, inr e) = named_inside fs k (Or h g) (λ z. omega arith) e

-- a set with both sides of its disjunctions has the alternatives of what it has
all_in : {a n : Formula} (S : List Formula) → ((x y : Formula) → Or x y ∈ S → (x ∈ S) × (y ∈ S)) → Alternative a n → n ∈ S → a ∈ S
all_in S sides whole i = i
all_in S sides (on_left {n = n} {m = m} s) i = all_in S sides s (sides n m i).0
all_in S sides (on_right {n = n} {m = m} s) i = all_in S sides s (sides n m i).1

-- the loop begins with the formula alone
first_alone : (s t : Sequent) (n : Number) → ((k : ℕ) → member s k ≡ false) → WithNumber s n t → (j : ℕ) → member t j ≡ true → j ≡ n.0
first_alone s t n none w j m =
    ⊎_elim
    (λ h. absurd (both_ways _ (none j) h))
    (λ h. eqb-true j n.0 (and_parts _ _ h).1)
    (or_cases (member s j) (ltb j 512 && eqb j n.0) (sym (w j) ∙ m))

pub loop-k-init : goal.loop-k-init
loop-k-init c = (
  λ g i. i,
  λ j lt m. (j, lt, m, whole),
  λ j le lt m. absurd (omega (arith, first_alone c.empty.result c.with-found.result c.args.n c.empty.ensures c.with-found.ensures j m)),
)

pub loop-k-preserved : goal.loop-k-preserved
loop-k-preserved c =
    let fs = listed c.args.table.now in
    let k = c.in-Some.k.0 in
    let h = c.in-Some.ensures in
    let inv = c.loop-k.invariant in
    let w = c.with_sides-found.ensures in (
      λ g i. w.kept g (inv.0 g i),
      λ j lt m.
          ⊎_elim
          (inv.1 j lt)
          (λ o.
          let r = inv.1 k (side_inside fs k (numbered fs j) o.1) h.2 in
          (r.0, r.1, r.2, side_alternative o.1 r.3))
          (w.others j lt m),
      λ j le lt m a b e.
          ⊎_elim
          (λ same. w.sides a b (subst (λ i. i < length fs) same lt) (subst (λ i. numbered fs i ≡ Or a b) same e))
          (λ differs.
          ⊎_elim
          (λ old.
          ⊎_elim
          (λ before. absurd (both_ways _ (h.3 j (omega arith) before) old))
          (λ after. let i = inv.2 j after lt old a b e in (w.kept a i.0, w.kept b i.1))
          (cases_lt j c.loop-k.at))
          (λ o. absurd (omega (arith, o.0)))
          (w.others j lt m))
          (cases_eq j k),
    )

pub returns : goal.returns
returns c =
    let t = c.args.table.now in
    let fs = listed t in
    let n = c.args.n in
    let s = c.loop-k.found in
    let inv = c.loop-k.invariant in
    let few = table_few t in
    let inside : n.0 < length fs = c.requires in
    let sides : (x y : Formula) → Or x y ∈ formulas_in fs s → (x ∈ formulas_in fs s) × (y ∈ formulas_in fs s) =
    λ x y i.
    let r = number_from_in fs s (Or x y) i in
    let le : c.loop-k.at ≤ r.0 = ⊎_elim (λ lt. absurd (both_ways _ (c.in_default.ensures r.0 lt) r.2)) (λ ge. ge) (cases_lt r.0 c.loop-k.at) in
    inv.2 r.0 le r.1 r.2 x y r.3
    in
    λ k lt. (
      λ m.
          let r = inv.1 k lt m in
          subst (λ i. Alternative (numbered fs k) (numbered fs i)) (first_alone c.empty.result c.with-found.result n c.empty.ensures c.with-found.ensures r.0 r.2) r.3,
      λ alternative.
          member_from_in fs (table_lawful t) s k lt
          (all_in (formulas_in fs s) sides alternative
          (inv.0 (numbered fs n.0) (with_new fs c.empty.result c.with-found.result n c.with-found.ensures inside (omega (arith, inside))))),
    )
