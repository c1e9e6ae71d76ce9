use Rattle.std.proofs.Common.{◌≡◌, ◌%◌, ◌≤◌, true, ltb, [], ◌∷◌, ◌++◌, length, vec_items, sym, ap, ◌∙◌, subst, append_assoc, arith, rules}
use Rattle.pltl.specs.Formulas.{opposite}
use Rattle.tables.specs.Listing.{numbered, formula_over, formulas, parts_below, PartsFirst, Lawful}
use Rattle.tables.specs.Steps.{Names}
use Rattle.tables.proofs.Added.{added_old, added_new_length, order_pushed, pushed_added, lawful_pushed, number_pushed}
use Rattle.tables.proofs.Growth.{grown_none}
use Rattle.tables.proofs.Laws.{lawful_from}
use Rattle.tables.proofs.Listed.{length_formulas, duals_named, duals_below}
use Rattle.tables.proofs.table.Table.add.Goals as goal
use Rattle.tables.proofs.table.Table.add.Goals.{After-push_reserved-2}

pub returns-in-Some : goal.returns-in-Some
returns-in-Some c =
    let h = c.in-Some.ensures in
    record { value = (sym (added_old _ _ _ h), h); grown = grown_none _ }

pub returns-then-new-ge-NUMBERS : goal.returns-then-new-ge-NUMBERS
returns-then-new-ge-NUMBERS c =
    let v = c.args.self.now.shapes in
    record {
      value = omega (arith, added_new_length _ _ c.in_default.ensures, length_formulas (vec_items v), v.ok.0);
      grown = grown_none _;
    }

-- what the opposite of the shape says
record Dual (c : After-push_reserved-2) : Type 0 where
  items : vec_items c.push_reserved-2.new.self ≡ (vec_items c.args.self.now.shapes ++ c.args.shape ∷ []) ++ c.opposite.result ∷ []
  law : Lawful (formulas (vec_items c.args.self.now.shapes))
  even : length (vec_items c.args.self.now.shapes) % 2 ≡ 0
  below : parts_below (length (formulas (vec_items c.args.self.now.shapes))) c.opposite.result ≡ true
  value : formula_over (formulas (vec_items c.args.self.now.shapes)) c.opposite.result ≡ opposite (formula_over (formulas (vec_items c.args.self.now.shapes)) c.args.shape)

dual : (c : After-push_reserved-2) → Dual c
dual c =
    let t = c.args.self.now in
    let ss = vec_items t.shapes in
    let fs = formulas ss in
    let l = lawful_from t.lawful in
    let e : length ss % 2 ≡ 0 = subst (λ n. n % 2 ≡ 0) t.shapes.ok.0 t.even in
    let e' : length fs % 2 ≡ 0 = subst (λ n. n % 2 ≡ 0) (sym (length_formulas ss)) e in
    record {
      items = c.push_reserved-2.ensures.items ∙ ap (λ l. l ++ c.opposite.result ∷ []) c.push_reserved.ensures.items;
      law = l;
      even = e;
      below = c.opposite.ensures.parts (λ n. ltb n.0 (length fs)) ∙ duals_below fs l e' c.args.shape c.requires;
      value = c.opposite.ensures.value (λ n. numbered fs n.0) (duals_named fs l e' c.args.shape c.requires);
    }

pub invariant_of-self : goal.invariant_of-self
invariant_of-self c =
    let t = c.args.self.now in
    let ss = vec_items t.shapes in
    let d = dual c in
    let begun : 2 ≤ length ss = omega (arith, t.begun, t.shapes.ok.0) in record { room = search rules; few = omega (arith, c.push_reserved-2.ensures.len, c.push_reserved.ensures.len, t.even, t.few); order = subst PartsFirst (sym d.items) (order_pushed ss _ _ c.requires d.below d.value t.order); begun = omega (arith, c.push_reserved-2.ensures.len, c.push_reserved.ensures.len, t.begun); even = omega (arith, c.push_reserved-2.ensures.len, c.push_reserved.ensures.len, t.even); lawful = ∣ subst (λ l. Lawful (formulas l)) (sym d.items) (lawful_pushed ss _ _ c.requires d.below d.value c.in_default.ensures d.law d.even begun) ∣₁ }

pub returns : goal.returns
returns c =
    let c' = (goal.at.returns c).After-push_reserved-2 in
    let t = c.args.self.now in
    let ss = vec_items t.shapes in
    let d = dual c' in
    record {
      value = (
        ap formulas d.items ∙ pushed_added ss _ _ c.requires d.below d.value c.in_default.ensures,
        subst (λ l. Names (formulas l) (record { 0 = c.len-new.result }) (formula_over (formulas ss) c.args.shape)) (sym d.items) (number_pushed ss _ _ c.requires d.below d.value c.len-new.result (c.len-new.ensures ∙ t.shapes.ok.0)),
      );
      grown = record { more = c.args.shape ∷ c.opposite.result ∷ []; is = d.items ∙ append_assoc ss (c.args.shape ∷ []) (c.opposite.result ∷ []) };
    }
