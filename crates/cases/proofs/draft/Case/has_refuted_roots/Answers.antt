use Rattle.std.proofs.Common.{◌≡◌, ℕ, ◌+◌, ◌<◌, ◌≤◌, true, ◌||◌, [], map, length, get_or, drop, vec_items, Decides, sym, ap, ◌∙◌, subst, arith}
use Rattle.std.proofs.lemmas.Bool.{or_left}
use Rattle.std.proofs.lemmas.List.{at_drop_more, get_or-map, length-map}
use Rattle.tables.specs.declared.sequent.Sequent.{Sequent}
use Rattle.tables.specs.Sets.{member}
use Rattle.tables.proofs.Listed.{length_formulas}
use Rattle.cases.specs.Steps.{nothing}
use Rattle.std.specs.List.{list_any}
use Rattle.cases.specs.Verdicts.{only_roots}
use Rattle.cases.specs.Views.{case_model, stepped_model}
use Rattle.cases.proofs.Goods.{good_from}
use Rattle.cases.proofs.RootsOnly.{within_is_only_roots}
use Rattle.cases.proofs.draft.Case.has_refuted_roots.Goals as goal

nil : Sequent
nil = record { words = [] }

pub returns-then-is_within : goal.returns-then-is_within
unfolding nil
returns-then-is_within g c =
    let t = c.args.self.now in
    let m = case_model t in
    let items = vec_items t.steps in
    let i = c.loop-conclusion.conclusion-index in
    let is = c.deref-conclusion-items.ensures.value in
    let inside : i < length items = omega (arith, ap length is) in
    let few : length m.formulas ≤ 512 = omega (arith, length_formulas (vec_items t.table.shapes), t.table.shapes.ok.0, t.table.few) in
    let x = get_or items i nil in
    let tells = subst (λ l. Decides c.is_within.result ((k : ℕ) → member (get_or l i nil) k ≡ true → member c.sequent-roots.result k ≡ true)) is c.is_within.ensures in
    let here = get_or-map member items i nil nothing inside in
    let taken : i < length (stepped_model t).steps = omega (arith, length-map items member) in
    let only = within_is_only_roots m (member x) (member c.sequent-roots.result) c.is_within.result few c.sequent-roots.ensures (λ k h. (good_from t.good).inside i k taken (ap (λ S. S k) here ∙ h)) tells in
    let more = at_drop_more (λ l. list_any (only_roots m) (map member l)) items i nil inside in
    sym (sym c.loop-conclusion.invariant ∙ more ∙ or_left _ _ (only ∙ c.if-is_within.true))

pub loop-conclusion-preserved : goal.loop-conclusion-preserved
unfolding nil
loop-conclusion-preserved g c =
    let t = c.args.self.now in
    let m = case_model t in
    let items = vec_items t.steps in
    let i = c.loop-conclusion.conclusion-index in
    let is = c.deref-conclusion-items.ensures.value in
    let inside : i < length items = omega (arith, ap length is) in
    let few : length m.formulas ≤ 512 = omega (arith, length_formulas (vec_items t.table.shapes), t.table.shapes.ok.0, t.table.few) in
    let x = get_or items i nil in
    let tells = subst (λ l. Decides c.is_within.result ((k : ℕ) → member (get_or l i nil) k ≡ true → member c.sequent-roots.result k ≡ true)) is c.is_within.ensures in
    let here = get_or-map member items i nil nothing inside in
    let taken : i < length (stepped_model t).steps = omega (arith, length-map items member) in
    let only = within_is_only_roots m (member x) (member c.sequent-roots.result) c.is_within.result few c.sequent-roots.ensures (λ k h. (good_from t.good).inside i k taken (ap (λ S. S k) here ∙ h)) tells in
    let more = at_drop_more (λ l. list_any (only_roots m) (map member l)) items i nil inside in
    sym (ap (λ b. b || list_any (only_roots m) (map member (drop (i + 1) items))) (only ∙ c.if-is_within.false)) ∙ sym more ∙ c.loop-conclusion.invariant
