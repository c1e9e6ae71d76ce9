use Rattle.std.proofs.Common.{◌≡◌, ◌<◌, true, Some, None, Option, MatchOption, length, get_or, vec_items, sym, ap, ◌∙◌, subst, arith}
use denote.Ref.{Bor}
use Rattle.std.specs.Option.{option_copied}
use Rattle.pltl.specs.declared.Shape.{Shape}
use Rattle.pltl.specs.declared.Shape.TheVariants.{True}
use Rattle.tables.specs.declared.number.Number.{Number}
use Rattle.tables.specs.Listing.{formulas, formula_over, parts_below}
use Rattle.tables.proofs.Listed.{length_formulas, formula_of_number}
use Rattle.tables.proofs.table.Table.shape.Goals as goal

copied_match : {A : Type 0} (P Q : Type 0) (R S : A → Type 0) (o : Option (Bor A)) (r : Option A) → r ≡ option_copied o → (P → Q) → ((x : A) → R x → S x) → MatchOption o P (λ x. R x.now) → MatchOption r Q S
copied_match P Q R S None r e f g h = subst (λ q. MatchOption q Q S) (sym e) (f h)
copied_match P Q R S (Some x) r e f g h = subst (λ q. MatchOption q Q S) (sym e) (g x.now h)

pub returns : goal.returns
returns c =
    let t = c.args.self.now in
    let ss = vec_items t.shapes in
    let n = c.args.n.0 in
    let read = c.deref.result.now in
    let same = c.deref.ensures.value in
    let long = length_formulas ss in
    let alike = ap length same in
    copied_match _ _ (λ x. (n < length read) × ((d : Shape Number) → x ≡ get_or read n d)) _ c.get.result _ c.copied.ensures
    (λ past. omega arith)
    (λ x h.
    let here = h.0 in
    let inside : n < length ss = omega arith in
    let is = h.1 True ∙ ap (λ l. get_or l n True) same in (
      omega arith,
      ap (formula_over (formulas ss)) is ∙ sym (formula_of_number ss n t.order inside),
      subst (λ s. parts_below n s ≡ true) (sym is) (t.order n inside),
    ))
    c.get.ensures.lookup.3
