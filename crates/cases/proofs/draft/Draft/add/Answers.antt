use Rattle.std.proofs.Common.{◌≡◌, ◌+◌, ◌%◌, ◌≤◌, true, ◌||◌, length, Ok, vec_items, vec_len, sym, refl, ap, ◌∙◌, subst, arith}
use Rattle.std.proofs.lemmas.List.{length-map}
use Rattle.std.proofs.Math.Bool.{or_comm}
use Rattle.tables.specs.Answers.{answer, after, entry}
use Rattle.tables.specs.Listing.{formulas}
use Rattle.tables.specs.Steps.{Names}
use Rattle.tables.proofs.Listed.{length_formulas}
use Rattle.cases.specs.Drafts.{is_property}
use Rattle.tables.proofs.Growth.{length_grown}
use Rattle.cases.specs.Roots.{noted, plain, all_below}
use Rattle.cases.proofs.Inside.{all_below_more, all_below_noted}
use Rattle.cases.specs.Views.{draft_model}
use Rattle.cases.proofs.Clauses.{clause_admitted, root_named, length_noted, admitted_room}
use Rattle.cases.proofs.draft.Draft.add.Goals as goal

pub returns : goal.returns
returns g c =
    let d = draft_model c.args.self.now in
    let w = c.args.text.now in
    let told = c.in_ok-admit.ensures in
    let k = c.args.kind in
    let e = c.in_ok-entered.ensures in
    let m = c.in_ok-entered.entered in
    let read = e.value ∙ ap (λ m. answer d.formulas m w) c.form.ensures in
    let a = clause_admitted d w k told (Ok m.0) read in
    let fs = e.after ∙ ap (λ m. after d.formulas m w) c.form.ensures in
    let roots = c.note.ensures ∙ ap (noted d.roots) c.root-root.ensures in
    let t = c.enter.new.self in
    let ss = vec_items t.shapes in
    let even : length (formulas ss) % 2 ≡ 0 = subst (λ n. n % 2 ≡ 0) (t.shapes.ok.0 ∙ sym (length_formulas ss)) t.even in
    let named = e.names in
    record {
      value = ap Ok c.root-root.ensures ∙ a.0;
      after = (λ i. record { formulas = fs i; roots = roots i; clauses = d.clauses + 1; property = (ap (λ b. d.property || b) c.is_property.ensures ∙ or_comm d.property (is_property k)) i }) ∙ a.1;
      root = (named.0, named.1, root_named (formulas ss) k named.0 m c.root-root.result e.lawful even c.root-root.ensures (subst (λ f. Names (formulas ss) m (entry f named.0)) c.form.ensures named.2));
      kit = refl;
    }

pub invariant_of-self-2 : goal.invariant_of-self-2
invariant_of-self-2 g c =
    let told = c.in_ok-admit.ensures in
    let t = c.args.self.now in
    let old = t.roots.numbers in
    let new = c.note.new.self.numbers in
    let long : vec_len new ≤ vec_len old + 1 = omega (arith, new.ok.0, old.ok.0, length-map (vec_items new) (λ n. n.0), length-map (vec_items old) (λ n. n.0), ap length c.note.ensures, length_noted (plain (vec_items old)) c.root-root.result.0) in
    let e = c.in_ok-entered.ensures in
    let ss = vec_items c.enter.new.self.shapes in
    let fs = formulas ss in
    let even : length fs % 2 ≡ 0 = subst (λ n. n % 2 ≡ 0) (c.enter.new.self.shapes.ok.0 ∙ sym (length_formulas ss)) c.enter.new.self.even in
    let named = root_named fs c.args.kind e.names.0 c.in_ok-entered.entered c.root-root.result e.lawful even c.root-root.ensures (subst (λ f. Names fs c.in_ok-entered.entered (entry f e.names.0)) c.form.ensures e.names.2) in
    record { room = t.room; none = t.none; few = omega (arith, admitted_room (draft_model t) c.args.kind told); rooted = omega (arith, t.rooted); inside = subst (λ l. all_below (length fs) l ≡ true) (sym c.note.ensures) (all_below_noted (plain (vec_items old)) (length fs) c.root-root.result.0 (all_below_more (plain (vec_items old)) _ (length fs) (length_grown e.grown) t.inside) named.0) }
