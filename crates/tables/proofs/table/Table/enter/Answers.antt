use Rattle.std.proofs.Common.{◌≡◌, ◌%◌, ◌≤◌, length, take, Err, vec_items, sym, ap, ◌∙◌, subst, arith}
use Rattle.std.proofs.lemmas.List.{take_at}
use Rattle.tables.specs.Listing.{formulas, PartsSmaller, Lawful}
use Rattle.tables.specs.Steps.{Grown}
use Rattle.std.proofs.lemmas.Result.{err_from_is_err_and}
use Rattle.tables.specs.Answers.{answer_read, after_read, by_number}
use Rattle.tables.proofs.Answered.{full_answer, taken_answer}
use Rattle.tables.proofs.Growth.{grown_none}
use Rattle.tables.proofs.Laws.{lawful_from}
use Rattle.tables.proofs.Listed.{length_formulas, formulas_grown, parts_smaller}
use Rattle.tables.proofs.table.Table.enter.Goals as goal
use Rattle.tables.proofs.table.Table.enter.Goals.{After-truncate}

-- what was added is cut off again
restored : (c : After-truncate) → vec_items c.truncate.new.self ≡ vec_items c.args.self.now.shapes
restored c =
    let v = c.args.self.now.shapes in
    let g = c.in_default.ensures.grown in
    c.truncate.ensures.items ∙ ap (take c.len-before.result) g.is ∙ take_at (vec_items v) g.more c.len-before.result (sym (c.len-before.ensures ∙ v.ok.0))

pub returns-in_default : goal.returns-in_default
returns-in_default c =
    let c' = (goal.at.returns-in_default c).After-truncate in
    let fs = formulas (vec_items c.args.self.now.shapes) in
    let a = full_answer fs c.args.form c.args.text.now _ c.in_ok-root.ensures.value c.in_default.ensures.value in
    let same = ap formulas (restored c') in
    record { value = a.0; after = same ∙ a.1; names = tt; grown = subst (Grown fs) (sym same) (grown_none fs); lawful = subst Lawful (sym same) (lawful_from c.args.self.now.lawful); parts = subst PartsSmaller (sym same) (parts_smaller _ c.args.self.now.order) }

pub returns : goal.returns
returns c =
    let h = c.in-Some.ensures in
    let t = c.number_form.new.self in
    let ss = vec_items t.shapes in
    let even : length (formulas ss) % 2 ≡ 0 = subst (λ n. n % 2 ≡ 0) (t.shapes.ok.0 ∙ sym (length_formulas ss)) t.even in
    let few : length (formulas ss) ≤ 512 = omega (arith, t.few, t.shapes.ok.0, length_formulas ss) in
    let a = taken_answer (formulas (vec_items c.args.self.now.shapes)) c.args.form c.args.text.now _ c.in_ok-root.ensures.value (formulas ss) c.in-Some.number h.value.0 few (lawful_from t.lawful) even h.value.1 in
    record { value = a.0; after = a.1; names = (_, c.in_ok-root.ensures.reads.1, h.value.1); grown = formulas_grown h.grown; lawful = lawful_from t.lawful; parts = parts_smaller ss t.order }

pub returns-in_err-root : goal.returns-in_err-root
returns-in_err-root c =
    let p = err_from_is_err_and c.from_residual.result c.from_residual.ensures.1 in
    let read = c.in_err-root.ensures.value in
    let fs = formulas (vec_items c.args.self.now.shapes) in
    record {
      value = ap by_number p.1 ∙ ap Err p.2 ∙ ap (answer_read fs c.args.form) read;
      after = ap (after_read fs c.args.form) read;
      names = rw p.1 tt;
      grown = grown_none fs;
      lawful = lawful_from c.args.self.now.lawful;
      parts = parts_smaller _ c.args.self.now.order;
    }
