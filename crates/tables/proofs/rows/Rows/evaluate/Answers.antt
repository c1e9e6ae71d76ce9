use Rattle.std.proofs.Common.{◌≡◌, ℕ, List, length, get_or, sym, ap, ◌∙◌, subst}
use Rattle.pltl.specs.Formulas.{Formula}
use Rattle.pltl.specs.Formulas as formula
use Rattle.pltl.specs.Runs.{Run}
use Rattle.pltl.specs.Shapes.{formula_of, Each}
use Rattle.pltl.specs.declared.Shape.{Shape}
use Rattle.tables.specs.declared.number.Number.{Number}
use Rattle.tables.specs.Rows.{RowOf}
use Rattle.tables.proofs.RunRows.{row_is, row_isn't, row_next, row_until, row_eventually, row_always, row_release}
use Rattle.tables.proofs.rows.Rows.evaluate.Goals as goal

-- the row of a shape that is known
known : (words : List ℕ) (s t : Shape Number) → s ≡ t → (r : Run) (f : Number → Formula) (w : ℕ) → (Each (λ n. RowOf r (f n) (get_or words n.0 0)) t → RowOf r (formula_of f t) w) → Each (λ n. RowOf r (f n) (get_or words n.0 0)) s → RowOf r (formula_of f s) w
known words s t e r f w = subst (λ x. Each (λ n. RowOf r (f n) (get_or words n.0 0)) x → RowOf r (formula_of f x) w) (sym e)

read : (r : Run) (f : Formula) (w v : ℕ) → w ≡ v → RowOf r f v → RowOf r f w
read r f w v e = subst (RowOf r f) (sym e)

pub returns-in-Letter : goal.returns-in-Letter
returns-in-Letter c r is turn f =
    let s = c.args.states.now in
    let p = c.in-Letter.p in
    known c.args.self.now.words _ _ c.in-Letter.is r f _
    (λ _. read r (formula.Is p) _ _ c.letter.ensures (row_is r s.letters s.len p is (s.clean p)))

pub returns-in-NotLetter : goal.returns-in-NotLetter
returns-in-NotLetter c r is turn f =
    let s = c.args.states.now in
    let p = c.in-NotLetter.p in
    known c.args.self.now.words _ _ c.in-NotLetter.is r f _
    (λ _. row_isn't r c.len-len.result c.args.back (ap length is ∙ sym c.len-len.ensures.value) turn p _ _
    (read r (formula.Is p) _ _ c.letter-in-NotLetter.ensures (row_is r s.letters s.len p is (s.clean p)))
    c.complement.ensures)

pub returns-in-Next : goal.returns-in-Next
returns-in-Next c r is turn f =
    known c.args.self.now.words _ _ c.in-Next.is r f _
    (λ h. row_next r c.len-len.result c.args.back (ap length is ∙ sym c.len-len.ensures.value) turn (f c.in-Next.a) _ _
    (read r (f c.in-Next.a) _ _ c.row.ensures h)
    c.next.ensures)

pub returns-in-Always : goal.returns-in-Always
returns-in-Always c r is turn f =
    known c.args.self.now.words _ _ c.in-Always.is r f _
    (λ h. row_always r c.len-len.result c.args.back (ap length is ∙ sym c.len-len.ensures.value) turn (f c.in-Always.a) _ _ _ _ _
    c.positions-in-Always.ensures
    (read r (f c.in-Always.a) _ _ c.row-in-Always.ensures h)
    c.complement-missing.ensures
    c.until.ensures
    c.complement-in-Always.ensures)

pub returns-in-Eventually : goal.returns-in-Eventually
returns-in-Eventually c r is turn f =
    known c.args.self.now.words _ _ c.in-Eventually.is r f _
    (λ h. row_eventually r c.len-len.result c.args.back (ap length is ∙ sym c.len-len.ensures.value) turn (f c.in-Eventually.a) _ _ _
    c.positions-in-Eventually.ensures
    (read r (f c.in-Eventually.a) _ _ c.row-in-Eventually.ensures h)
    c.until-in-Eventually.ensures)

pub returns-in-Until : goal.returns-in-Until
returns-in-Until c r is turn f =
    known c.args.self.now.words _ _ c.in-Until.is r f _
    (λ h. row_until r c.len-len.result c.args.back (ap length is ∙ sym c.len-len.ensures.value) turn (f c.in-Until.a) (f c.in-Until.b) _ _ _
    (read r (f c.in-Until.a) _ _ c.row-in-Until.ensures h.0)
    (read r (f c.in-Until.b) _ _ c.row-in-Until-2.ensures h.1)
    c.until-in-Until.ensures)

pub returns-in-Release : goal.returns-in-Release
returns-in-Release c r is turn f =
    known c.args.self.now.words _ _ c.in-Release.is r f _
    (λ h. row_release r c.len-len.result c.args.back (ap length is ∙ sym c.len-len.ensures.value) turn (f c.in-Release.a) (f c.in-Release.b) _ _ _ _ _ _
    (read r (f c.in-Release.a) _ _ c.row-in-Release.ensures h.0)
    (read r (f c.in-Release.b) _ _ c.row-in-Release-2.ensures h.1)
    c.complement-not_a.ensures
    c.complement-not_b.ensures
    c.until-in-Release.ensures
    c.complement-in-Release.ensures)
