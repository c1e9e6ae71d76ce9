-- Why a text is read as it is to be: the pass over the whole of it, after the two tests of its length.
use Rattle.std.proofs.Common.{rules, ◌≡◌, ℕ, ◌≤◌, false, eqb, List, [], length, Ok, Err, Result, sym, refl, ap, ◌∙◌, subst, arith}
use Rattle.std.proofs.lemmas.Bool.{eqb-true, eqb-false}
use Rattle.pltl.specs.Formulas.{Tree}
use Rattle.texts.specs.declared.faults.TextFault.{TextFault}
use Rattle.texts.specs.declared.faults.TextFault.TheVariants.{Empty, TooLong}
use Rattle.texts.specs.declared.nodes.Node.{Node}
use Rattle.texts.specs.Reading.{Reads}
use Rattle.texts.specs.Scan.{nothing, scan, start, reading}
use Rattle.texts.specs.Syntax.{tree_at}
use Rattle.texts.proofs.Parses.{handed_on, whole_text, more_follows}
use Rattle.texts.proofs.Passes.{scan_spelled}
use Rattle.texts.proofs.Readings.{sized_reading, reads_reading, reads_as_reading}
use Rattle.texts.proofs.nodes.Syntax.read.Goals as goal

scanned : (w : List ℕ) {r : Result Tree TextFault} → eqb (length w) 0 ≡ false → length w ≤ 512 → scan 0 start w ≡ r → r ≡ reading w
scanned w e h s = sym (sized_reading w (omega (arith, eqb-false (length w) 0 e), h) ∙ s)

read_by : (w : List ℕ) (r : Result Tree TextFault) → r ≡ reading w → Reads w r
read_by w r e = subst (Reads w) (sym e) (reads_reading w)

-- the nodes at the end of the borrow are those that the reader left
ends : (ns ms : List Node) (i : ℕ) {r : Result Tree TextFault} → ns ≡ ms → Ok (tree_at ms i) ≡ r → Ok (tree_at ns i) ≡ r
ends ns ms i e h = ap (λ x. Ok (tree_at x i)) e ∙ h

pub returns-then-is_empty : goal.returns-then-is_empty
returns-then-is_empty c =
    let h = eqb-true _ 0 (sym c.if-is_empty.ensures) in
    record { value = sym (reads_as_reading c.args.text.now (Err Empty) h); reads = h }

pub returns-then-text-gt-LONGEST : goal.returns-then-text-gt-LONGEST
returns-then-text-gt-LONGEST c =
    let h = c.if-text-gt-LONGEST.true in
    record { value = sym (reads_as_reading c.args.text.now (Err TooLong) h); reads = h }

pub returns-in_err-root : goal.returns-in_err-root
returns-in_err-root c = rw (handed_on _ c.from_residual.ensures.1)
    (let e = scanned c.args.text.now (sym c.if-is_empty.ensures) c.if-text-gt-LONGEST.false (c.in_err-root.ensures.reads nothing []) in
    record { value = e; reads = read_by _ _ e })

pub returns : goal.returns
returns c =
    let s = scan_spelled (whole_text c.in_ok-root.ensures.reads refl c.if-reader-text.false) in
    let e = ends _ _ _ (search rules) (scanned c.args.text.now (sym c.if-is_empty.ensures) c.if-text-gt-LONGEST.false s) in
    record { value = e; reads = read_by _ _ e }

pub returns-then-reader-text : goal.returns-then-reader-text
returns-then-reader-text c =
    let e = scanned c.args.text.now (sym c.if-is_empty.ensures) c.if-text-gt-LONGEST.false (more_follows c.in_ok-root.ensures.reads c.if-reader-text.true) in
    record { value = e; reads = read_by _ _ e }
