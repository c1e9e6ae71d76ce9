use Rattle.std.proofs.Common.{◌≡◌, ◌+◌, ◌/◌, Bool, true, false, ◌&&◌, ◌||◌, eqb, sym, refl, ap, ◌∙◌, ap₂}
use Rattle.std.proofs.lemmas.Bool.{and_right}
use Rattle.tables.specs.Rows.{bit}
use Rattle.tables.proofs.BitTests.{bit_of_or, bit_shr, bit_only, bit_zero}
use Rattle.tables.proofs.SweptWords.{last_bit}
use Rattle.tables.proofs.words.next.Goals as goal
use Rattle.tables.proofs.words.next.Goals.{then-holds_at, else-holds_at}

and_true : (x y : Bool) → y ≡ true → x ≡ (x && y)
and_true true y e = sym e
and_true false y e = refl

pub returns : goal.returns
returns c i =
    let row = c.args.row in
    let last = eqb (i + 1) c.args.len in
    let goes = bit row c.args.back in
    let turn : bit c.if-holds_at.turn i ≡ (last && goes) =
    elim c.if-holds_at.branch [
      | then-holds_at w ↦
          ap (λ t. bit t i) (w.turn-is ∙ w.only-turn.ensures) ∙ bit_only _ i ∙ last_bit c.args.len i c.requires.0 ∙ and_true last goes (sym c.holds_at.ensures ∙ w.if-holds_at.true)
      | else-holds_at w ↦
          ap (λ t. bit t i) w.turn-is ∙ bit_zero i ∙ sym (and_right last goes (sym c.holds_at.ensures ∙ w.if-holds_at.false))
    ] in
    bit_of_or (row / 2) c.if-holds_at.turn i ∙ ap₂ (λ x y. x || y) (bit_shr row 1 i) turn
