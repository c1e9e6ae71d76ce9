use Rattle.std.proofs.Common.{ℕ, ◌<◌, length}
use Rattle.tables.specs.Listing.{numbered}
use Rattle.tables.proofs.SetLists.{passing_here, passing_turn, passing_end}
use Rattle.kits.specs.Steps.{listed, formulas_in}
use Rattle.units.specs.Closures.{Brought}
use Rattle.units.proofs.ClosedSets.{inside_formulas, brought_more}
use Rattle.units.proofs.closure.round.Goals as goal

pub with_brought-grown-requires : goal.with_brought-grown-requires
with_brought-grown-requires c =
    let inv = c.loop-k.invariant in
    inv.0 c.in-Some.k.0 (passing_here _ c.args.set c.loop-k.k-iterator.rest c.next.new.self.rest c.in-Some.k c.in-Some.ensures.steps inv.2)

pub loop-k-preserved : goal.loop-k-preserved
loop-k-preserved c =
    let fs = listed c.args.table.now in
    let s = c.args.set in
    let old = c.loop-k.grown in
    let new = c.with_brought-grown.result in
    let k = c.in-Some.k in
    let inv = c.loop-k.invariant in
    let more = c.with_brought-grown.ensures in
    let Done : ℕ → Type 0 = λ j. j < length fs → Brought (formulas_in fs s) (formulas_in fs new) (numbered fs j) in (
      λ j m. more.kept j (inv.0 j m),
      λ Γ w. more.sound Γ (inv.1 Γ w),
      passing_turn _ s c.loop-k.k-iterator.rest c.next.new.self.rest k c.in-Some.ensures.steps Done inv.2
          (λ j done lt. brought_more (formulas_in fs s) (formulas_in fs s) (formulas_in fs old) (formulas_in fs new) (numbered fs j) (λ g i. i) (inside_formulas fs old new more.kept) (done lt))
          (λ lt. brought_more (formulas_in fs s) (formulas_in fs old) (formulas_in fs new) (formulas_in fs new) (numbered fs k.0) (inside_formulas fs s old inv.0) (λ g i. i) (more.brought lt)),
    )

pub returns : goal.returns
returns c =
    let inv = c.loop-k.invariant in
    record {
      kept = inv.0;
      sound = inv.1;
      brought = λ k lt m. passing_end _ c.args.set c.loop-k.k-iterator.rest c.in-None.ensures.steps.0 inv.2 k m lt;
    }
