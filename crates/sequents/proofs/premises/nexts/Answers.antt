use Rattle.std.proofs.Common.{◌≡◌, ℕ, ◌<◌, length, ap, ◌∙◌, subst, inl, inr, ⊎_elim}
use Rattle.std.proofs.lemmas.Bool.{both_ways}
use Rattle.pltl.specs.Formulas.{Formula, Next}
use Rattle.calculus.specs.Sequents.{◌∈◌}
use Rattle.tables.specs.Listing.{numbered}
use Rattle.tables.proofs.SetLists.{passing_start, passing_here, passing_turn, passing_end}
use Rattle.sequents.specs.Rooms.{Inside}
use Rattle.kits.specs.Steps.{listed, formulas_in}
use Rattle.kits.proofs.InSequents.{in_from_number, number_from_in, member_from_in, table_lawful}
use Rattle.sequents.proofs.premises.nexts.Goals as goal

pub loop-k-init : goal.loop-k-init
loop-k-init c = (
  λ g i. let r = number_from_in _ c.empty-found.result g i in absurd (both_ways _ (c.empty-found.ensures r.0) r.2),
  passing_start _ c.args.conclusion.now _ (ap (λ m. m.rest) c.into_iter-k-iterator.ensures.into_iter_gives ∙ c.iter-k-items.ensures),
)

pub loop-k-preserved : goal.loop-k-preserved
loop-k-preserved c =
    let fs = listed c.args.table.now in
    let s = c.args.conclusion.now in
    let rest = c.loop-k.k-iterator.rest in
    let left = c.next.new.self.rest in
    let k = c.in-Some.k in
    let turn = c.in-Some.ensures.steps in
    let inv = c.loop-k.invariant in
    let more = c.with_next-found.ensures in
    let Found : ℕ → Type 0 = λ j. j < length fs → (g : Formula) → numbered fs j ≡ Next g → g ∈ formulas_in fs c.with_next-found.result in (
      λ g i. ⊎_elim (inv.0 g) (λ n. subst (Inside fs s) n.1 (in_from_number fs s k.0 n.0 (passing_here _ s rest left k turn inv.1))) ((more g).0 i),
      passing_turn _ s rest left k turn Found inv.1 (λ j old lt g e. (more g).1 (inl (old lt g e))) (λ lt g e. (more g).1 (inr (lt, e))),
    )

pub returns : goal.returns
returns c =
    let t = c.args.table.now in
    let fs = listed t in
    let s = c.args.conclusion.now in
    let found = c.loop-k.found in
    let inv = c.loop-k.invariant in
    λ k lt. (
      λ m. inv.0 (numbered fs k) (in_from_number fs found k lt m),
      λ i.
          let r = number_from_in fs s (Next (numbered fs k)) i in
          member_from_in fs (table_lawful t) found k lt (passing_end _ s c.loop-k.k-iterator.rest c.in-None.ensures.steps.0 inv.1 r.0 r.2 r.1 (numbered fs k) r.3),
    )
