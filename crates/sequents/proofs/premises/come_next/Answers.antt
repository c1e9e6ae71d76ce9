use Rattle.std.proofs.Common.{[], map, get_or, Decides, sym, subst, inl, ⊎_elim, arith}
use Rattle.pltl.specs.Formulas.{Next}
use Rattle.calculus.specs.Sequents.{◌∈◌}
use Rattle.calculus.specs.Rules.{Rule}
use Rattle.calculus.specs.Rules as rule
use Rattle.tables.specs.declared.sequent.Sequent.{Sequent}
use Rattle.sequents.specs.Rooms.{Inside, FitsRoom}
use Rattle.kits.specs.Steps.{listed, formulas_in}
use Rattle.sequents.specs.AllowedSteps.{only_one, next_fits}
use Rattle.kits.proofs.InSequents.{in_from_number, number_from_in}
use Rattle.sequents.proofs.premises.come_next.Goals as goal

abbrev none : Sequent
none = record { words = [] }

pub returns-in-len1 : goal.returns-in-len1
returns-in-len1 c =
    λ m.
    let fs = listed c.args.table.now in
    let s = c.args.conclusion.now in
    let Γ = formulas_in fs s in
    let ps = c.args.premises.now in
    let p = get_or ps 0 none in
    let next = c.nexts.result in
    let n = c.nexts.ensures in
    let one = only_one ps none (omega (arith, c.in-len1.len_at_least, c.in-len1.len_below)) in
    let h = subst (λ r. Decides c.fits.result (FitsRoom fs s r (formulas_in fs p))) c.of.ensures c.fits.ensures in (
      λ e.
          subst (λ qs. Rule Γ m 11 (map (formulas_in fs) qs)) (sym one)
          (rule.next
          (λ g i.
          ⊎_elim
          (λ q. let r = number_from_in fs next g q in subst (λ x. Next x ∈ Γ) r.3 ((n r.0 r.1).0 r.2))
          (λ x. absurd x)
          (h.0 e g i))),
      λ t.
          let fits = next_fits (subst (λ qs. Rule Γ m 11 (map (formulas_in fs) qs)) one t) in
          h.1
          (λ g i.
          let r = number_from_in fs p g i in
          inl (subst (Inside fs next) r.3 (in_from_number fs next r.0 r.1 ((n r.0 r.1).1 (subst (λ x. Next x ∈ Γ) (sym r.3) (fits g i)))))),
    )
