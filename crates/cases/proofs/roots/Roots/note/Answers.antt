use Rattle.std.proofs.Common.{◌≡◌, true, [], ◌∷◌, ◌++◌, vec_items, sym, ap, ◌∙◌, subst, rules}
use Rattle.std.proofs.lemmas.List.{map-append}
use Rattle.cases.specs.Roots.{none_twice, plain}
use Rattle.cases.proofs.Noted.{none_twice_push}
use Rattle.cases.proofs.roots.Roots.note.Goals as goal
use Rattle.cases.proofs.roots.Roots.note.Goals.{After-push_reserved}

pushed : (c : After-push_reserved) → plain (vec_items c.push_reserved.new.self) ≡ plain (vec_items c.args.self.now.numbers) ++ c.args.number.0 ∷ []
pushed c = ap plain c.push_reserved.ensures.items ∙ map-append (λ n. n.0) (vec_items c.args.self.now.numbers) (c.args.number ∷ [])

pub invariant_of-self : goal.invariant_of-self
invariant_of-self c =
    let v = c.args.self.now in
    record { room = search rules; once = subst (λ l. none_twice l ≡ true) (sym (pushed c)) (none_twice_push (plain (vec_items v.numbers)) c.args.number.0 v.once (sym c.if-not-contains.ensures)) }
