use Rattle.std.proofs.Common.{◌≡◌, map, drop, vec_items}
use Rattle.tables.specs.Sets.{member}
use Rattle.std.specs.List.{list_any}
use Rattle.cases.specs.Verdicts.{only_roots}
use Rattle.cases.specs.Views.{case_model}
use Rattle.cases.proofs.draft.Case.has_refuted_roots.Given as goal

-- the answer is that for what is left
abbrev pub invariant-loop-conclusion : goal.invariant-loop-conclusion
invariant-loop-conclusion g l = list_any (only_roots (case_model l.self)) (map member (drop l.conclusion-index (vec_items l.self.steps))) ≡ list_any (only_roots (case_model l.self)) (map member (vec_items l.self.steps))
