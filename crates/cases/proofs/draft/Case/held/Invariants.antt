use Rattle.std.proofs.Common.{◌≡◌, map, take, vec_items}
use Rattle.arrayvec.specs.ArrayVec.{array_vec_len}
use Rattle.tables.specs.Sets.{member}
use Rattle.cases.specs.Steps.{conclusion_of}
use Rattle.cases.proofs.draft.Case.held.Given as goal

-- the premises that are past are held
abbrev pub invariant-loop-premise : goal.invariant-loop-premise
invariant-loop-premise g l = (array_vec_len l.held ≡ l.premise-index) × (map member l.held.items ≡ map (conclusion_of (map member (vec_items l.self.steps))) (take l.premise-index l.premises))
