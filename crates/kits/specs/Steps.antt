-- Steps as kits read them in a table, and what a kit answers. A reader has to believe this file. Assumes nothing.
use Rattle.std.specs.Prelude.{ℕ, Bool, true, false, List, Ok, Err, Result, map, vec_items}
use Rattle.pltl.specs.Formulas.{Formula}
use Rattle.tables.specs.declared.table.Table.{Table}
use Rattle.tables.specs.declared.sequent.Sequent.{Sequent}
use Rattle.tables.specs.Listing.{formulas}
use Rattle.tables.specs.Sets.{member, chosen}
use Rattle.kits.specs.declared.steps.Step.{Step}
use Rattle.kits.specs.declared.faults.KitFault.{KitFault}
use Rattle.kits.specs.declared.faults.KitFault.TheVariants.{Unknown, NotAllowed}

-- A step: a rule, a principal number, a conclusion and premises. Conclusion and premises are sets of formulas.
pub record StepModel : Type 0 where
  pub rule : ℕ
  pub principal : ℕ
  pub conclusion : List Formula
  pub premises : List (List Formula)

-- The formulas of a table, by number.
abbrev pub listed : Table → List Formula
listed t = formulas (vec_items t.shapes)

-- The formulas of a sequent, among formulas by number.
abbrev pub formulas_in : List Formula → Sequent → List Formula
formulas_in fs s = chosen (member s) fs

-- A step and its premises, read in a table with the formulas fs.
abbrev pub step_model : List Formula → Step → List Sequent → StepModel
step_model fs st ps = record { rule = st.rule; principal = st.principal; conclusion = formulas_in fs st.conclusion; premises = map (formulas_in fs) ps }

-- What a kit answers where the rule is known or not, and the step allowed or not.
abbrev pub judgement : Bool → Bool → Result (Unit {0}) KitFault
judgement false allowed = Err Unknown
judgement true true = Ok tt
judgement true false = Err NotAllowed
