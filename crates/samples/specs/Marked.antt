-- Worked examples, as one list of facts about the definitions that the contracts cite. Assumes nothing.
use Rattle.std.specs.Prelude.{◌≡◌, ℕ, true, false, List, [], ◌∷◌, map, length, Some, None, Ok, Err, codes, Option, Result}
use Rattle.std.proofs.Common.{lit<}
use Rattle.pltl.specs.Formulas.{Tree, Formula, True, False, normal}
use Rattle.pltl.specs.Runs.{Run}
use Rattle.texts.specs.declared.faults.TextFault.{TextFault}
use Rattle.texts.specs.declared.faults.Refusal.{Refusal}
use Rattle.texts.specs.declared.faults.Layer.TheVariants as layer
use Rattle.texts.specs.Faults.{layer_number, refusal}
use Rattle.tables.specs.declared.table.entering.Form.TheVariants.{Itself}
use Rattle.texts.specs.Scan.{reading}
use Rattle.tables.specs.Answers.{answer, after}
use Rattle.tables.specs.Rows.{state_of, RowOf}
use Rattle.tables.specs.Sets.{chosen}
use Rattle.kits.specs.Steps.{StepModel}
use Rattle.kits.specs.Names.{lookup}
use Rattle.sequents.specs.SequentRules.{sequent_knows, sequent_names, sequent_allows}
use Rattle.units.specs.UnitRule.{unit_allows}
use Rattle.cases.specs.Calls.{CallModel, form, step, verdict, answers_to}
use Rattle.cases.specs.Drafts.{clause, after_clause, sealed}
use Rattle.cases.specs.Models.{DraftModel, KitModel}
use Rattle.cases.specs.Roots.{contains}
use Rattle.cases.specs.Steps.{without_steps}

-- an empty table has true and false alone
abbrev pub empty : List Formula
empty = True ∷ False ∷ []

-- An answer with what is printed of a fault.
abbrev pub told : Result ℕ TextFault → Result ℕ Refusal
told (Ok n) = Ok n
told (Err f) = Err (refusal f)

-- Two states, the first with the letter a and the second with none; the last is followed by the first, or by itself.
abbrev pub to_first : Run
to_first = record { states = state_of 1 ∷ state_of 0 ∷ []; back = 0; within = lit< tt }

abbrev pub to_last : Run
to_last = record { states = state_of 1 ∷ state_of 0 ∷ []; back = 1; within = lit< tt }

-- The text spells a tree whose normal form has this row on the run.
abbrev pub TextRow : Run → List ℕ → ℕ → Type 0
TextRow r w row = (t : Tree) × (reading w ≡ Ok t) × RowOf r (normal t) row

-- The formula that a text spells.
abbrev pub spelled : Result Tree TextFault → Formula
spelled (Ok t) = normal t
spelled (Err f) = True

-- A step by unit closure from the formulas of some texts.
abbrev pub unit_step : List (List ℕ) → StepModel
unit_step ws = record { rule = 1; principal = 0; conclusion = map (λ w. spelled (reading w)) ws; premises = [] }

-- A draft with no clauses, then with `init=!b`, then with `trans=!b->X!b`, then with `prop=G!b`.
abbrev pub begun : DraftModel
begun = record { formulas = empty; roots = []; clauses = 0; property = false }

abbrev pub with_init : DraftModel
with_init = after_clause begun 1 (codes "!b")

abbrev pub with_trans : DraftModel
with_trans = after_clause with_init 3 (codes "!b->X!b")

abbrev pub drafted : DraftModel
drafted = after_clause with_trans 4 (codes "G!b")

-- Its formulas, with those of a text more.
abbrev pub with_text : List ℕ → List Formula
with_text w = after drafted.formulas Itself w

-- The formulas of some numbers.
abbrev pub of_numbers : List Formula → List ℕ → List Formula
of_numbers fs ns = chosen (contains ns) fs

-- A step by the rule some+ on Fb, number 11; the second premise has number 14.
abbrev pub some_step : List Formula → StepModel
some_step fs = record {
  rule = 9;
  principal = 11;
  conclusion = of_numbers fs (2 ∷ 8 ∷ 11 ∷ []);
  premises = of_numbers fs (2 ∷ 3 ∷ []) ∷ of_numbers fs (2 ∷ 8 ∷ 14 ∷ []) ∷ [];
}

-- Kit s, as a case sees it.
abbrev pub by_sequents : KitModel
by_sequents = record { knows = sequent_knows; allows = sequent_allows }

-- The rule of a name in kit s, 0 for an unknown one.
abbrev pub or_none : Option ℕ → ℕ
or_none (Some n) = n
or_none None = 0

abbrev pub stepped : List ℕ → ℕ → List ℕ → List ℕ → CallModel
stepped name p ns ps = step (record { rule = or_none (lookup sequent_names name); principal = p; conclusion = ns; premises = ps })

-- The evidence that the draft's property holds: a text, six steps, and the verdict.
abbrev pub evidence : List CallModel
evidence =
    form (codes "X(bUb)") ∷
    stepped (codes "contra") 2 (2 ∷ 3 ∷ []) [] ∷
    stepped (codes "until") 12 (2 ∷ 12 ∷ []) (1 ∷ 1 ∷ []) ∷
    stepped (codes "next") 0 (4 ∷ 14 ∷ []) (2 ∷ []) ∷
    stepped (codes "or") 6 (2 ∷ 6 ∷ 14 ∷ []) (1 ∷ 3 ∷ []) ∷
    stepped (codes "always") 8 (2 ∷ 8 ∷ 14 ∷ []) (4 ∷ []) ∷
    stepped (codes "some+") 11 (2 ∷ 8 ∷ 11 ∷ []) (1 ∷ 5 ∷ []) ∷
    verdict ∷
    []

pub record MarkedSamples : Type 0 where
  pub opposite_first : answer empty Itself (codes "!(aUb)") ≡ Ok 6
  pub opposite_beside : answer (after empty Itself (codes "!(aUb)")) Itself (codes "aUb") ≡ Ok 7
  pub implies_to_the_right : answer empty Itself (codes "a->b->a") ≡ Ok 8
  pub until_before_and : answer empty Itself (codes "aUb&c") ≡ Ok 10
  pub text_layer : layer_number layer.Text ≡ 1
  pub only_begun : told (answer empty Itself (codes "G")) ≡ Err (record { number = 4; layer = layer.Text; place = 1 })
  pub two_letters : told (answer empty Itself (codes "aa")) ≡ Err (record { number = 3; layer = layer.Text; place = 1 })
  pub bracket_open : told (answer empty Itself (codes "(a")) ≡ Err (record { number = 4; layer = layer.Text; place = 2 })
  pub next_row : TextRow to_first (codes "Xa") 2
  pub infinitely_often : TextRow to_first (codes "GFa") 3
  pub at_last_always : TextRow to_first (codes "FGa") 0
  pub only_once : TextRow to_last (codes "GFa") 0
  pub until_not : TextRow to_last (codes "aU!a") 3
  pub unit_contradicts : unit_allows (unit_step (codes "a|b" ∷ codes "!a" ∷ codes "!b" ∷ [])) ≡ true
  pub unit_leaves_open : unit_allows (unit_step (codes "a|b" ∷ codes "!a" ∷ [])) ≡ false
  pub some_again : sequent_allows (with_text (codes "X(bUb)")) (some_step (with_text (codes "X(bUb)"))) ≡ true
  pub some_not_again : sequent_allows (with_text (codes "X(0Ub)")) (some_step (with_text (codes "X(0Ub)"))) ≡ false
  pub init_answered : clause begun 1 (codes "!b") ≡ Ok 2
  pub trans_answered : clause with_init 3 (codes "!b->X!b") ≡ Ok 8
  pub prop_answered : clause with_trans 4 (codes "G!b") ≡ Ok 11
  pub roots_counted : length (sealed drafted).roots ≡ 3
  pub derivation_taken : answers_to by_sequents (without_steps (sealed drafted)) evidence ≡ Ok 14 ∷ Ok 1 ∷ Ok 2 ∷ Ok 3 ∷ Ok 4 ∷ Ok 5 ∷ Ok 6 ∷ Ok 1 ∷ []
