-- The calls clause, seal and form: refusal or answer, and what is held afterwards. Assumes nothing.
use Rattle.std.specs.Prelude.{◌≡◌, ℕ, ◌+◌, Bool, true, false, cond, ◌&&◌, ◌||◌, List, [], Some, None, Ok, Err, Option, Result, ◌==◌, nat_le}
use Rattle.pltl.specs.Formulas.{Tree, Formula, opposite, normal}
use Rattle.pltl.specs.Formulas as formula
use Rattle.texts.specs.declared.faults.TextFault.{TextFault}
use Rattle.tables.specs.declared.table.entering.Form.{Form}
use Rattle.tables.specs.declared.table.entering.Form.TheVariants.{Itself, Always}
use Rattle.tables.specs.Answers.{answer, after}
use Rattle.tables.specs.Numbers.{beside}
use Rattle.tables.specs.Steps.{Names}
use Rattle.tables.specs.declared.number.Number.{Number}
use Rattle.texts.specs.Grammar.{Spells, implication}
use Rattle.cases.specs.declared.faults.CaseFault.{CaseFault}
use Rattle.cases.specs.declared.faults.CaseFault.TheVariants.{UnknownKind, SecondProperty, TooManyClauses}
use Rattle.cases.specs.declared.faults.CallFault.{CallFault}
use Rattle.cases.specs.declared.faults.CallFault.TheVariants.{Text, Case}
use Rattle.cases.specs.declared.kind.ClauseKind.{ClauseKind}
use Rattle.cases.specs.declared.kind.ClauseKind.TheVariants.{Init, Invariant, Transition, Property}
use Rattle.cases.specs.Models.{DraftModel, RunModel, CaseModel}
use Rattle.cases.specs.Roots.{noted}

-- The kinds of clauses by number: 1 init, 2 invariant, 3 transition, 4 property.
abbrev pub kind_of : ℕ → Option ClauseKind
kind_of n = cond (n == 1) (Some Init) (cond (n == 2) (Some Invariant) (cond (n == 3) (Some Transition) (cond (n == 4) (Some Property) None)))

-- The kind with a number, or the refusal where there is none.
abbrev pub KindNumbered : ℕ → Result ClauseKind CaseFault → Type 0
KindNumbered n (Ok k) = kind_of n ≡ Some k
KindNumbered n (Err f) = (kind_of n ≡ None) × (f ≡ UnknownKind)

-- The root formula of a clause: the formula, its always, or its opposite.
abbrev pub root_formula : ClauseKind → Tree → Formula
root_formula Init t = normal t
root_formula Invariant t = formula.Always (normal t)
root_formula Transition t = formula.Always (normal t)
root_formula Property t = opposite (normal t)

-- n is the number of the root formula of a clause: its text spells a tree, whose root formula of that kind has the
-- number n.
abbrev pub RootOfKind : List Formula → Number → ClauseKind → List ℕ → Type 0
RootOfKind fs n k w = (t : Tree) × Spells implication t w × Names fs n (root_formula k t)

-- The same, by the number of the kind.
abbrev pub RootOf : List Formula → Number → ℕ → List ℕ → Type 0
RootOf fs n kind w = (k : ClauseKind) × (t : Tree) × (kind_of kind ≡ Some k) × Spells implication t w × Names fs n (root_formula k t)

abbrev pub form_of : ClauseKind → Form
form_of Init = Itself
form_of Invariant = Always
form_of Transition = Always
form_of Property = Itself

-- The number of the root formula, by the number of the formula that was entered.
abbrev pub root_number : ClauseKind → ℕ → ℕ
root_number Init n = n
root_number Invariant n = n
root_number Transition n = n
root_number Property n = beside n

abbrev pub is_property : ClauseKind → Bool
is_property Init = false
is_property Invariant = false
is_property Transition = false
is_property Property = true

-- What a draft objects to a clause before its text is read, in the order of the checks.
abbrev pub objection : DraftModel → Option ClauseKind → Option CaseFault
objection d None = Some UnknownKind
objection d (Some k) = cond (is_property k && d.property) (Some SecondProperty) (cond (nat_le 40 d.clauses) (Some TooManyClauses) None)

abbrev pub clause_of_kind : DraftModel → ClauseKind → Result ℕ TextFault → Result ℕ CallFault
clause_of_kind d k (Ok n) = Ok (root_number k n)
clause_of_kind d k (Err f) = Err (Text f)

abbrev pub draft_of_kind : DraftModel → List Formula → ClauseKind → Result ℕ TextFault → DraftModel
draft_of_kind d fs k (Ok n) = record { formulas = fs; roots = noted d.roots (root_number k n); clauses = d.clauses + 1; property = is_property k || d.property }
draft_of_kind d fs k (Err f) = d

abbrev pub clause_unless : Option CaseFault → DraftModel → Option ClauseKind → List ℕ → Result ℕ CallFault
clause_unless (Some f) d k w = Err (Case f)
clause_unless None d (Some k) w = clause_of_kind d k (answer d.formulas (form_of k) w)
clause_unless None d None w = Err (Case UnknownKind)

abbrev pub draft_unless : Option CaseFault → DraftModel → Option ClauseKind → List ℕ → DraftModel
draft_unless (Some f) d k w = d
draft_unless None d (Some k) w = draft_of_kind d (after d.formulas (form_of k) w) k (answer d.formulas (form_of k) w)
draft_unless None d None w = d

-- A clause of a kind, if there is one: the answer, and the draft afterwards.
abbrev pub clause_of : DraftModel → Option ClauseKind → List ℕ → Result ℕ CallFault
clause_of d k w = clause_unless (objection d k) d k w

abbrev pub after_clause_of : DraftModel → Option ClauseKind → List ℕ → DraftModel
after_clause_of d k w = draft_unless (objection d k) d k w

-- A clause by the number of its kind: the answer, and the draft afterwards.
unfoldable pub clause : DraftModel → ℕ → List ℕ → Result ℕ CallFault
clause d n w = clause_of d (kind_of n) w

unfoldable pub after_clause : DraftModel → ℕ → List ℕ → DraftModel
after_clause d n w = after_clause_of d (kind_of n) w

-- no states, and no back position
abbrev pub no_run : RunModel
no_run = record { states = []; back = None }

-- Seal: without a property, number 0 is added as a root. The answer is the count of root formulas.
abbrev pub sealed : DraftModel → CaseModel
sealed d = record { formulas = d.formulas; roots = cond d.property d.roots (noted d.roots 0); run = no_run }

-- Form: the case afterwards.
abbrev pub after_form : CaseModel → List ℕ → CaseModel
after_form c w = record { formulas = after c.formulas Itself w; roots = c.roots; run = c.run }
