-- A pair of kits: rules 1 to 99 go to the first, 101 to 999 to the second with 100 taken off. A reader has to believe
-- this file. Assumes nothing.
use Rattle.std.specs.Prelude.{ℕ, ◌+◌, ◌-◌, Bool, cond, ◌&&◌, Some, None, Option, nat_le}
use Rattle.kits.specs.Steps.{StepModel}

-- the rule is one of the second kit's
abbrev pub second_rule : ℕ → Bool
second_rule n = nat_le 101 n && nat_le n 999

abbrev pub pair_knows : (ℕ → Bool) → (ℕ → Bool) → ℕ → Bool
pair_knows first second n = cond (nat_le n 99) (first n) (second_rule n && second (n - 100))

-- a step with 100 taken off its rule
abbrev pub lowered : StepModel → StepModel
lowered st = record { rule = st.rule - 100; principal = st.principal; conclusion = st.conclusion; premises = st.premises }

abbrev pub pair_allows : (StepModel → Bool) → (StepModel → Bool) → StepModel → Bool
pair_allows first second st = cond (nat_le st.rule 99) (first st) (second_rule st.rule && second (lowered st))

-- The second kit's number of a name, with 100 added, if that is at most 999.
abbrev pub raised : Option ℕ → Option ℕ
raised None = None
raised (Some n) = cond (nat_le (n + 100) 999) (Some (n + 100)) None

-- The number of a name, by the numbers that the two kits have for it.
abbrev pub pair_named : Option ℕ → Option ℕ → Option ℕ
pair_named None o = raised o
pair_named (Some n) o = cond (nat_le n 99) (Some n) (raised o)
