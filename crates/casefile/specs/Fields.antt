-- The lines of a sheet. Assumes nothing.
use Rattle.std.specs.Prelude.{ℕ, List, [], ◌∷◌, ◌++◌, codes, decimal}
use Rattle.texts.specs.declared.faults.Refusal.{Refusal}
use Rattle.texts.specs.Faults.{layer_number}

-- A key, `=`, what is answered, and byte 10.
abbrev pub field : List ℕ → List ℕ → List ℕ
field key value = key ++ (61 ∷ (value ++ 10 ∷ []))

abbrev pub number_field : List ℕ → ℕ → List ℕ
number_field key n = field key (decimal n)

-- The four lines of a refusal.
abbrev pub refusal_lines : ℕ → Refusal → List ℕ
refusal_lines line r = number_field (codes "refused") r.number ++ (number_field (codes "layer") (layer_number r.layer) ++ (number_field (codes "line") line ++ number_field (codes "place") r.place))
