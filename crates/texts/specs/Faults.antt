-- What is printed of a text's fault: its number, its layer and its place. Assumes nothing.
use Rattle.std.specs.Prelude.{ℕ}
use Rattle.texts.specs.declared.faults.Layer.{Layer}
use Rattle.texts.specs.declared.faults.Layer.TheVariants as layer
use Rattle.texts.specs.declared.faults.Refusal.{Refusal}
use Rattle.texts.specs.declared.faults.TextFault.{TextFault}
use Rattle.texts.specs.declared.faults.TextFault.TheVariants.{Empty, TooLong, Unexpected, Incomplete, Full}

-- The number that is printed of a layer.
abbrev pub layer_number : Layer → ℕ
layer_number layer.Text = 1
layer_number layer.Line = 2
layer_number layer.Case = 3
layer_number layer.Kit = 4

abbrev pub refusal : TextFault → Refusal
refusal Empty = record { number = 1; layer = layer.Text; place = 0 }
refusal TooLong = record { number = 2; layer = layer.Text; place = 512 }
refusal (Unexpected i) = record { number = 3; layer = layer.Text; place = i }
refusal (Incomplete n) = record { number = 4; layer = layer.Text; place = n }
refusal Full = record { number = 5; layer = layer.Text; place = 0 }
