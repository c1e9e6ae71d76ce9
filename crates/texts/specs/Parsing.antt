-- What the functions of the five levels answer. Assumes nothing.
use Rattle.std.specs.Prelude.{◌≡◌, ℕ, ◌+◌, ◌<◌, ◌≤◌, List, ◌++◌, length, drop, slice_range, Ok, Err, Result}
use Rattle.pltl.specs.Formulas.{Tree}
use Rattle.texts.specs.declared.Sign.{Sign}
use Rattle.texts.specs.declared.Sign.TheVariants.{Until, Release, And, Or, Minus}
use Rattle.texts.specs.declared.faults.TextFault.{TextFault}
use Rattle.texts.specs.declared.levels.Reader.{Reader}
use Rattle.texts.specs.declared.nodes.Node.{Node}
use Rattle.texts.specs.Grammar.{Level, implication, disjunction, conjunction, temporal, unary, Spells}
use Rattle.texts.specs.Scan.{Pending, nothing, Frame, State, before, scan}
use Rattle.texts.specs.Signs.{sign_from}
use Rattle.texts.specs.Syntax.{tree_at}

-- how loosely a level binds, and how loosely the sign that follows does
abbrev pub rank : Level → ℕ
rank unary = 0
rank temporal = 1
rank conjunction = 2
rank disjunction = 3
rank implication = 4

abbrev pub looseness : Sign → ℕ
looseness Until = 1
looseness Release = 1
looseness And = 2
looseness Or = 3
looseness Minus = 4
looseness _ = 5

-- the bytes that a reader has before it, and its nodes
abbrev pub rest : Reader → List ℕ
rest r = drop r.at r.text.now

abbrev pub nodes_of : Reader → List Node
nodes_of r = r.syntax.now.nodes.items

-- the bytes from where r stands up to where r' stands
abbrev pub passed : Reader → Reader → List ℕ
passed r r' = slice_range r.text.now r.at r'.at

-- r' is r over one byte
pub record Steps (r r' : Reader) : Type 0 where
  pub same_text : r'.text.now ≡ r.text.now
  pub same_nodes : nodes_of r' ≡ nodes_of r
  pub at : r'.at ≡ r.at + 1

-- r' is r over a part of the text, which is the node's tree
pub record ReadAs (l : Level) (r r' : Reader) (node : ℕ) : Type 0 where
  pub same_text : r'.text.now ≡ r.text.now
  pub ahead : r.at < r'.at
  pub made : node < length (nodes_of r')
  pub grown : (more : List Node) × (nodes_of r' ≡ nodes_of r ++ more)
  pub few : length (nodes_of r') + r.at ≤ length (nodes_of r) + r'.at
  pub spells : Spells l (tree_at (nodes_of r') node) (passed r r')
  -- no sign follows that goes on at the level
  pub stops : rank l < looseness (sign_from (rest r'))

-- the outcome of the pass over the rest, from a state
abbrev pub outcome : Reader → State → Result Tree TextFault
outcome r s = scan r.at s (rest r)

-- before a part at the level, the pass over the rest comes to the fault f
abbrev pub Fails : Level → Reader → TextFault → Type 0
Fails unary r f = (i d c t u : Pending) (fs : List Frame) → outcome r (before i d c t u fs) ≡ Err f
Fails temporal r f = (i d c t : Pending) (fs : List Frame) → outcome r (before i d c t nothing fs) ≡ Err f
Fails conjunction r f = (i d c : Pending) (fs : List Frame) → outcome r (before i d c nothing nothing fs) ≡ Err f
Fails disjunction r f = (i d : Pending) (fs : List Frame) → outcome r (before i d nothing nothing nothing fs) ≡ Err f
Fails implication r f = (i : Pending) (fs : List Frame) → outcome r (before i nothing nothing nothing nothing fs) ≡ Err f

abbrev pub Parses : Level → Reader → Reader → Result ℕ TextFault → Type 0
Parses l r r' (Ok node) = ReadAs l r r' node
Parses l r r' (Err f) = Fails l r f
