-- What the nodes of a read text stand for. Assumes nothing.
use Rattle.std.specs.Prelude.{◌≡◌, ℕ, ◌<◌, Bool, true, ◌&&◌, List, [], length, Ok, Err, Result, nat_lt, slice_index_or}
use Rattle.pltl.specs.Built.{built}
use Rattle.pltl.specs.Formulas as pltl
use Rattle.pltl.specs.Formulas.{Tree}
use Rattle.texts.specs.declared.faults.TextFault.{TextFault}
use Rattle.texts.specs.declared.nodes.Node.{Node}
use Rattle.texts.specs.declared.nodes.Node.TheVariants.{One, Zero, Letter, Not, Next, Always, Eventually, Until, Release, And, Or, Implies}

-- The tree of a node whose parts are among the trees ts, by number.
abbrev pub tree_over : List Tree → Node → Tree
tree_over ts One = pltl.one
tree_over ts Zero = pltl.zero
tree_over ts (Letter k) = pltl.letter k
tree_over ts (Not a) = pltl.not (slice_index_or ts a pltl.one)
tree_over ts (Next a) = pltl.next (slice_index_or ts a pltl.one)
tree_over ts (Always a) = pltl.always (slice_index_or ts a pltl.one)
tree_over ts (Eventually a) = pltl.eventually (slice_index_or ts a pltl.one)
tree_over ts (Until a b) = pltl.until (slice_index_or ts a pltl.one) (slice_index_or ts b pltl.one)
tree_over ts (Release a b) = pltl.release (slice_index_or ts a pltl.one) (slice_index_or ts b pltl.one)
tree_over ts (And a b) = pltl.and (slice_index_or ts a pltl.one) (slice_index_or ts b pltl.one)
tree_over ts (Or a b) = pltl.or (slice_index_or ts a pltl.one) (slice_index_or ts b pltl.one)
tree_over ts (Implies a b) = pltl.implies (slice_index_or ts a pltl.one) (slice_index_or ts b pltl.one)

-- The trees of some nodes, each over the trees before it.
unfoldable pub trees : List Node → List Tree
trees ns = built tree_over [] ns

-- A node's parts stand before it.
abbrev pub below : ℕ → Node → Bool
below i One = true
below i Zero = true
below i (Letter k) = true
below i (Not a) = nat_lt a i
below i (Next a) = nat_lt a i
below i (Always a) = nat_lt a i
below i (Eventually a) = nat_lt a i
below i (Until a b) = nat_lt a i && nat_lt b i
below i (Release a b) = nat_lt a i && nat_lt b i
below i (And a b) = nat_lt a i && nat_lt b i
below i (Or a b) = nat_lt a i && nat_lt b i
below i (Implies a b) = nat_lt a i && nat_lt b i

abbrev pub Ordered : List Node → Type 0
Ordered ns = (i : ℕ) → i < length ns → below i (slice_index_or ns i One) ≡ true

-- The tree of the node at an index; past the end, the constant true.
abbrev pub tree_at : List Node → ℕ → Tree
tree_at ns i = slice_index_or (trees ns) i pltl.one

-- What was read, by its tree.
abbrev pub answered : List Node → Result ℕ TextFault → Result Tree TextFault
answered ns (Ok i) = Ok (tree_at ns i)
answered ns (Err f) = Err f
