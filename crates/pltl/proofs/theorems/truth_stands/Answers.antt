use Rattle.pltl.proofs.Carried.{periodic, suffixes}
use Rattle.pltl.proofs.Decisions.{exactly_one, normal_keeps_truth, release_by_until}
use Rattle.pltl.proofs.theorems.truth_stands.Goals as goal

pub returns : goal.returns
returns c = record { exactly_one = exactly_one; normal_keeps_truth = normal_keeps_truth; periodic = periodic; suffixes = suffixes; release_by_until = release_by_until }
