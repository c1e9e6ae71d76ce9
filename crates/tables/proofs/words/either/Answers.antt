use Rattle.tables.proofs.BitTests.{bit_of_or}
use Rattle.tables.proofs.words.either.Goals as goal

pub returns : goal.returns
returns c = bit_of_or c.args.left c.args.right
