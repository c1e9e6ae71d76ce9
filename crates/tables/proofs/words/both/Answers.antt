use Rattle.tables.proofs.BitTests.{bit_of_and}
use Rattle.tables.proofs.words.both.Goals as goal

pub returns : goal.returns
returns c = bit_of_and c.args.left c.args.right
