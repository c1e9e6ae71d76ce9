use Rattle.examples.proofs.main.Goals as goal

pub is_stored-as_stored-requires : goal.is_stored-as_stored-requires
is_stored-as_stored-requires c = c.in-Ok.ensures.within
