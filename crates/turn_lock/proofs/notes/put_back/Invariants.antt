use Rattle.turn_lock.proofs.notes.put_back.Given as goal

-- the entry that the caller names
abbrev pub ghost-give : goal.ghost-give
ghost-give g a = g.entry
