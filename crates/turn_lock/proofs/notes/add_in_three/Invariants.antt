use Rattle.turn_lock.specs.declared.notes.NoteEntry.TheVariants.{Opening}
use Rattle.turn_lock.proofs.notes.add_in_three.Given as goal

-- the notes begin empty
abbrev pub ghost-make : goal.ghost-make
ghost-make g a = Opening
