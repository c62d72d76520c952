use Rattle.turn_lock.specs.declared.notes.NoteEntry.TheVariants.{Opening}
use Rattle.turn_lock.proofs.tests.seats_are_split_and_joined_at_once.Given as goal

-- the notes begin empty
abbrev pub ghost-make : goal.ghost-make
ghost-make g a = Opening
