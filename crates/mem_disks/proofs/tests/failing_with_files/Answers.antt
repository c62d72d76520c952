use Rattle.std.proofs.Common.{◌≡◌, List, [], Option, sym, subst}
use Rattle.disk_model.specs.Worlds.{World}
use Rattle.disk_model.specs.Told.{InEachWorld}
use Rattle.mem_disks.proofs.tests.failing_with_files.Goals as goal

pub returns-clause-bare : goal.returns-clause-bare
returns-clause-bare c =
    subst (λ (told : Option (List World)). InEachWorld told (λ world. world.drafts ≡ [])) (sym c.fail.ensures.worlds) c.in_ok-put_file-2.ensures.bare
