use Rattle.std.proofs.Common.{◌≡◌, sym, ◌∙◌, subst}
use Rattle.disk_model.specs.Worlds.{IsListing}
use Rattle.disk_model.specs.Told.{InEachWorld}
use Rattle.disk_model.specs.Looking.{TellOne}
use Rattle.pool_survey.proofs.Told.{stays, answered, looked_on}
use Rattle.pool_survey.proofs.Regions.{next_directory}
use Rattle.pool_survey.proofs.surveying.survey_row.Goals as goal

pub loop-d2-preserved : goal.loop-d2-preserved
loop-d2-preserved g c =
    let worlds = g.D.PoolDisks.worlds in
    let list = c.in_ok-names.ensures in
    let sofar = c.loop-d2.invariant in
    let one : TellOne (worlds c.loop-d2.disks) = subst TellOne (sym sofar.looked.worlds) c.requires.one in
    let same : worlds c.list.new.self ≡ worlds c.loop-d2.disks = stays list.ok one in
    let listing = subst (λ dir. InEachWorld (worlds c.list.new.self) (λ world. IsListing world c.args.vol dir c.in_ok-names.names)) (c.as_str.ensures ∙ c.dir_path.ensures) (answered list.ok) in
    let added = c.in_ok-add_names.ensures in
    record {
      surveyed = next_directory c.args.d1 c.loop-d2.d2 (worlds c.loop-d2.disks) (worlds c.list.new.self) c.args.vol c.args.blocks.now c.loop-d2.blocks c.add_names.new.blocks
          sofar.surveyed same added.blocks c.in_ok-names.names listing added.listed added.others;
      looked = looked_on sofar.looked (record {
        worlds = same;
        time = list.time;
        faults = list.cause.later;
        absences = list.absences;
        numbers = list.numbers;
        volumes = list.volumes;
      });
    }
