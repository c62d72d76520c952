use Rattle.map_model.proofs.OneReading.{ReadsAs-unique}
use Rattle.map_model.proofs.images.files_have_one_reading.Goals as goal

pub returns : goal.returns
returns c = ReadsAs-unique
