-- What is answered to lines about the whole node
use Rattle.std.specs.Prelude.{ℕ, List, codes}
use Rattle.script_lang.specs.ReplyWords.{and_number}
use Rattle.script_lang.specs.NodeReport.{report_text}
use Rattle.script_lang.specs.declared.reply.node_reply.NodeReply.{NodeReply}
use Rattle.script_lang.specs.declared.reply.node_reply.NodeReply.TheVariants.{NoPool, NoVolume, Filled, Report}

-- what it prints, without its last line feed
abbrev pub node_reply_text : NodeReply → List ℕ
node_reply_text NoPool = codes "nopool"
node_reply_text NoVolume = codes "novolume"
node_reply_text (Filled ok) = and_number (codes "filled") ok
node_reply_text (Report volumes leftovers rows) = report_text volumes leftovers rows
