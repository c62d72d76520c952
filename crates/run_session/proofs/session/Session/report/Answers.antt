use Rattle.std.proofs.Common.{◌∙◌, sym}
use Rattle.script_lang.specs.declared.reply.Reply.TheVariants.{Node}
use Rattle.script_lang.specs.declared.reply.node_reply.NodeReply.TheVariants.{Report}
use Rattle.run_session.proofs.ReportRows.{carried_report}
use Rattle.run_session.proofs.session.Session.report.Goals as goal

pub returns : goal.returns
returns g c state standing =
    carried_report standing c.args.self.now.pool.shared _ c.leftovers.result c.in_ok-rows.rows.items
    (λ j. Node (Report ((c.from.ensures ∙ c.volumes.ensures.volumes ∙ sym c.in_ok-rows.ensures.counted) j) c.leftovers.result (c.new.ensures j))) c.in_ok-rows.ensures.counted c.in_ok-rows.ensures.shows c.leftovers.ensures
