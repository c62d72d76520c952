use Rattle.std.proofs.Common.{◌≡◌, ◌+◌, length, ap, sym, ◌∙◌, subst, arith}
use Rattle.std.proofs.lemmas.List.{length-append}
use Rattle.pool_state.specs.Books.{block_books}
use Rattle.script_lang.specs.declared.reply.report.VolumeRow.{VolumeRow}
use Rattle.run_model.specs.Reports.{ShowsRow, ShowRows}
use Rattle.run_session.proofs.ReportRows.{show_more}
use Rattle.run_session.proofs.reporting.rows_of.Goals as goal

pub loop-i-preserved : goal.loop-i-preserved
loop-i-preserved g c =
    let shares = c.args.pool.now.shares.items in
    let books = block_books c.args.pool.now.map in
    let rows = c.loop-i.rows.items in
    let shown = c.volume_use-volume.result in
    let row : VolumeRow = record { i = c.from.result + 1; capacity = shown.capacity; used = shown.used; replicas = shown.replicas } in
    let vol : c.loop-i.i + 1 ≡ 1 + length rows = omega (arith, c.loop-i.invariant.counted) in
    let here : ShowsRow shares books (1 + length rows) row =
    subst (λ v. ShowsRow shares books v row) vol (record { number = ap (λ n. n + 1) c.from.ensures; shows = c.volume_use-volume.ensures }) in
    record {
      counted = ap length c.in_ok-push.ensures.items ∙ length-append rows _ ∙ ap (λ n. n + 1) c.loop-i.invariant.counted;
      shows = subst (ShowRows shares books 1) (sym c.in_ok-push.ensures.items) (show_more shares books 1 rows row c.loop-i.invariant.shows here);
    }
