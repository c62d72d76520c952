use Rattle.std.proofs.Common.{◌≡◌, ◌≤◌, inl, inr, true, false, map, length, string_bytes, List, ℕ, Some, refl, sym, ap, ◌∙◌, subst}
use Rattle.disk_model.specs.Told.{InEachWorld}
use Rattle.map_model.specs.World.{DraftsAside}
use Rattle.run_end.specs.declared.ending.Ending.TheVariants.{Complete, Usage, SourceFault, SinkFault, OpenFault}
use Rattle.dn_play.specs.Outside.{words_fit}
use Rattle.dn_play.specs.Play.{RunsOver}
use Rattle.dn_play.proofs.LastLine.{run_of, not_usage, opening_failed, rose_in, stops_at}
use Rattle.dn_play.proofs.Judging.{judged_memory, judged_usage, judged_later, never_judged, run_without, memory_stops}
use Rattle.dn_play.proofs.OneDisk.{one_disk, one_disk_lent, in_place, volumes_stay, some_disk, holds_of_only, judged_items}
use Rattle.dn_play.proofs.Foreign.{keeps_foreign, keeps_same}
use Rattle.dn_play.proofs.playing.play.Goals as goal

pub returns-in-Err-clause-refused : goal.returns-in-Err-clause-refused
returns-in-Err-clause-refused g c = λ unfit. (judged_usage _ _ c.in-Err.ending _ _ _ (judged_items g.D.PoolDisks.volume_count (map string_bytes c.args.words.now) (Some c.in-Err.ending) _ _ c.as_slice.ensures.value c.in-Err.ensures.judged) unfit c.close.ensures.declines, refl, refl)

pub returns-in-Err-clause-usage : goal.returns-in-Err-clause-usage
returns-in-Err-clause-usage g c = λ e. never_judged _ _ c.in-Err.ending Usage (judged_items g.D.PoolDisks.volume_count (map string_bytes c.args.words.now) (Some c.in-Err.ending) _ _ c.as_slice.ensures.value c.in-Err.ensures.judged)
    (c.close.ensures.usage e)

pub returns-in-Err-clause-later : goal.returns-in-Err-clause-later
returns-in-Err-clause-later g c = λ fits several. (judged_later _ _ c.in-Err.ending _ _ _ (judged_items g.D.PoolDisks.volume_count (map string_bytes c.args.words.now) (Some c.in-Err.ending) _ _ c.as_slice.ensures.value c.in-Err.ensures.judged) fits c.close.ensures.declines, refl, refl)

pub returns-in-Err-clause-run : goal.returns-in-Err-clause-run
returns-in-Err-clause-run g c = λ fits one.
    let only = one_disk g.D.PoolDisks.volume_count _ _ fits one in
    record {
      before = only.disk;
      after = only.disk;
      one_before = only.only;
      one_after = only.only;
      holds = run_without _ _ _ _ _ _ _ _ c.in-Err.ending _ (judged_memory _ _ c.in-Err.ending (judged_items g.D.PoolDisks.volume_count (map string_bytes c.args.words.now) (Some c.in-Err.ending) _ _ c.as_slice.ensures.value c.in-Err.ensures.judged) fits one) (g.met.D.PoolDisks.only_now only.disk) c.close.ensures.declines;
    }

pub returns-in-Err-clause-foreign : goal.returns-in-Err-clause-foreign
returns-in-Err-clause-foreign g c = λ fits one.
    let only = one_disk g.D.PoolDisks.volume_count _ _ fits one in
    record { before = only.disk; after = only.disk; one_before = only.only; one_after = only.only; holds = keeps_same g.D.PoolDisks g.met.D.PoolDisks.only_now only.disk }

pub returns-in-Err-clause-at_end : goal.returns-in-Err-clause-at_end
returns-in-Err-clause-at_end g c = λ e. absurd (never_judged _ _ c.in-Err.ending Complete c.in-Err.ensures.judged (c.close.ensures.completed e))

pub returns-in-Err-clause-source_fault : goal.returns-in-Err-clause-source_fault
returns-in-Err-clause-source_fault g c = λ e. absurd (never_judged _ _ c.in-Err.ending SourceFault c.in-Err.ensures.judged (c.close.ensures.source e))

pub returns-in-Err-clause-sink_fault : goal.returns-in-Err-clause-sink_fault
returns-in-Err-clause-sink_fault g c = λ e. elim (c.close.ensures.sink e) [ inl k ↦ absurd (never_judged _ _ c.in-Err.ending SinkFault c.in-Err.ensures.judged k) | inr k ↦ k ]

pub returns-in-Err-clause-open_fault : goal.returns-in-Err-clause-open_fault
returns-in-Err-clause-open_fault g c = λ e. absurd (never_judged _ _ c.in-Err.ending OpenFault c.in-Err.ensures.judged (c.close.ensures.open e))

pub returns-in-Err-clause-complete : goal.returns-in-Err-clause-complete
returns-in-Err-clause-complete g c = λ fits one. memory_stops _ _ _ _ _ _
    (judged_memory _ _ c.in-Err.ending (judged_items g.D.PoolDisks.volume_count (map string_bytes c.args.words.now) (Some c.in-Err.ending) _ _ c.as_slice.ensures.value c.in-Err.ensures.judged) fits one) c.close.ensures.status
    (λ e. elim (c.close.ensures.sink e) [ inl k ↦ absurd (never_judged _ _ c.in-Err.ending SinkFault c.in-Err.ensures.judged k) | inr k ↦ k ])

pub returns-in-Err-clause-volumes : goal.returns-in-Err-clause-volumes
returns-in-Err-clause-volumes g c = refl

pub unreachable-requires : goal.unreachable-requires
unreachable-requires g c =
    some_disk g.D.PoolDisks.volume_count c.args.disks.items (one_disk_lent g.D.PoolDisks.volume_count _ _ _ c.as_slice.ensures.value c.in-Ok.ensures.judged.0 c.in-Ok.ensures.judged.1)
    (let a = c.as_slice.ensures.len in ap length (sym c.as_slice.ensures.value) ∙ a ∙ c.in_default.ensures.cases.0)

pub play_pool-run-requires-clause-aside : goal.play_pool-run-requires-clause-aside
play_pool-run-requires-clause-aside g c =
    let only = one_disk_lent g.D.PoolDisks.volume_count _ _ _ c.as_slice.ensures.value c.in-Ok.ensures.judged.0 c.in-Ok.ensures.judged.1 in
    let p = in_place g.D.PoolDisks.volume_count _ _ _ _ c.in-Some.disk only c.in-Some.ensures.items refl in
    holds_of_only (λ d. InEachWorld (g.D.PoolDisks.worlds d) DraftsAside) _ c.in-Some.disk p.0 c.requires.aside

pub play_pool-run-requires-clause-some_volume : goal.play_pool-run-requires-clause-some_volume
play_pool-run-requires-clause-some_volume g c =
    let only = one_disk_lent g.D.PoolDisks.volume_count _ _ _ c.as_slice.ensures.value c.in-Ok.ensures.judged.0 c.in-Ok.ensures.judged.1 in
    let p = in_place g.D.PoolDisks.volume_count _ _ _ _ c.in-Some.disk only c.in-Some.ensures.items refl in
    subst (λ n. 1 ≤ n) (sym p.2) only.some

pub play_pool-run-requires-clause-shares : goal.play_pool-run-requires-clause-shares
play_pool-run-requires-clause-shares g c =
    let only = one_disk_lent g.D.PoolDisks.volume_count _ _ _ c.as_slice.ensures.value c.in-Ok.ensures.judged.0 c.in-Ok.ensures.judged.1 in
    let p = in_place g.D.PoolDisks.volume_count _ _ _ _ c.in-Some.disk only c.in-Some.ensures.items refl in
    ap length c.in-Ok.ensures.shares ∙ sym p.2

pub returns-clause-refused : goal.returns-clause-refused
returns-clause-refused g c = λ unfit.
    absurd (let fits = subst (λ items. words_fit g.D.PoolDisks.volume_count (map string_bytes c.args.words.now) items ≡ true) c.as_slice.ensures.value c.in-Ok.ensures.judged.0 in let x : true ≡ false = sym fits ∙ unfit in cc x)

pub returns-clause-usage : goal.returns-clause-usage
returns-clause-usage g c = λ e. absurd (not_usage _ _ _ _ c.play_pool-run.ensures.runs.shown _ c.play_pool-run.ensures.runs.goes
    (c.close-status.ensures.usage e))

pub returns-clause-later : goal.returns-clause-later
returns-clause-later g c = λ fits several. absurd (let x : true ≡ false = sym several ∙ c.in-Ok.ensures.judged.1 in cc x)

pub returns-clause-run : goal.returns-clause-run
returns-clause-run g c = λ fits one.
    let only = one_disk g.D.PoolDisks.volume_count _ _ fits one in
    let p = in_place g.D.PoolDisks.volume_count _ _ _ _ c.play_pool-run.result.disks only c.in-Some.ensures.items c.in-Ok-push.ensures.items in
    record {
      before = c.in-Some.disk;
      after = c.play_pool-run.result.disks;
      one_before = p.0;
      one_after = p.1;
      holds = subst (λ (shares : List ℕ). RunsOver g.D.PoolDisks g.D.Draft.Draft g.D.Reader.Reader shares (g.S.Source.left c.args.source.now) (g.K.Sink.taken c.args.sink.now) (g.K.Sink.taken c.close-status.new.sink)
          c.close-status.result c.in-Some.disk c.play_pool-run.result.disks) c.in-Ok.ensures.shares
          (run_of _ _ _ _ _ (g.K.Sink.taken c.play_pool-run.new.sink) _ _ _ c.play_pool-run.ensures.runs (c.close-status.ensures.closed _ _ c.play_pool-run.ensures.runs.written));
    }

pub returns-clause-foreign : goal.returns-clause-foreign
returns-clause-foreign g c = λ fits one.
    let only = one_disk g.D.PoolDisks.volume_count _ _ fits one in
    let p = in_place g.D.PoolDisks.volume_count _ _ _ _ c.play_pool-run.result.disks only c.in-Some.ensures.items c.in-Ok-push.ensures.items in
    record {
      before = c.in-Some.disk;
      after = c.play_pool-run.result.disks;
      one_before = p.0;
      one_after = p.1;
      holds = keeps_foreign g.D.PoolDisks g.met.D.PoolDisks.only_now c.in-Some.disk c.play_pool-run.result.disks c.play_pool-run.ensures.foreign;
    }

pub returns-clause-at_end : goal.returns-clause-at_end
returns-clause-at_end g c = λ e. c.play_pool-run.ensures.at_end (c.close-status.ensures.completed e)

pub returns-clause-source_fault : goal.returns-clause-source_fault
returns-clause-source_fault g c = λ e. c.play_pool-run.ensures.source (c.close-status.ensures.source e)

pub returns-clause-sink_fault : goal.returns-clause-sink_fault
returns-clause-sink_fault g c = λ e. rose_in _ _ (g.K.Sink.faults c.play_pool-run.new.sink) _ c.play_pool-run.ensures.sink c.play_pool-run.ensures.later_sink c.close-status.ensures.later (c.close-status.ensures.sink e)

pub returns-clause-open_fault : goal.returns-clause-open_fault
returns-clause-open_fault g c = λ e.
    let only = one_disk_lent g.D.PoolDisks.volume_count _ _ _ c.as_slice.ensures.value c.in-Ok.ensures.judged.0 c.in-Ok.ensures.judged.1 in
    let p = in_place g.D.PoolDisks.volume_count _ _ _ _ c.play_pool-run.result.disks only c.in-Some.ensures.items c.in-Ok-push.ensures.items in
    record {
      before = c.in-Some.disk;
      after = c.play_pool-run.result.disks;
      one_before = p.0;
      one_after = p.1;
      holds = opening_failed _ _ _ _ c.play_pool-run.ensures.runs.shown _ c.play_pool-run.ensures.runs.goes (c.close-status.ensures.open e);
    }

pub returns-clause-complete : goal.returns-clause-complete
returns-clause-complete g c = λ fits one.
    let only = one_disk g.D.PoolDisks.volume_count _ _ fits one in
    let p = in_place g.D.PoolDisks.volume_count _ _ _ _ c.play_pool-run.result.disks only c.in-Some.ensures.items c.in-Ok-push.ensures.items in
    stops_at _ _ _ _ _ _ _ _ _ _ _ (run_of _ _ _ _ _ (g.K.Sink.taken c.play_pool-run.new.sink) _ _ _ c.play_pool-run.ensures.runs (c.close-status.ensures.closed _ _ c.play_pool-run.ensures.runs.written))
    (λ e. c.play_pool-run.ensures.source (c.close-status.ensures.source e))
    (λ e. rose_in _ _ (g.K.Sink.faults c.play_pool-run.new.sink) _ c.play_pool-run.ensures.sink c.play_pool-run.ensures.later_sink c.close-status.ensures.later (c.close-status.ensures.sink e))
    (λ rose. record { before = c.in-Some.disk; after = c.play_pool-run.result.disks; one_before = p.0; one_after = p.1; holds = rose })

pub returns-clause-volumes : goal.returns-clause-volumes
returns-clause-volumes g c =
    let only = one_disk_lent g.D.PoolDisks.volume_count _ _ _ c.as_slice.ensures.value c.in-Ok.ensures.judged.0 c.in-Ok.ensures.judged.1 in
    let p = in_place g.D.PoolDisks.volume_count _ _ _ _ c.play_pool-run.result.disks only c.in-Some.ensures.items c.in-Ok-push.ensures.items in
    volumes_stay g.D.PoolDisks.volume_count _ _ c.in-Some.disk c.play_pool-run.result.disks p.0 p.1 c.play_pool-run.ensures.volumes
