use Rattle.std.proofs.Common.{◌≡◌, List, ◌++◌, ◌∷◌, [], length, refl, true, false, ◌∙◌, ap, Result, Ok, is_ok, if◌then◌else◌}
use Rattle.std.proofs.lemmas.List.{with_items_is}
use Rattle.std.specs.Vec.{with_items}
use Rattle.mem_disks.specs.declared.history.Recorded.{Recorded}
use Rattle.mem_disks.specs.HistoryLaws.{carries, carries_each, carries_time}
use Rattle.mem_disks.proofs.Follows.{numbered_more, placed_more, shows_drafts, shows_files, reads_within, follows_from}
use Rattle.mem_disks.proofs.store.Store.carry_out.Goals as goal

pushed : {E : Type 0} (result : Result (Unit {0}) E) (base old new : List Recorded) (one : Recorded) (ok : Unit {0}) → new ≡ (if is_ok result then old ++ one ∷ [] else old) → result ≡ Ok ok → old ≡ base
    → new ≡ base ++ one ∷ []
pushed result base old new one ok items is same = items ∙ rw is (ap (λ (l : List Recorded). l ++ one ∷ []) same)

pub returns-clause-picks : goal.returns-clause-picks
returns-clause-picks c =
    let one : Recorded = record { change = c.args.change; done = true } in
    let items = pushed c.push.result c.args.self.now.records.items c.reserve.new.self.items c.push.new.self.items one c.unwrap.result c.push.ensures.items c.unwrap.ensures c.reserve.ensures.items in
    carries c.args.self.now.is_open false (record { one = one; items = items; is_done = refl; does = λ world. refl }) refl

pub returns-clause-worlds : goal.returns-clause-worlds
returns-clause-worlds c =
    let one : Recorded = record { change = c.args.change; done = true } in
    let items = pushed c.push.result c.args.self.now.records.items c.reserve.new.self.items c.push.new.self.items one c.unwrap.result c.push.ensures.items c.unwrap.ensures c.reserve.ensures.items in
    carries_each c.args.self.now.is_open false (record { one = one; items = items; is_done = refl; does = λ world. refl }) refl

pub returns-clause-time : goal.returns-clause-time
returns-clause-time c =
    let one : Recorded = record { change = c.args.change; done = true } in
    let items = pushed c.push.result c.args.self.now.records.items c.reserve.new.self.items c.push.new.self.items one c.unwrap.result c.push.ensures.items c.unwrap.ensures c.reserve.ensures.items in
    carries_time c.args.self.now.is_open false (record { one = one; items = items; is_done = refl; does = λ world. refl }) refl

pub returns-clause-ok : goal.returns-clause-ok
returns-clause-ok c = record {
  one = record { change = c.args.change; done = true };
  items = pushed c.push.result c.args.self.now.records.items c.reserve.new.self.items c.push.new.self.items (record { change = c.args.change; done = true }) c.unwrap.result c.push.ensures.items c.unwrap.ensures c.reserve.ensures.items;
  is_done = refl;
  does = λ world. refl;
}

pub invariant_of-self-2-clause-numbered : goal.invariant_of-self-2-clause-numbered
invariant_of-self-2-clause-numbered c =
    let one : Recorded = record { change = c.args.change; done = true } in
    let items = pushed c.push.result c.args.self.now.records.items c.reserve.new.self.items c.push.new.self.items one c.unwrap.result c.push.ensures.items c.unwrap.ensures c.reserve.ensures.items in
    numbered_more c.args.self.now.records.items c.push.new.self.items one c.args.self.now.next_number c.args.next_number items c.requires.later c.requires.numbered c.args.self.now.numbered

pub invariant_of-self-2-clause-placed : goal.invariant_of-self-2-clause-placed
invariant_of-self-2-clause-placed c =
    let one : Recorded = record { change = c.args.change; done = true } in
    let items = pushed c.push.result c.args.self.now.records.items c.reserve.new.self.items c.push.new.self.items one c.unwrap.result c.push.ensures.items c.unwrap.ensures c.reserve.ensures.items in
    placed_more c.args.self.now.records.items c.push.new.self.items one c.args.self.now.volume_count items c.requires.placed c.args.self.now.placed

pub invariant_of-self-2-clause-each : goal.invariant_of-self-2-clause-each
invariant_of-self-2-clause-each c =
    let count : length c.follow.new.shelves ≡ c.args.self.now.shelves.len = c.follow.auto.shelves ∙ c.deref_mut.ensures.len in
    ap (λ l. length l) (with_items_is c.args.self.now.shelves c.follow.new.shelves count) ∙ c.follow.auto.shelves ∙ ap (λ l. length l) c.deref_mut.ensures.value ∙ c.args.self.now.each

pub invariant_of-self-2-clause-drafts : goal.invariant_of-self-2-clause-drafts
invariant_of-self-2-clause-drafts c =
    let one : Recorded = record { change = c.args.change; done = true } in
    let items = pushed c.push.result c.args.self.now.records.items c.reserve.new.self.items c.push.new.self.items one c.unwrap.result c.push.ensures.items c.unwrap.ensures c.reserve.ensures.items in
    let whole : (with_items c.args.self.now.shelves c.follow.new.shelves).items ≡ c.follow.new.shelves = with_items_is c.args.self.now.shelves c.follow.new.shelves (c.follow.auto.shelves ∙ c.deref_mut.ensures.len) in
    let follows = follows_from c.args.change _ (length c.args.self.now.records.items) _ c.args.self.now.shelves.items c.follow.new.shelves (c.len-index.ensures ∙ c.reserve.ensures.len ∙ c.args.self.now.records.ok.0) c.deref_mut.ensures.value c.in_ok-follow.ensures.ok in
    rw whole (shows_drafts c.args.self.now.volume_count c.args.self.now.records.items c.push.new.self.items one c.args.self.now.shelves.items c.follow.new.shelves items refl follows c.args.self.now.reads c.args.self.now.drafts)

pub invariant_of-self-2-clause-files : goal.invariant_of-self-2-clause-files
invariant_of-self-2-clause-files c =
    let one : Recorded = record { change = c.args.change; done = true } in
    let items = pushed c.push.result c.args.self.now.records.items c.reserve.new.self.items c.push.new.self.items one c.unwrap.result c.push.ensures.items c.unwrap.ensures c.reserve.ensures.items in
    let whole : (with_items c.args.self.now.shelves c.follow.new.shelves).items ≡ c.follow.new.shelves = with_items_is c.args.self.now.shelves c.follow.new.shelves (c.follow.auto.shelves ∙ c.deref_mut.ensures.len) in
    let follows = follows_from c.args.change _ (length c.args.self.now.records.items) _ c.args.self.now.shelves.items c.follow.new.shelves (c.len-index.ensures ∙ c.reserve.ensures.len ∙ c.args.self.now.records.ok.0) c.deref_mut.ensures.value c.in_ok-follow.ensures.ok in
    rw whole (shows_files c.args.self.now.volume_count c.args.self.now.records.items c.push.new.self.items one c.args.self.now.shelves.items c.follow.new.shelves items refl follows c.args.self.now.reads c.args.self.now.files)

pub invariant_of-self-2-clause-reads : goal.invariant_of-self-2-clause-reads
invariant_of-self-2-clause-reads c =
    let one : Recorded = record { change = c.args.change; done = true } in
    let items = pushed c.push.result c.args.self.now.records.items c.reserve.new.self.items c.push.new.self.items one c.unwrap.result c.push.ensures.items c.unwrap.ensures c.reserve.ensures.items in
    let whole : (with_items c.args.self.now.shelves c.follow.new.shelves).items ≡ c.follow.new.shelves = with_items_is c.args.self.now.shelves c.follow.new.shelves (c.follow.auto.shelves ∙ c.deref_mut.ensures.len) in
    let follows = follows_from c.args.change _ (length c.args.self.now.records.items) _ c.args.self.now.shelves.items c.follow.new.shelves (c.len-index.ensures ∙ c.reserve.ensures.len ∙ c.args.self.now.records.ok.0) c.deref_mut.ensures.value c.in_ok-follow.ensures.ok in
    rw whole (reads_within c.args.self.now.volume_count c.args.self.now.records.items c.push.new.self.items one c.args.self.now.shelves.items c.follow.new.shelves items refl follows c.args.self.now.reads)
