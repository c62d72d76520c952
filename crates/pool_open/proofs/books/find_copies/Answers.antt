use Rattle.std.proofs.Common.{◌++◌, [], ◌∷◌, List, take, refl, sym, ap, ◌∙◌, subst}
use Rattle.pool_survey.specs.declared.places.FoundOn.{FoundOn}
use Rattle.dup_resolve.specs.declared.CopyRow.{CopyRow}
use Rattle.std.specs.Vec.{vec_items}
use Rattle.volume_layout.specs.Paths.{block_path}
use Rattle.pool_open.specs.Found.{IsSizeOf}
use Rattle.pool_open.specs.Looking.{OnlyLooks}
use Rattle.pool_open.proofs.Lists.{take_put}
use Rattle.pool_open.proofs.Looks.{looks_then}
use Rattle.pool_open.proofs.Copies.{copies_still, copies_passed, copies_put, copies_same, items_same}
use Rattle.pool_open.proofs.books.find_copies.Goals as goal
use Rattle.pool_open.proofs.books.find_copies.Goals.{in-Some+in_ok-len+in_ok-push, in_default}

pub returns-in_err-len-clause-looks : goal.returns-in_err-len-clause-looks
returns-in_err-len-clause-looks g c = looks_then g.D.PoolDisks _ _ _ c.loop-on.invariant.looks c.size_of.ensures.looks

pub returns-in_err-push-clause-looks : goal.returns-in_err-push-clause-looks
returns-in_err-push-clause-looks g c = looks_then g.D.PoolDisks _ _ _ c.loop-on.invariant.looks c.size_of.ensures.looks

pub loop-on-preserved : goal.loop-on-preserved
loop-on-preserved g c =
    let one : FoundOn = c.on-item.result in
    let passed : List FoundOn = take c.loop-on.on-index c.args.places.now in
    let taken = take_put c.args.places.now c.loop-on.on-index one c.loop-on-test.true c.on-item.is in
    elim c.match-copy_stamp.branch [
      | in-Some+in_ok-len+in_ok-push w ↦
          let told = g.D.PoolDisks.worlds w.size_of.new.disks in
          let copy : CopyRow = record { vol = one.vol; stamp = w.in-Some.stamp; len = w.in_ok-len.len } in
          let size : IsSizeOf told one.vol (block_path c.args.id) w.in_ok-len.len =
          subst (λ path. IsSizeOf told one.vol path w.in_ok-len.len) (w.as_str.ensures ∙ w.block_path.ensures) w.in_ok-len.ensures.size in
          let before = copies_still (g.D.PoolDisks.worlds c.loop-on.disks) told w.size_of.ensures.looks.remains c.args.id passed c.loop-on.copies.items c.loop-on.invariant.are in
          let put = copies_put told c.args.id passed one c.loop-on.copies.items copy refl (sym c.copy_stamp.ensures ∙ w.in-Some.is) size before in
          record {
            are = copies_same told (g.D.PoolDisks.worlds c.match-copy_stamp.disks) c.args.id (passed ++ one ∷ []) _ (c.loop-on.copies.items ++ copy ∷ []) _
                (ap g.D.PoolDisks.worlds w.disks-is) taken (items_same c.match-copy_stamp.copies w.push.new.self (c.loop-on.copies.items ++ copy ∷ []) w.copies-is w.in_ok-push.ensures.items) put;
            looks = subst (λ d. OnlyLooks g.D.PoolDisks c.args.disks.now d) (sym w.disks-is) (looks_then g.D.PoolDisks _ _ _ c.loop-on.invariant.looks w.size_of.ensures.looks);
          }
      | in_default w ↦
          let told = g.D.PoolDisks.worlds c.loop-on.disks in
          let put = copies_passed told c.args.id passed one c.loop-on.copies.items (sym c.copy_stamp.ensures ∙ w.in_default.is) c.loop-on.invariant.are in
          record {
            are = copies_same told (g.D.PoolDisks.worlds c.match-copy_stamp.disks) c.args.id (passed ++ one ∷ []) _ c.loop-on.copies.items _
                (ap g.D.PoolDisks.worlds w.disks-is) taken (ap vec_items w.copies-is) put;
            looks = subst (λ d. OnlyLooks g.D.PoolDisks c.args.disks.now d) (sym w.disks-is) c.loop-on.invariant.looks;
          }
    ]
