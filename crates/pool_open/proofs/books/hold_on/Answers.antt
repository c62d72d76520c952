use Rattle.std.proofs.Common.{◌∙◌, refl, subst}
use Rattle.pool_open.specs.Plan.{kept_on}
use Rattle.pool_open.specs.Found.{IsSizeOf}
use Rattle.pool_open.proofs.Looks.{looks_then}
use Rattle.pool_open.proofs.Held.{adds_then}
use Rattle.pool_open.proofs.books.hold_on.Goals as goal

pub returns-in_err-writing_len-clause-looks : goal.returns-in_err-writing_len-clause-looks
returns-in_err-writing_len-clause-looks g c = looks_then g.D.PoolDisks _ _ _ c.size_where.ensures.looks c.size_where-2.ensures.looks

pub returns-in_err-push_block-clause-looks : goal.returns-in_err-push_block-clause-looks
returns-in_err-push_block-clause-looks g c = looks_then g.D.PoolDisks _ _ _ c.size_where.ensures.looks c.size_where-2.ensures.looks

pub returns-in_err-push_writing-clause-looks : goal.returns-in_err-push_writing-clause-looks
returns-in_err-push_writing-clause-looks g c = looks_then g.D.PoolDisks _ _ _ c.size_where.ensures.looks c.size_where-2.ensures.looks

pub returns-then-on-clause-held : goal.returns-then-on-clause-held
returns-then-on-clause-held g c = (
  kept_on c.args.stamp c.in_ok-block_len.block_len c.in_ok-writing_len.writing_len c.args.on.now,
  record {
    block_len = c.in_ok-block_len.block_len;
    writing_len = c.in_ok-writing_len.writing_len;
    is = refl;
    block = λ there world of. subst (λ path. IsSizeOf (g.D.PoolDisks.worlds c.size_where.new.disks) c.args.on.now.vol path c.in_ok-block_len.block_len) (c.as_str.ensures ∙ c.block_path.ensures)
        (c.in_ok-block_len.ensures.size there) world (c.size_where-2.ensures.looks.remains world of);
    writing = λ there. subst (λ path. IsSizeOf (g.D.PoolDisks.worlds c.size_where-2.new.disks) c.args.on.now.vol path c.in_ok-writing_len.writing_len) (c.as_str-2.ensures ∙ c.rbw_block.ensures)
        (c.in_ok-writing_len.ensures.size there);
  },
  adds_then c.args.id _ _ _ _ _ c.in_ok-push_block.ensures c.in_ok-push_writing.ensures,
)

pub returns-then-on-clause-looks : goal.returns-then-on-clause-looks
returns-then-on-clause-looks g c = looks_then g.D.PoolDisks _ _ _ c.size_where.ensures.looks c.size_where-2.ensures.looks

pub returns-else-on-clause-held : goal.returns-else-on-clause-held
returns-else-on-clause-held g c = (
  kept_on c.args.stamp c.in_ok-block_len.block_len c.in_ok-writing_len.writing_len c.args.on.now,
  record {
    block_len = c.in_ok-block_len.block_len;
    writing_len = c.in_ok-writing_len.writing_len;
    is = refl;
    block = λ there world of. subst (λ path. IsSizeOf (g.D.PoolDisks.worlds c.size_where.new.disks) c.args.on.now.vol path c.in_ok-block_len.block_len) (c.as_str.ensures ∙ c.block_path.ensures)
        (c.in_ok-block_len.ensures.size there) world (c.size_where-2.ensures.looks.remains world of);
    writing = λ there. subst (λ path. IsSizeOf (g.D.PoolDisks.worlds c.size_where-2.new.disks) c.args.on.now.vol path c.in_ok-writing_len.writing_len) (c.as_str-2.ensures ∙ c.rbw_block.ensures)
        (c.in_ok-writing_len.ensures.size there);
  },
  adds_then c.args.id _ _ _ _ _ c.in_ok-push_block.ensures c.in_ok-push_writing.ensures,
)

pub returns-else-on-clause-looks : goal.returns-else-on-clause-looks
returns-else-on-clause-looks g c = looks_then g.D.PoolDisks _ _ _ c.size_where.ensures.looks c.size_where-2.ensures.looks
