use Rattle.std.proofs.Common.{ℕ, Option, refl, inr, subst}
use Rattle.replica_map.specs.declared.entry.State.TheVariants.{Waiting}
use Rattle.pool_open.specs.Found.{IsHeldFirst, row_of}
use Rattle.pool_open.proofs.Adding.{says_put, keeps_others}
use Rattle.pool_open.proofs.books.add_waiting.Goals as goal

pub returns-clause-says : goal.returns-clause-says
returns-clause-says g c = record {
  vol = c.in-Some.vol;
  rev = c.args.rev;
  stamp = c.greatest_stamp-stamp.result;
  len = c.in-Some.len;
  left = c.in_ok-vol.ensures.held.0;
  is = says_put c.args.rows.now.items c.args.leftovers.now.items c.args.id c.requires.nothing c.in-Some.vol c.args.rev c.greatest_stamp-stamp.result c.in-Some.len Waiting
      c.in_ok-vol.ensures.held.0 _ _ c.in_ok-push_row.ensures c.in_ok-vol.ensures.held.2.own;
  greatest = c.greatest_stamp-stamp.ensures;
  held = c.in_ok-vol.ensures.held.1;
  first = subst (λ (f : Option (ℕ × ℕ)). IsHeldFirst (g.D.PoolDisks.worlds c.hold_all.new.disks) c.args.id c.args.places.now f) c.in-Some.is c.in_ok-vol.ensures.first;
}

pub returns-clause-others : goal.returns-clause-others
returns-clause-others g c = keeps_others c.args.id c.args.rev _ _ c.args.leftovers.now.items _
    (inr (record {
      row = row_of c.args.id c.in-Some.vol c.args.rev c.greatest_stamp-stamp.result c.in-Some.len Waiting;
      is = c.in_ok-push_row.ensures;
      own = refl;
      drawn = refl;
      idle = refl;
    }))
    c.in_ok-vol.ensures.held.2.others
