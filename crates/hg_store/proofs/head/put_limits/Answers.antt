use Rattle.hg_store.proofs.Heads.{limits_put}
use Rattle.hg_store.proofs.head.put_limits.Goals as goal

pub returns : goal.returns
returns g c =
    limits_put c.args.limits.now c.args.out.now.items c.put_u32.new.out.items c.put_u32-2.new.out.items
    c.put_u32-3.new.out.items c.put_u32-4.new.out.items c.put_u32-5.new.out.items c.put_u32-6.new.out.items
    c.put_u32-7.new.out.items c.in_ok-put_u32.ensures c.in_ok-put_u32-2.ensures c.in_ok-put_u32-3.ensures
    c.in_ok-put_u32-4.ensures c.in_ok-put_u32-5.ensures c.in_ok-put_u32-6.ensures c.in_ok-put_u32-7.ensures
