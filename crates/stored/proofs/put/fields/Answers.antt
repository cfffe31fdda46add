use Rattle.stored.proofs.Writing.{five_runs}
use Rattle.stored.proofs.put.fields.Goals as goal

pub returns : goal.returns
returns c =
    five_runs _ c.args.epoch_year _ c.args.bytes.now c.requires.each _ _ _ _ _ c.year.ensures c.list.ensures c.list-2.ensures c.list-3.ensures c.list-4.ensures
    _ _ _ _ c.split_at_mut-first.ensures.back c.split_at_mut-first-2.ensures.back c.split_at_mut-first-3.ensures.back c.split_at_mut-first-4.ensures.back
