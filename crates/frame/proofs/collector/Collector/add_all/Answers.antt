-- `frame::collector::Collector::add_all` meets its contract: bytes put at the count are added, and where they do not fit none is.
-- Assumes nothing.
use Rattle.std.proofs.Common.{arith, rules}
use Rattle.frame.proofs.Laws.Collector.{add-fits, add-put, add-short}
use Rattle.frame.proofs.collector.Collector.add_all.Goals as goal

pub overflow_add-self : goal.overflow_add-self
overflow_add-self c = omega (arith, add-fits _ _ _ _ c.put.ensures c.in-Ok.is (search rules))

pub returns-in-Ok : goal.returns-in-Ok
returns-in-Ok c = add-put _ _ _ _ c.put.ensures c.in-Ok.is (search rules)

pub returns-in-Err : goal.returns-in-Err
returns-in-Err c = add-short _ _ _ _ c.put.ensures c.in-Err.is (search rules)
