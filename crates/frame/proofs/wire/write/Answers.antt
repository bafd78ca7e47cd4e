-- `frame::wire::write` meets its contract: what is laid is the definition's frame.
-- Assumes nothing.
use Rattle.std.proofs.Common.{arith}
use Rattle.frame.proofs.Laws.Wire.{write-laid}
use Rattle.frame.proofs.wire.write.Goals as goal

pub returns : goal.returns
returns c =
    let args = c.args in
    write-laid _ args.lead.now args.rest.now _ _ _ c.lay.ensures (omega arith) (omega arith) (omega arith)
