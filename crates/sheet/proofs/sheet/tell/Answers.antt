use Rattle.std.proofs.Common.{arith}
use Rattle.sheet.specs.Readers.{parts_of}
use Rattle.sheet.proofs.Telling.{more}
use Rattle.sheet.proofs.sheet.tell.Goals as goal

pub loop-record-preserved : goal.loop-record-preserved
loop-record-preserved c = record {
  can = tt;
  finite = tt;
  told = more (parts_of c.in_ok-record.field-0) c.slot.result (grind arith) c.slot.ensures c.loop-record.invariant.told;
}
