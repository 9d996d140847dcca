use Rattle.source.specs.declared.slot.TheConstants.{SLOTS}
use Rattle.sheet.specs.Readers.{records_from, records_left}
use Rattle.sheet.proofs.Telling.{Sofar}
use Rattle.sheet.proofs.sheet.tell.Given as goal

abbrev pub invariant-loop-record : goal.invariant-loop-record
invariant-loop-record l = record {
  can : goal.iterator-loop-record.can_next l.record-iterator;
  finite : goal.iterator-loop-record.is_finite l.record-iterator;
  told : Sofar (records_from SLOTS l.fn.bytes 0 l.fn.head.end) (records_left l.record-iterator) l.slot l.slots;
}
