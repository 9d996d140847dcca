use Rattle.std.proofs.Common.{◌≡◌, ◌+◌, ◌*◌, ◌≤◌, ◌++◌, length, take}
use Rattle.sheet.specs.Heads.{opening}
use Rattle.writing.specs.Bytes.{head_bytes, slots_bytes}
use Rattle.sheet.specs.declared.length.TheConstants.{HEAD_BYTES, RECORD_BYTES}
use Rattle.writing.proofs.sheet_writer.put_sheet.Given as goal

abbrev pub invariant-loop-byte : goal.invariant-loop-byte
invariant-loop-byte g l = l.sheet.items ≡ take l.byte-index opening

abbrev pub invariant-loop-slot : goal.invariant-loop-slot
invariant-loop-slot g l =
    let m = g.S.PriceSource.means l.fn.source in
    record { written : l.sheet.items ≡ head_bytes m ++ slots_bytes m.slots l.slot; room : length l.sheet.items ≤ HEAD_BYTES + RECORD_BYTES * l.slot }
