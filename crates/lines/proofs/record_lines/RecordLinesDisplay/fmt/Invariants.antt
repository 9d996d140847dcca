use Rattle.std.proofs.Common.{◌≡◌, ℕ, ◌+◌, ◌≤◌, List, ◌++◌, length}
use Rattle.std.specs.Fmt.{HasWritten, IsPlainFormatter}
use Rattle.lines.specs.Records.{all_text, records_text}
use Rattle.sheet.specs.Readers.{records_left}
use Rattle.lines.proofs.record_lines.RecordLinesDisplay.fmt.Given as goal

abbrev pub invariant-loop-handed : goal.invariant-loop-handed
invariant-loop-handed g l = record {
  can : (goal.iterator-loop-handed g).can_next l.handed-iterator;
  finite : (goal.iterator-loop-handed g).is_finite l.handed-iterator;
  few : l.slot + length (records_left l.handed-iterator) ≤ 229;
  written : IsPlainFormatter l.initial.f → (done : List ℕ) × HasWritten g.W.Write.write_str_gives l.initial.f done l.f
      × (done ++ all_text l.slot (records_left l.handed-iterator) ≡ records_text l.fn.self.sheet.now);
}
