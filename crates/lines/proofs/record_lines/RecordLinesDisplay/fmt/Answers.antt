use Rattle.std.proofs.Common.{◌++◌, ◌∙◌, append_assoc, arith, rules}
use Rattle.std.proofs.Output.{has_written_append}
use Rattle.lines.specs.Records.{handed_text}
use Rattle.sheet.specs.Readers.{record_or_fault}
use Rattle.lines.proofs.record_lines.RecordLinesDisplay.fmt.Goals as goal

pub loop-handed-preserved : goal.loop-handed-preserved
loop-handed-preserved g c = record {
  can = tt;
  finite = tt;
  few = grind arith;
  written = λ plain.
      let so_far = c.loop-handed.invariant.written plain in (
        so_far.0 ++ handed_text c.loop-handed.slot (record_or_fault c.in-Some.handed),
        has_written_append _ _ _ _ _ _ so_far.1 (search rules),
        append_assoc so_far.0 _ _ ∙ rw c.in-Some.ensures.steps at so_far.2,
      );
}
