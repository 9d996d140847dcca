use Rattle.writing.proofs.SheetTrips.{tells_back}
use Rattle.writing.proofs.sheet_writer.write_sheet.Goals as goal

pub returns-then-out-needed-clause-tells_back : goal.returns-then-out-needed-clause-tells_back
returns-then-out-needed-clause-tells_back g c = tells_back _

pub returns-clause-tells_back : goal.returns-clause-tells_back
returns-clause-tells_back g c = tells_back _
