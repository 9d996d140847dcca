use Rattle.writing.proofs.SheetTrips.{tells_back}
use Rattle.writing.proofs.sheet_writer.sheet_vec.Goals as goal

pub returns-clause-tells_back : goal.returns-clause-tells_back
returns-clause-tells_back g c = tells_back _
