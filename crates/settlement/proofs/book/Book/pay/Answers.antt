use Rattle.std.proofs.Common.{refl}
use Rattle.std.proofs.Math.Seq.{map-set_same}
use Rattle.std.proofs.lemmas.List.{map-set}
use Rattle.settlement.specs.declared.party.Party.{Party}
use Rattle.settlement.proofs.book.Book.pay.Goals as goal

pub returns-clause-in_all : goal.returns-clause-in_all
returns-clause-in_all c = record {
  counts = (refl, refl);
  quarters = refl;
  imbalances = map-set_same (λ (p : Party). p.imbalances) c.args.self.now.parties c.args.party _ c.index-parties-party.result refl;
  paid = map-set (λ (p : Party). p.paid) c.args.self.now.parties c.args.party _;
}
