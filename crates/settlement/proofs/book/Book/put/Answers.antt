use Rattle.std.proofs.Common.{set, refl, ap, ◌∙◌}
use Rattle.std.proofs.Math.Seq.{map-set_same}
use Rattle.std.proofs.lemmas.List.{map-set}
use Rattle.settlement.specs.Books.{imbalances_in}
use Rattle.settlement.specs.declared.party.Party.{Party}
use Rattle.settlement.proofs.Readings.{row_of}
use Rattle.settlement.proofs.book.Book.put.Goals as goal

pub returns : goal.returns
returns c =
    let b = c.args.self.now in
    let q = c.args.party in
    record {
      counts = (refl, refl);
      quarters = refl;
      imbalances = map-set (λ (x : Party). x.imbalances) b.parties q _ ∙ ap (λ r. set (imbalances_in b) q (set r c.args.period c.args.imbalance)) (row_of b q c.index-parties-party.result c.requires.party);
      paid = map-set_same (λ (x : Party). x.paid) b.parties q _ c.index-parties-party.result refl;
    }
