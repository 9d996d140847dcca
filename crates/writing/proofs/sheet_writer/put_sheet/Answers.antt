use Rattle.std.proofs.Common.{◌≡◌, ◌≤◌, length, ap, ◌∙◌, arith}
use Rattle.std.proofs.lemmas.List.{take_all}
use Rattle.sheet.specs.Heads.{opening}
use Rattle.writing.proofs.WriteSlots.{all_put, head_put, slot_put}
use Rattle.writing.proofs.sheet_writer.put_sheet.Goals as goal

pub loop-slot-init : goal.loop-slot-init
loop-slot-init g c =
    let m = g.S.PriceSource.means c.args.source.now in
    let i : 4 ≤ c.loop-byte.byte-index = omega arith in
    let n : length c.loop-byte.sheet.items ≡ 4 = ap length (c.loop-byte.invariant ∙ take_all c.loop-byte.byte-index opening i) in
    let q = c.put_quantity.ensures in
    let p = c.put_avoided.ensures in
    record {
      written = head_put m c.loop-byte.byte-index c.zone_net.result c.avoided.result c.loop-byte.sheet.items c.put_quantity.new.out.items c.put_avoided.new.out.items i c.zone_net.ensures c.avoided.ensures c.loop-byte.invariant q.bytes p.bytes;
      room = omega (arith, n, q.len, p.len);
    }

pub loop-slot-preserved : goal.loop-slot-preserved
loop-slot-preserved g c = grind (arith, slot_put)

pub returns : goal.returns
returns g c = grind (arith, all_put)
