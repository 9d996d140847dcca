use Rattle.settlement.proofs.Calls.{settle_sound}
use Rattle.settlement.proofs.book.Book.settle_at.Goals as goal

pub returns : goal.returns
returns c = settle_sound c.args.self.now c.pay.new.self c.args.party c.due-due.result c.pay.result c.requires c.due-due.ensures.in_whole_cents c.pay.ensures.less_before c.pay.ensures.in_all
