-- `fieldset::Members::next` meets its contract: it takes the lowest-numbered field, and a set of which a field is taken is a smaller number
-- (`first_falls`), so that the fields come to an end.
use Rattle.std.proofs.Common.{◌<◌, arith}
use Rattle.fieldset.proofs.Emptying.{first_falls}
use Rattle.fieldset.proofs.MembersIterator.next.Goals as goal

pub returns-clause-goes : goal.returns-clause-goes
returns-clause-goes c =
    let h : c.without_lowest-self.result < c.args.self.now.rest = first_falls c.first-f.ensures c.without_lowest-self.ensures in
    grind (arith, h)
