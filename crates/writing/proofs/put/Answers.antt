-- `writing::put` meets its contract: two stores one after the other are the digits of one byte (`byte_put`).
use Rattle.writing.proofs.Lines.{byte_put}
use Rattle.writing.proofs.put.Goals as goal

pub returns : goal.returns
returns c = byte_put _ _ _ _ _ _ c.digits_of.ensures c.store.ensures c.store-2.ensures
