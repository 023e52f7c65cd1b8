-- `sessions::output_from` meets its contract: what is told of a text, from no tally on, is what the program writes for it.
use mathlib.Core.Path.{◌≡◌}
use borrow.Author.Rules.{rules}
use Rattle.tally.specs.Tallies.{no_tally}
use Rattle.sessions.proofs.Resuming.{length_told, too_long_told}
use Rattle.sessions.proofs.output_from.Goals as goal

pub returns-in-Some : goal.returns-in-Some
returns-in-Some c =
    let s = c.args in
    let r = c.run_from in
    let e : c.default.result ≡ no_tally = search rules in
    let w = length_told s.s s.text.now _ _ _ r.result (rw e at r.ensures.told) c.in-Some.n c.in-Some.is r.ensures.bounded in
    record { out_after = w.0; value = w.1 }

pub returns-in-None : goal.returns-in-None
returns-in-None c =
    let s = c.args in
    let r = c.run_from in
    let e : c.default.result ≡ no_tally = search rules in
    let w = too_long_told s.s s.text.now _ _ _ r.result (rw e at r.ensures.told) c.in-None.is _ _ c.put_too_long.ensures.out_after c.put_too_long.ensures.value in
    record { out_after = w.0; value = w.1 }
