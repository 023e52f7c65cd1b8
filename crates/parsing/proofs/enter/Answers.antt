-- `parsing::enter` meets its contract: one that is hexadecimal is a frame.
use Rattle.parsing.proofs.Entries.{bad_enters, good_framed, good_enters}
use Rattle.parsing.proofs.enter.Goals as goal

pub enter_frame-requires : goal.enter_frame-requires
enter_frame-requires c = (good_framed _ _ _ c.in-Ok.ensures.result_value c.in-Ok.ensures.frame_after, c.requires)

pub returns-in-Ok : goal.returns-in-Ok
returns-in-Ok c = good_enters _ c.decode.new.frame _ c.in-Ok.ensures.result_value c.in-Ok.ensures.frame_after _ _ c.enter_frame.ensures

pub returns-in_default : goal.returns-in_default
returns-in_default c = bad_enters _ _ _ c.in_default.ensures.result_value
