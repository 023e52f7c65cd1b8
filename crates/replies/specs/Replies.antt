-- The bytes of a reply to a command.
use Rattle.std.specs.Prelude.{ℕ, ◌+◌, ◌*◌, List, ◌++◌, take}
use Rattle.panel.specs.Answers.{Reply, reply_bytes, plan_rest, rows_length}
use Rattle.frames.specs.declared.Command.{Command}
use Rattle.frames.specs.declared.Command.TheVariants.{Open, Add, Remove, Touch, Plan, Change, Enter, Relate, Refused}

-- the characters of the longest reply's line: a plan of 64 fields has 2 + 3 * 64 bytes, and the line an LF
abbrev pub longest : ℕ
longest = 2 * (2 + rows_length) + 1

-- how many bytes of rows the reply to a command has: those of a plan
abbrev pub rest_of : Command → Reply → ℕ
rest_of (Open n) reply = 0
rest_of (Add id level) reply = 0
rest_of (Remove id) reply = 0
rest_of (Touch f) reply = 0
rest_of Plan reply = plan_rest reply
rest_of (Change id level) reply = 0
rest_of (Enter f b) reply = 0
rest_of (Relate id form) reply = 0
rest_of (Refused r) reply = 0

-- the reply to a command, for a plan with the first rows of the buffer
abbrev pub whole_reply : Command → Reply → List ℕ → List ℕ
whole_reply command reply rows = reply_bytes reply ++ take (rest_of command reply) rows
