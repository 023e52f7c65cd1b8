-- What reading answers, by the reply's bytes.
use Rattle.panel.specs.Answers.{Reply, reply_bytes}
use Rattle.sheet.specs.declared.Sheet.{Sheet}
use Rattle.sheet.specs.Commands.{Answer}

-- the sheet afterwards, and the reply
abbrev pub answer_of : Sheet → Reply → Answer
answer_of s reply = record { sheet = s; reply = reply_bytes reply }
