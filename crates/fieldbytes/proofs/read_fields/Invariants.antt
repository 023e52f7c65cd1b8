-- `fieldbytes::read_fields` meets its contract. The loop's invariant (`Reading`): what is read, with the bytes that are left, is what the whole list
-- of bytes has. `read_more` reads a byte, by cases on its bit 7 (`reads_output`, `reads_input`) and on whether it is too low or has bit 6 (`reads_low`,
-- `reads_bit`, `reads_rising`).
use Rattle.fieldbytes.proofs.FieldBytes.{Reading}
use Rattle.fieldbytes.proofs.read_fields.Given as goal

abbrev pub invariant-loop-b : goal.invariant-loop-b
invariant-loop-b l = Reading l.bytes l.b-index l.covered l.outputs l.rising l.least
