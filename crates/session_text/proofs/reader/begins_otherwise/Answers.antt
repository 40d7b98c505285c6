use Rattle.std.proofs.Common.{sym}
use Rattle.session_text.proofs.SessionLineLemmas.{letter_apart}
use Rattle.session_text.proofs.reader.begins_otherwise.Goals as goal

pub returns-then-is_ascii_lowercase : goal.returns-then-is_ascii_lowercase
returns-then-is_ascii_lowercase c = letter_apart c.args.bytes.now c.in-len1-up.len_at_least (sym c.if-is_ascii_lowercase.ensures.value)
