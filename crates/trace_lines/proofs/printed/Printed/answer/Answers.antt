use Rattle.trace_lines.proofs.PrintedLemmas.{claimed_ids-whole}
use Rattle.trace_lines.proofs.printed.Printed.answer.Goals as goal

pub printed_json-requires : goal.printed_json-requires
printed_json-requires c = claimed_ids-whole _ _ c.in_ok-claimed_ids-in-Polled.ensures
