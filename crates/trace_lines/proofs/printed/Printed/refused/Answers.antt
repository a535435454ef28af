use Rattle.std.proofs.Common.{◌∙◌, sym, rules}
use Rattle.trace_lines.proofs.PrintedLemmas.{refused_text-replied}
use Rattle.trace_lines.proofs.printed.Printed.refused.Goals as goal

pub returns-in_ok-reply_refused-in_default : goal.returns-in_ok-reply_refused-in_default
returns-in_ok-reply_refused-in_default c =
    c.printed_body.ensures ∙ sym (refused_text-replied c.args.refused.now _ (search rules) c.in_ok-reply_refused-in_default.ensures.reply)
