use Rattle.std.proofs.Common.{◌∙◌, inl, refl, ap}
use Rattle.http_wire.specs.Reply.{reply_text}
use Rattle.queue_cli.specs.LastText.{printed_line, settings_line}
use Rattle.queue_cli.proofs.Ends.{last_written}
use Rattle.queue_cli.proofs.end.End.write_last.Goals as goal

pub returns-in_ok-fault_reply-in-BadInput-clause-reported : goal.returns-in_ok-fault_reply-in-BadInput-clause-reported
returns-in_ok-fault_reply-in-BadInput-clause-reported g c =
    rw c.in-BadInput.is (inl (record {
      same = refl;
      written = last_written c.write_reply.result _ _ (reply_text c.in_ok-fault_reply-in-BadInput.field-0) _ (ap reply_text c.in_ok-fault_reply-in-BadInput.ensures.reply) c.write_reply.ensures.whole c.write_reply.ensures.prefix c.write_reply.ensures.cause;
    }))

pub returns-in_ok-bad_line-in-BadLine-clause-reported : goal.returns-in_ok-bad_line-in-BadLine-clause-reported
returns-in_ok-bad_line-in-BadLine-clause-reported g c =
    rw c.in-BadLine.is (inl (record {
      same = refl;
      written = last_written c.write_two.result _ _ (printed_line c.as_slice.result.now) _ (ap printed_line (c.as_slice.ensures ∙ c.in_ok-bad_line-in-BadLine.ensures)) c.write_two.ensures.whole c.write_two.ensures.prefix c.write_two.ensures.cause;
    }))

pub returns-in_ok-line-in-BadSettings-clause-reported : goal.returns-in_ok-line-in-BadSettings-clause-reported
returns-in_ok-line-in-BadSettings-clause-reported g c =
    rw c.in-BadSettings.is (inl (record {
      same = refl;
      written = last_written c.write_all.result _ _ c.as_bytes.result.now _ (c.as_bytes.ensures.value ∙ c.in_ok-line-in-BadSettings.ensures ∙ ap (settings_line c.in-BadSettings.number) c.as_str.ensures) c.write_all.ensures.whole c.write_all.ensures.prefix c.write_all.ensures.cause;
    }))
