use Rattle.queue_replies.proofs.Floats.{in_answer}
use Rattle.queue_replies.proofs.answers.reply_of.Goals as goal

pub json_reply-requires : goal.json_reply-requires
json_reply-requires c = rw c.in_ok-body_of.ensures (in_answer c.args.answer.now)
