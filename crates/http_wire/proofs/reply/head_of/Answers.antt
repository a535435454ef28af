-- Each piece as it was appended.
use Rattle.http_wire.proofs.reply.head_of.Goals as goal

pub returns : goal.returns
returns c =
    rw (
      c.push_str-9.ensures.bytes,
      c.push_str-8.ensures.bytes,
      c.push_str-7.ensures.bytes,
      c.push_str-6.ensures.bytes,
      c.push_str-5.ensures.bytes,
      c.push_str-4.ensures.bytes,
      c.push_str-3.ensures.bytes,
      c.push_str-2.ensures.bytes,
      c.push_str.ensures.bytes,
      c.new-head.ensures,
      c.format.ensures.text,
      c.reason.ensures.phrase,
      c.media_type.ensures.value,
      c.format-2.ensures.text,
      c.as_slice.ensures,
    )
