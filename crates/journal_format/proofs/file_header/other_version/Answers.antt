use Rattle.std.proofs.Common.{drop}
use Rattle.journal_format.proofs.HeaderLaws.{version_text}
use Rattle.journal_format.proofs.file_header.other_version.Goals as goal

pub returns-else-n-eq1 : goal.returns-else-n-eq1
returns-else-n-eq1 c = (
  c.from_be_bytes-n.type_inv,
  c.if-n-eq1.false,
  (drop 12 c.args.bytes.now, version_text c.args.bytes.now c.header-live.result c.from_be_bytes-n.result c.told-bytes c.fits-bytes c.header-live.ensures c.if-ne.ensures c.from_be_bytes-n.ensures),
)
