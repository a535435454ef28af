use Rattle.journal_format.proofs.WholeNumbers.{low_slice, on_ok}
use Rattle.journal_format.proofs.writer.put_number.Goals as goal

pub returns : goal.returns
returns c =
    on_ok c.extend_from_slice.result c.extend_from_slice.new.self.items c.args.out.now.items _ _ c.extend_from_slice.ensures.items
    (low_slice c.args.width c.args.n c.to_be_bytes.result c.requires c.to_be_bytes.ensures)
