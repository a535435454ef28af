use Rattle.std.proofs.Common.{◌≡◌, ◌++◌, length}
use Rattle.std.specs.Str.{IsUtf8}
use Rattle.journal_format.proofs.TextSteps.{text_again}
use Rattle.journal_format.proofs.reader.Reader.str.Goals as goal

pub returns-in-Some-clause-reads : goal.returns-in-Some-clause-reads
returns-in-Some-clause-reads c =
    let p : (c.args.self.now.rest.now ≡ c.in-Some.text.now ++ c.in-Some.rest.now) × (length c.in-Some.text.now ≡ c.args.len) × IsUtf8 c.in-Some.text.now = c.in-Some.ensures in
    text_again c.args.len c.in-Some.text.now c.in-Some.rest.now c.args.self.now.rest.now p.0 p.1 p.2
