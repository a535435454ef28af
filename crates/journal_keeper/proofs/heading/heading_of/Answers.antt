use Rattle.std.proofs.Common.{arith}
use Rattle.journal_keeper.proofs.Headings.{whole_heading, few_foreign, foreign, version_there}
use Rattle.journal_keeper.proofs.heading.heading_of.Goals as goal

pub returns-then-n-eq16 : goal.returns-then-n-eq16
returns-then-n-eq16 c = λ file count same. whole_heading c.args.head.now file c.args.n _ (omega arith) c.if-n-eq16.true count same c.read_header.ensures

pub returns-then-n-lt12 : goal.returns-then-n-lt12
returns-then-n-lt12 c = λ file count same. few_foreign c.args.head.now file c.args.n (omega arith) (omega arith) c.if-head-eq0.false c.if-n-eq16.false count same c.if-n-lt12.true

pub returns-in-Version : goal.returns-in-Version
returns-in-Version c = λ file count same. version_there c.args.head.now file c.args.n (omega arith) (omega arith) c.if-head-eq0.false c.if-n-eq16.false count same c.in-Version.version (omega arith) c.in-Version.ensures

pub returns-in-Foreign : goal.returns-in-Foreign
returns-in-Foreign c = λ file count same. foreign c.args.head.now file c.args.n (omega arith) (omega arith) c.if-head-eq0.false c.if-n-eq16.false count same c.in-Foreign.ensures
