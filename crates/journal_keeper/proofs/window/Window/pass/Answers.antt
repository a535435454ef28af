use Rattle.journal_keeper.proofs.Windows.{passed}
use Rattle.journal_keeper.proofs.window.Window.pass.Goals as goal

pub returns : goal.returns
returns c = passed c.self.inside.bytes.items c.self.inside.from c.self.inside.to c.args.n c.args.self.now c.self.view_is c.requires
