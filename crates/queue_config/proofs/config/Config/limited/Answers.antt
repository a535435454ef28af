use Rattle.std.proofs.Common.{sym}
use Rattle.std.specs.Str.{bytes_eq}
use Rattle.queue_config.specs.Ranges.{IsClass}
use Rattle.queue_config.proofs.ErrorLemmas.{All-find}
use Rattle.queue_config.proofs.config.Config.limited.Goals as goal

pub limited_by-requires : goal.limited_by-requires
limited_by-requires c =
    let class : IsClass c.in-Some.class.now = All-find IsClass (λ class. bytes_eq class.name c.args.class.now) c.args.self.now.classes c.in-Some.class.now c.requires.ranges.classes (sym c.in-Some.ensures) in
    class.limit c.in-Some-limit.limit c.in-Some-limit.is
