use Rattle.std.proofs.Common.{sym}
use Rattle.std.specs.Str.{bytes_eq}
use Rattle.queue_config.specs.Ranges.{IsClass}
use Rattle.queue_config.proofs.ErrorLemmas.{All-find}
use Rattle.queue_config.proofs.config.Config.rules.Goals as goal

pub returns-in-Some-clause-rules : goal.returns-in-Some-clause-rules
returns-in-Some-clause-rules c =
    let class : IsClass c.in-Some.class.now = All-find IsClass (λ class. bytes_eq class.name c.args.class.now) c.args.self.now.classes c.in-Some.class.now c.requires.ranges.classes (sym c.in-Some.ensures) in
    rw c.as_slice.ensures class.rules

pub returns-in-Some-clause-count : goal.returns-in-Some-clause-count
returns-in-Some-clause-count c =
    let class : IsClass c.in-Some.class.now = All-find IsClass (λ class. bytes_eq class.name c.args.class.now) c.args.self.now.classes c.in-Some.class.now c.requires.ranges.classes (sym c.in-Some.ensures) in
    rw c.as_slice.ensures class.rule_count
